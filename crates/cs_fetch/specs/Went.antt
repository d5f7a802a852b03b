-- How a READ goes on with one record. This project's own.
use Rattle.std.specs.Prelude.{Bool, true, false, Option, Some, None, cond, nat_le}
use Rattle.cs_records.specs.declared.records.Record.{Record}
use Rattle.cs_link.specs.declared.batch.Limits.{Limits}
use Rattle.cs_link.specs.declared.breach.Breach.{Breach}
use Rattle.cs_fetch.specs.declared.so_far.Tally.{Tally}
use Rattle.cs_fetch.specs.declared.taken.Went.{Went}
use Rattle.cs_fetch.specs.Fetch.{counted_in, idled, is_full}

abbrev pub went_of : Limits → Tally → Record → Option Breach → Bool → Went
went_of limits tally item None true = cond (is_full limits (counted_in tally item) item) Went.Fills (Went.On (counted_in tally item))
went_of limits tally item None false = cond (nat_le 8192 (idled tally).idle) Went.Stalls (Went.On (idled tally))
went_of limits tally item (Some breach) adds = Went.Breaks breach
