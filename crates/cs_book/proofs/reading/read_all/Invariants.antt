use Rattle.std.proofs.Common.{◌≡◌, ◌++◌, List, length}
use Rattle.cs_journal.specs.declared.journal.Stored.{Stored}
use Rattle.cs_schedule.specs.declared.entry.Entry.{Entry}
use Rattle.cs_book.specs.Reading.{AreRead, IsTold}
use Rattle.cs_book.proofs.reading.read_all.Given as goal

-- the payloads so far are entries, which are told
abbrev pub invariant-following : goal.invariant-following
invariant-following l = (before : List Stored) × (es : List Entry) × (before ++ l.rest ≡ l.stored) × AreRead before es × IsTold l.telling es

abbrev pub decreases-following : goal.decreases-following
decreases-following l = length l.rest
