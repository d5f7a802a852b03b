-- Why nothing is made for an entry. This project's own.
use Rattle.std.specs.Prelude.{◌≡◌, ◌<◌, ⊤, ℕ, Option, None, Some}
use Rattle.cs_journal.specs.Rows.{limit}
use Rattle.cs_journal.specs.State.{length_after}
use Rattle.cs_schedule.specs.declared.entry.Entry.{Entry}
use Rattle.cs_schedule.specs.Spelling.{payload}
use Rattle.cs_book.specs.declared.fault.ReserveFault.{ReserveFault}
use Rattle.cs_book.specs.declared.fault.ReserveFault.TheVariants as faults

-- the journal would be too long with the entry, or there was no memory
abbrev pub IsAsBig : ℕ → Entry → ReserveFault → Type 0
IsAsBig gate e (faults.Breach breach) = ⊥
IsAsBig gate e (faults.Full length) = (length ≡ length_after gate (payload e)) × (limit < length)
IsAsBig gate e faults.Memory = ⊤

-- there is an entry, and it is so
abbrev pub IsTooBig : ℕ → Option Entry → ReserveFault → Type 0
IsTooBig gate None fault = ⊥
IsTooBig gate (Some e) fault = IsAsBig gate e fault
