use Rattle.cs_schedule.specs.Spelling.{IsChange}
use Rattle.cs_book.proofs.Upto.{UpTo}
use Rattle.cs_book.proofs.format.fits_changes.Given as goal

-- the ones so far can be written
abbrev pub invariant-loop-change : goal.invariant-loop-change
invariant-loop-change l = UpTo IsChange l.change-index l.changes
