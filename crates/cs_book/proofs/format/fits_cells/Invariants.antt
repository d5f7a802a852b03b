use Rattle.cs_schedule.specs.Spelling.{IsCell}
use Rattle.cs_book.proofs.Upto.{UpTo}
use Rattle.cs_book.proofs.format.fits_cells.Given as goal

-- the ones so far can be written
abbrev pub invariant-loop-cell : goal.invariant-loop-cell
invariant-loop-cell l = UpTo IsCell l.cell-index l.items
