use Rattle.cs_schedule.specs.Spelling.{IsChild}
use Rattle.cs_book.proofs.Upto.{UpTo}
use Rattle.cs_book.proofs.format.fits_children.Given as goal

-- the ones so far can be written
abbrev pub invariant-loop-child : goal.invariant-loop-child
invariant-loop-child l = UpTo IsChild l.child-index l.children
