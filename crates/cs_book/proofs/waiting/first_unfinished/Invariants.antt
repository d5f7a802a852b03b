use Rattle.std.proofs.Common.{◌≡◌, length}
use Rattle.cs_book.specs.Waiting.{first_unfinished}
use Rattle.cs_book.proofs.waiting.first_unfinished.Given as goal

abbrev pub invariant-loop-rest : goal.invariant-loop-rest
invariant-loop-rest l = first_unfinished l.rest ≡ first_unfinished l.fn.rows

abbrev pub decreases-loop-rest : goal.decreases-loop-rest
decreases-loop-rest l = length l.rest
