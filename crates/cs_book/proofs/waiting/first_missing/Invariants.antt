use Rattle.std.proofs.Common.{◌≡◌, length}
use Rattle.cs_book.specs.Waiting.{first_missing}
use Rattle.cs_book.proofs.waiting.first_missing.Given as goal

abbrev pub invariant-loop-rest : goal.invariant-loop-rest
invariant-loop-rest l = first_missing l.board.rows l.rest ≡ first_missing l.board.rows l.fn.tokens

abbrev pub decreases-loop-rest : goal.decreases-loop-rest
decreases-loop-rest l = length l.rest
