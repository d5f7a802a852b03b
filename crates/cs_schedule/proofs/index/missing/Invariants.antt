use Rattle.std.proofs.Common.{◌≡◌, length}
use Rattle.cs_schedule.specs.Board.{has_ended}
use Rattle.cs_schedule.specs.Index.{missing}
use Rattle.cs_schedule.proofs.index.missing.Given as goal

abbrev pub invariant-loop-rest : goal.invariant-loop-rest
invariant-loop-rest l = missing (has_ended l.rows) l.rest ≡ missing (has_ended l.rows) l.tokens

abbrev pub decreases-loop-rest : goal.decreases-loop-rest
decreases-loop-rest l = length l.rest
