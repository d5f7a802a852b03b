use Rattle.std.proofs.Common.{◌≡◌, ◌<◌, length}
use Rattle.cs_schedule.specs.Index.{number_from, token_number}
use Rattle.cs_schedule.proofs.index.token_number.Given as goal

abbrev pub invariant-loop-rest : goal.invariant-loop-rest
invariant-loop-rest l = (number_from l.number l.rest ≡ token_number l.token) × (l.number < 4294967291)

abbrev pub decreases-loop-rest : goal.decreases-loop-rest
decreases-loop-rest l = length l.rest
