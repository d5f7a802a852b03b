use Rattle.std.proofs.Common.{◌≡◌, length}
use Rattle.cs_types.specs.Digits.{all_zeros}
use Rattle.cs_types.proofs.digits.are_zeros.Given as goal

abbrev pub invariant-loop-rest : goal.invariant-loop-rest
invariant-loop-rest l = all_zeros l.rest ≡ all_zeros l.bytes

abbrev pub decreases-loop-rest : goal.decreases-loop-rest
decreases-loop-rest l = length l.rest
