use Rattle.std.proofs.Common.{◌≡◌, ◌<◌, ◌^◌, true, length}
use Rattle.std.specs.Str.Parse.{digits_value_after}
use Rattle.cs_types.specs.Digits.{all_digits}
use Rattle.cs_types.proofs.digits.with_digits.Given as goal

abbrev pub invariant-loop-rest : goal.invariant-loop-rest
invariant-loop-rest l = (l.longer < 10 ^ 38) × (all_digits l.rest ≡ true) × (digits_value_after 10 l.longer l.rest ≡ digits_value_after 10 l.number l.digits)

abbrev pub decreases-loop-rest : goal.decreases-loop-rest
decreases-loop-rest l = length l.rest
