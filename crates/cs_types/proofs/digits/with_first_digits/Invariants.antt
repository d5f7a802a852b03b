use Rattle.std.proofs.Common.{◌≡◌, ◌<◌, ◌^◌, true, length}
use Rattle.std.specs.Str.Parse.{digits_value_after}
use Rattle.cs_types.specs.Digits.{all_digits, first_digits}
use Rattle.cs_types.proofs.digits.with_first_digits.Given as goal

abbrev pub invariant-loop-rest : goal.invariant-loop-rest
invariant-loop-rest l = (l.longer < 10 ^ 38) × (all_digits l.rest ≡ true) × (digits_value_after 10 l.longer (first_digits l.left l.rest) ≡ digits_value_after 10 l.number (first_digits l.places l.digits))

abbrev pub decreases-loop-rest : goal.decreases-loop-rest
decreases-loop-rest l = length l.rest
