use Rattle.std.proofs.Common.{◌≡◌, ◌<◌, ◌^◌, []}
use Rattle.std.specs.Str.Parse.{digits_value_after}
use Rattle.cs_types.specs.Digits.{first_digits}
use Rattle.cs_types.proofs.digits.with_zeros.Given as goal

abbrev pub invariant-loop-left : goal.invariant-loop-left
invariant-loop-left l = (l.longer < 10 ^ 38) × (digits_value_after 10 l.longer (first_digits l.left []) ≡ digits_value_after 10 l.number (first_digits l.places []))

abbrev pub decreases-loop-left : goal.decreases-loop-left
decreases-loop-left l = l.left
