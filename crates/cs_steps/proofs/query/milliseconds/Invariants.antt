use Rattle.std.proofs.Common.{◌≡◌, ◌≤◌, true, drop}
use Rattle.std.specs.Str.Parse.{digits_value_after}
use Rattle.cs_types.specs.Digits.{all_digits}
use Rattle.cs_steps.proofs.query.milliseconds.Given as goal

abbrev pub invariant-loop-digit : goal.invariant-loop-digit
invariant-loop-digit l = (l.number ≤ 300000) × (all_digits (drop l.digit-index l.digits) ≡ true) × (digits_value_after 10 l.number (drop l.digit-index l.digits) ≡ digits_value_after 10 0 l.digits)
