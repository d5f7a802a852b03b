use Rattle.std.proofs.Common.{sym, ◌∙◌}
use Rattle.cs_types.specs.Digits.{first_digits}
use Rattle.cs_types.proofs.NumericReading.{whole_too_large, whole_read}
use Rattle.cs_types.proofs.numeric.read_billionths.Goals as goal

pub returns-in_err-number : goal.returns-in_err-number
returns-in_err-number c = rw c.from_residual.ensures (whole_too_large c.args.whole.now (first_digits 9 c.args.fraction.now) (sym c.with_digits.ensures ∙ c.in_err-number.was))

pub returns : goal.returns
returns c = c.with_first_digits.ensures ∙ whole_read c.in_ok-number.number c.args.whole.now (first_digits 9 c.args.fraction.now) (sym c.with_digits.ensures ∙ c.in_ok-number.was)
