use Rattle.std.proofs.Common.{◌≡◌, true, ap, sym, ◌∙◌, arith}
use Rattle.cs_types.specs.Digits.{is_digits}
use Rattle.cs_json_reading.proofs.Numbers.{digits_bad, digits_fit, digits_over, digits_out}
use Rattle.cs_json_reading.proofs.text.digits_of.Goals as goal

pub returns-then-not-is_digits : goal.returns-then-not-is_digits
returns-then-not-is_digits c = digits_bad c.args.text.now (ap is_digits (sym c.as_bytes.ensures.value) ∙ sym c.if-not-is_digits.ensures)

pub returns-then-n-lt-WHOLE_END : goal.returns-then-n-lt-WHOLE_END
returns-then-n-lt-WHOLE_END c =
    let digits : is_digits c.args.text.now ≡ true = ap is_digits (sym c.as_bytes.ensures.value) ∙ sym c.if-not-is_digits.ensures in
    digits_fit c.args.text.now c.in-Ok.n digits c.in-Ok.ensures.value.0.1 (omega arith)

pub returns-else-n-lt-WHOLE_END : goal.returns-else-n-lt-WHOLE_END
returns-else-n-lt-WHOLE_END c =
    let digits : is_digits c.args.text.now ≡ true = ap is_digits (sym c.as_bytes.ensures.value) ∙ sym c.if-not-is_digits.ensures in
    digits_over c.args.text.now c.in-Ok.n digits c.in-Ok.ensures.value.0.1 (omega arith)

pub returns-in-Err : goal.returns-in-Err
returns-in-Err c =
    let digits : is_digits c.args.text.now ≡ true = ap is_digits (sym c.as_bytes.ensures.value) ∙ sym c.if-not-is_digits.ensures in
    digits_out c.args.text.now digits c.in-Err.ensures.value.0
