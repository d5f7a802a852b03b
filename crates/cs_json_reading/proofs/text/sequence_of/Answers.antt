use Rattle.std.proofs.Common.{◌≡◌, true, ap, sym, ◌∙◌, arith}
use Rattle.cs_types.specs.Digits.{is_digits}
use Rattle.cs_json_reading.proofs.Numbers.{sequence_bad, sequence_long, sequence_fits, sequence_fails}
use Rattle.cs_json_reading.proofs.text.sequence_of.Goals as goal

pub returns-then-not-is_digits : goal.returns-then-not-is_digits
returns-then-not-is_digits c = sequence_bad c.args.text.now (ap is_digits (sym c.as_bytes.ensures.value) ∙ sym c.if-not-is_digits.ensures)

pub returns-then-text-gt-SEQUENCE_DIGITS : goal.returns-then-text-gt-SEQUENCE_DIGITS
returns-then-text-gt-SEQUENCE_DIGITS c = sequence_long c.args.text.now (ap is_digits (sym c.as_bytes.ensures.value) ∙ sym c.if-not-is_digits.ensures) (omega arith)

pub returns-in-Ok : goal.returns-in-Ok
returns-in-Ok c =
    let digits : is_digits c.args.text.now ≡ true = ap is_digits (sym c.as_bytes.ensures.value) ∙ sym c.if-not-is_digits.ensures in
    sequence_fits c.args.text.now c.in-Ok.n digits (omega arith) c.in-Ok.ensures.value.0.1

pub returns-in-Err : goal.returns-in-Err
returns-in-Err c =
    let digits : is_digits c.args.text.now ≡ true = ap is_digits (sym c.as_bytes.ensures.value) ∙ sym c.if-not-is_digits.ensures in
    sequence_fails c.args.text.now digits (omega arith) c.in-Err.ensures.value.0
