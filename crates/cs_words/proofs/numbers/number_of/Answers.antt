use Rattle.std.proofs.Common.{◌≡◌, true, ap, sym, ◌∙◌, arith}
use Rattle.cs_types.specs.Digits.{is_digits}
use Rattle.cs_words.proofs.Numerals.{number_bad, number_long, number_fits, number_fails}
use Rattle.cs_words.proofs.numbers.number_of.Goals as goal

pub returns-then-not-is_digits : goal.returns-then-not-is_digits
returns-then-not-is_digits c = number_bad c.args.text.now (ap is_digits (sym c.as_bytes.ensures.value) ∙ sym c.if-not-is_digits.ensures)

pub returns-then-text-gt-NUMBER_DIGITS : goal.returns-then-text-gt-NUMBER_DIGITS
returns-then-text-gt-NUMBER_DIGITS c = number_long c.args.text.now (ap is_digits (sym c.as_bytes.ensures.value) ∙ sym c.if-not-is_digits.ensures) (omega arith)

pub returns-in-Ok : goal.returns-in-Ok
returns-in-Ok c =
    let digits : is_digits c.args.text.now ≡ true = ap is_digits (sym c.as_bytes.ensures.value) ∙ sym c.if-not-is_digits.ensures in
    number_fits c.args.text.now c.in-Ok.n digits (omega arith) c.in-Ok.ensures.value.0.1

pub returns-in-Err : goal.returns-in-Err
returns-in-Err c =
    let digits : is_digits c.args.text.now ≡ true = ap is_digits (sym c.as_bytes.ensures.value) ∙ sym c.if-not-is_digits.ensures in
    number_fails c.args.text.now digits (omega arith) c.in-Err.ensures.value.0
