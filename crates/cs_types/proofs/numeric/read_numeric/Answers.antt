use Rattle.std.proofs.Common.{true, false, sym, ap, ◌∙◌, arith}
use Rattle.std.proofs.lemmas.Str.Pattern.{strip_prefix_char}
use Rattle.cs_types.specs.Numeric.{signed}
use Rattle.cs_types.proofs.NumericReading.{numeric_long, numeric_minus, numeric_plain}
use Rattle.cs_types.proofs.numeric.read_numeric.Goals as goal

pub returns-then-text-gt-TEXT_LIMIT-clause-value : goal.returns-then-text-gt-TEXT_LIMIT-clause-value
returns-then-text-gt-TEXT_LIMIT-clause-value c = numeric_long c.args.text.now c.if-text-gt-TEXT_LIMIT.true

pub returns-in-Some-clause-value : goal.returns-in-Some-clause-value
returns-in-Some-clause-value c =
    let parts = strip_prefix_char 45 c.args.text.now _ c.strip_prefix.ensures.cases (omega arith) in
    let minus = rw c.in-Some.is at parts in
    c.with_sign.ensures.value ∙ ap (signed true) c.read_magnitude.ensures.value ∙ sym (numeric_minus c.args.text.now c.in-Some.magnitude.now c.if-text-gt-TEXT_LIMIT.false minus)

pub returns-in-None-clause-value : goal.returns-in-None-clause-value
returns-in-None-clause-value c =
    let parts = strip_prefix_char 45 c.args.text.now _ c.strip_prefix.ensures.cases (omega arith) in
    let plain = rw c.in-None.is at parts in
    c.with_sign-in-None.ensures.value ∙ ap (signed false) c.read_magnitude-in-None.ensures.value ∙ sym (numeric_plain c.args.text.now c.if-text-gt-TEXT_LIMIT.false plain)
