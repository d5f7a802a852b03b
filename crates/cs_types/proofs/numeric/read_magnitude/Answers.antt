use Rattle.std.proofs.Common.{◌≡◌, true, false, sym, ap, ◌∙◌, arith}
use Rattle.std.proofs.lemmas.Str.Pattern.{split_parts}
use Rattle.cs_types.specs.Digits.{is_digits}
use Rattle.cs_types.proofs.NumericReading.{magnitude_pointed, magnitude_plain, pointed_bad, pointed_good}
use Rattle.cs_types.proofs.numeric.read_magnitude.Goals as goal

pub returns-then-not-is_digits-clause-value : goal.returns-then-not-is_digits-clause-value
returns-then-not-is_digits-clause-value c =
    let parts = split_parts 46 c.args.text.now _ c.split_once.ensures.cases (omega arith) in
    let split = rw c.in-Some.is at parts in
    let bad : is_digits c.in-Some.fraction.now ≡ false = ap is_digits (sym c.as_bytes.ensures.value) ∙ sym c.if-not-is_digits.ensures in
    sym (magnitude_pointed c.args.text.now c.in-Some.whole.now c.in-Some.fraction.now split.0 split.1 ∙ pointed_bad c.in-Some.whole.now c.in-Some.fraction.now bad)

pub returns-else-not-is_digits-clause-value : goal.returns-else-not-is_digits-clause-value
returns-else-not-is_digits-clause-value c =
    let parts = split_parts 46 c.args.text.now _ c.split_once.ensures.cases (omega arith) in
    let split = rw c.in-Some.is at parts in
    let good : is_digits c.in-Some.fraction.now ≡ true = ap is_digits (sym c.as_bytes.ensures.value) ∙ sym c.if-not-is_digits.ensures in
    let read = rw (c.as_bytes-in-Some.ensures.value, c.as_bytes-in-Some-2.ensures.value) at c.read_parts.ensures.value in
    read ∙ sym (magnitude_pointed c.args.text.now c.in-Some.whole.now c.in-Some.fraction.now split.0 split.1 ∙ pointed_good c.in-Some.whole.now c.in-Some.fraction.now good)

pub returns-in-None-clause-value : goal.returns-in-None-clause-value
returns-in-None-clause-value c =
    let parts = split_parts 46 c.args.text.now _ c.split_once.ensures.cases (omega arith) in
    let none = rw c.in-None.is at parts in
    let read = rw c.as_bytes-in-None.ensures.value at c.read_parts-in-None.ensures.value in
    read ∙ sym (magnitude_plain c.args.text.now none)
