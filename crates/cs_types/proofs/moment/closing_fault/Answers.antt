use Rattle.std.proofs.Common.{◌≡◌, ◌-◌, ◌+◌, ℕ, get_or, drop, true, false, sym, ap, ◌∙◌, arith}
use Rattle.cs_types.specs.Shape.{allows}
use Rattle.cs_types.specs.ShapeWalk.{closing}
use Rattle.cs_types.proofs.Walk.{closing_early, closing_digit, closing_other, closing_zero}
use Rattle.cs_types.proofs.moment.closing_fault.Goals as goal

pub returns-then-text-at : goal.returns-then-text-at
returns-then-text-at c = sym (closing_early (29 - c.loop-at.at) c.loop-at.at c.args.text.now c.if-text-at.true) ∙ c.loop-at.invariant

pub returns-then-not-is_digit : goal.returns-then-not-is_digit
returns-then-not-is_digit c =
    let at = c.loop-at.at in
    let other : allows 100 (get_or c.args.text.now at 0) ≡ false = sym c.is_digit.ensures ∙ c.if-not-is_digit.true in
    c.zulu_fault.ensures ∙ sym (closing_other (29 - at) (28 - at) at c.args.text.now (omega arith) c.if-text-at.false other) ∙ c.loop-at.invariant

pub loop-at-preserved : goal.loop-at-preserved
loop-at-preserved c =
    let at = c.loop-at.at in
    let text = c.args.text.now in
    let digit : allows 100 (get_or text at 0) ≡ true = sym c.is_digit.ensures ∙ c.if-not-is_digit.false in
    let less : 29 - (at + 1) ≡ 28 - at = omega arith in
    ap (λ (n : ℕ). closing n (at + 1) (drop (at + 1) text)) less ∙ sym (closing_digit (29 - at) (28 - at) at text (omega arith) c.if-text-at.false digit) ∙ c.loop-at.invariant

pub returns : goal.returns
returns c =
    let text = c.args.text.now in
    let e : c.loop-at.at ≡ 29 = omega arith in
    let inv : closing (29 - 29) 29 (drop 29 text) ≡ closing 8 21 (drop 21 text) = rw e at c.loop-at.invariant in
    c.zulu_fault-2.ensures ∙ sym (closing_zero 29 (drop 29 text)) ∙ inv
