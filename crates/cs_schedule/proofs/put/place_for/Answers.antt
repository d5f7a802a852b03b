use Rattle.std.proofs.Common.{◌≡◌, ◌+◌, ◌-◌, ◌/◌, ◌<◌, Bool, true, false, length, get_or, sym, subst, ap, ◌∙◌, arith}
use Rattle.std.specs.declared.cmp.Ordering.{Ordering}
use Rattle.std.specs.Ordering.{is_lt}
use Rattle.cs_schedule.proofs.Among.{before, before_more, before_less, put_at}
use Rattle.cs_schedule.proofs.put.place_for.Goals as goal

below : {answer b : Bool} (o p : Ordering) → answer ≡ is_lt o → o ≡ p → answer ≡ b → is_lt p ≡ b
below o p h k l = sym (h ∙ ap is_lt k) ∙ l

pub loop-low-preserved-then-is_lt : goal.loop-low-preserved-then-is_lt
loop-low-preserved-then-is_lt c =
    let inv = c.loop-low.invariant in
    let lt = c.loop-low-test.true in
    let m = c.loop-low.low + (c.loop-low.high - c.loop-low.low) / 2 in
    let inside : m < length c.args.rows.now = omega (arith, inv.1, lt) in (
      omega arith,
      omega (arith, inside),
      inv.2,
      λ k d l o. before_more c.args.rows.now c.args.token.now m k d c.index-rows-middle.result c.requires inside l (below _ _ c.is_lt.ensures c.cmp.ensures c.if-is_lt.true) o,
    )

pub loop-low-preserved : goal.loop-low-preserved
loop-low-preserved c =
    let inv = c.loop-low.invariant in
    let lt = c.loop-low-test.true in
    let m = c.loop-low.low + (c.loop-low.high - c.loop-low.low) / 2 in
    let inside : m < length c.args.rows.now = omega (arith, inv.1, lt) in (
      omega (arith, lt),
      inv.1,
      λ k d l. before_less c.args.rows.now c.args.token.now m k d c.index-rows-middle.result c.requires inside (below _ _ c.is_lt.ensures c.cmp.ensures c.if-is_lt.false) (omega (arith, l)),
      inv.3,
    )

pub returns-clause-place : goal.returns-clause-place
returns-clause-place c =
    let inv = c.loop-low.invariant in
    let ge = c.loop-low-test.false in
    λ r q. put_at r c.args.rows.now c.loop-low.low (omega (arith, inv.0, inv.1))
    (λ k d l. subst (λ t. before t (get_or c.args.rows.now k d) ≡ false) (sym q) (inv.2 k d l))
    (λ d l. subst (λ t. before t (get_or c.args.rows.now c.loop-low.low d) ≡ true) (sym q) (inv.3 c.loop-low.low d l (omega (arith, ge))))
