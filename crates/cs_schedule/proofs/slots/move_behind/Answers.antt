use Rattle.std.proofs.Common.{rules, ◌≡◌, ◌+◌, ◌<◌, ◌≤◌, ◌∙◌, suc, length, get_or, set, ap, sym, subst, arith}
use Rattle.cs_schedule.specs.declared.slots.Slot.{Slot}
use Rattle.cs_schedule.specs.Index.{behind}
use Rattle.cs_schedule.proofs.Sorted.{upto, upto_length, upto_at, upto_next, upto_all, behind_all, at_in}
use Rattle.cs_schedule.proofs.slots.move_behind.Goals as goal

pub returns-then-place-count-clause-slots : goal.returns-then-place-count-clause-slots
returns-then-place-count-clause-slots c = sym (behind_all c.args.place c.args.slots.now.items (λ s i. let l = c.requires.below s i in omega (arith, l, c.if-place-count.true)))

pub set_behind-requires-clause-inside : goal.set_behind-requires-clause-inside
set_behind-requires-clause-inside c =
    let all : length c.loop-index.slots.items ≡ length c.args.slots.now.items = ap length c.loop-index.invariant.0 ∙ upto_length (behind c.args.place) c.loop-index.index c.args.slots.now.items in
    let inside : c.loop-index.index < length c.args.slots.now.items = search rules in
    omega (arith, inside, all)

pub set_behind-requires-clause-below : goal.set_behind-requires-clause-below
set_behind-requires-clause-below c =
    let inside : c.loop-index.index < length c.args.slots.now.items = search rules in
    λ d. let l = c.requires.below (get_or c.args.slots.now.items c.loop-index.index d) (at_in c.args.slots.now.items c.loop-index.index d inside) in
    let same : get_or c.loop-index.slots.items c.loop-index.index d ≡ get_or c.args.slots.now.items c.loop-index.index d = ap (λ z. get_or z c.loop-index.index d) c.loop-index.invariant.0 ∙ upto_at (behind c.args.place) c.loop-index.index c.args.slots.now.items d in
    subst (λ (z : Slot). z.place < c.args.count) (sym same) l

pub loop-index-preserved : goal.loop-index-preserved
loop-index-preserved c =
    let inside : c.loop-index.index < length c.args.slots.now.items = search rules in
    let d : Slot = record { key = 0; place = 0 } in
    let f = behind c.args.place in
    let next : c.loop-index.index + 1 ≡ suc c.loop-index.index = omega arith in (
      c.set_behind.ensures.slots d
          ∙ ap (λ z. set z c.loop-index.index (f (get_or z c.loop-index.index d))) c.loop-index.invariant.0
          ∙ ap (λ z. set (upto f c.loop-index.index c.args.slots.now.items) c.loop-index.index (f z)) (upto_at f c.loop-index.index c.args.slots.now.items d)
          ∙ upto_next f c.loop-index.index c.args.slots.now.items d inside
          ∙ ap (λ i. upto f i c.args.slots.now.items) (sym next),
      c.set_behind.ensures.capacity ∙ c.loop-index.invariant.1,
    )

pub returns-clause-slots : goal.returns-clause-slots
returns-clause-slots c =
    let past : length c.args.slots.now.items ≤ c.loop-index.index = search rules in
    c.loop-index.invariant.0 ∙ upto_all (behind c.args.place) c.loop-index.index c.args.slots.now.items past
