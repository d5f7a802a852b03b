use Rattle.std.proofs.Common.{◌≡◌, ◌∙◌, ℕ, ◌<◌, ◌≤◌, ⊎_elim, slice_index_or, ap, subst, arith}
use Rattle.std.proofs.lemmas.Bool.{cases_lt}
use Rattle.std.proofs.lemmas.List.{get_or_default}
use Rattle.cs_partitions.specs.Layout.{StreamParts, IsLayout}
use Rattle.cs_read.proofs.kept.are_layouts.Goals as goal

pub loop-layout-preserved : goal.loop-layout-preserved
loop-layout-preserved c = λ k d lt.
    let layouts = c.args.layouts.now in
    let place = c.loop-layout.layout-index in
    let item : StreamParts = c.layout-item.result in
    ⊎_elim
    (λ (h : k < place). c.loop-layout.invariant k d h)
    (λ (h : place ≤ k).
    let here : place ≡ k = omega (arith, h, lt) in
    subst IsLayout (c.layout-item.is ∙ get_or_default layouts place item d (omega (arith, c.loop-layout-test.true, c.loop-layout.auto.layout-index-end)) ∙ ap (λ n. slice_index_or layouts n d) here) c.parts-parts.ensures.layout)
    (cases_lt k place)

pub returns : goal.returns
returns c = λ k d lt. c.loop-layout.invariant k d (omega (arith, lt, c.loop-layout-test.false, c.loop-layout.auto.layout-index-end))
