use Rattle.std.proofs.Common.{sym, subst, IfOk}
use Rattle.cs_place.specs.Layout.{IsSoundLayout}
use Rattle.cs_partitions.specs.Layout.{StreamParts}
use Rattle.cs_partitions.specs.Views.{AreLiveByLow}
use Rattle.cs_partitions.proofs.layout.Layout.live_at.Goals as goal

pub returns : goal.returns
returns c =
    let sound = subst (λ ps. IsSoundLayout c.self.inside.created ps) (sym c.as_slice.ensures.value) c.self.invariant.0.sound in
    subst (λ (l : StreamParts). IfOk c.live_by_low.result (λ live. AreLiveByLow l.parts c.args.moment live)) c.self.view_is
    (subst (λ ps. IfOk c.live_by_low.result (λ live. AreLiveByLow ps c.args.moment live)) c.as_slice.ensures.value (c.live_by_low.ensures c.self.inside.created sound))
