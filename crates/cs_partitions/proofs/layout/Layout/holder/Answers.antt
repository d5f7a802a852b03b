use Rattle.std.proofs.Common.{◌≤◌, sym, subst}
use Rattle.cs_place.specs.Layout.{HasOnePart}
use Rattle.cs_partitions.specs.Layout.{StreamParts}
use Rattle.cs_partitions.proofs.layout.Layout.holder.Goals as goal

pub holder-requires-clause-one : goal.holder-requires-clause-one
holder-requires-clause-one c =
    let late = subst (λ (l : StreamParts). l.created ≤ c.args.moment) (sym c.self.view_is) c.requires in
    subst (λ ps. HasOnePart ps c.args.place.now c.args.moment) (sym c.as_slice.ensures.value) (c.self.invariant.0.sound.held c.args.place.now c.args.moment late)
