use Rattle.std.proofs.Common.{◌≡◌, sym, subst, AllPairs, slice_index_or}
use Rattle.std.proofs.lemmas.Result.{IfOk-weaker}
use Rattle.cs_partitions.specs.Layout.{IsLower, AreSiblingsByLow, first_part}
use Rattle.cs_partitions.specs.Views.{children_of}
use Rattle.cs_partitions.proofs.Families.{children_rise}
use Rattle.cs_partitions.proofs.layout.Layout.children.Goals as goal

pub returns-clause-rising : goal.returns-clause-rising
returns-clause-rising c =
    let any = first_part c.self.inside.stream c.self.inside.created in
    let parts = c.as_slice.result.now in
    let token = (slice_index_or parts c.args.index any).token in
    let pairs = subst (λ ps. AllPairs AreSiblingsByLow ps) (sym c.as_slice.ensures.value) c.self.invariant.0.children in
    IfOk-weaker c.children_at.result (λ children. children ≡ children_of token parts) (λ children. AllPairs IsLower children) (λ children e. subst (λ ps. AllPairs IsLower ps) (sym e) (children_rise token parts pairs)) (c.children_at.ensures any)
