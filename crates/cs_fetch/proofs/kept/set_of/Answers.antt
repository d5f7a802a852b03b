use Rattle.std.proofs.Common.{ap, sym, ◌∙◌, is_eq}
use Rattle.std.specs.List.{list_any}
use Rattle.cs_link.specs.Batch.{seen_cmp}
use Rattle.cs_fetch.proofs.Sets.{take_next, pushed, seen_total}
use Rattle.cs_fetch.proofs.kept.set_of.Goals as goal

pub loop-one-preserved : goal.loop-one-preserved
loop-one-preserved c = λ q.
    pushed (λ s. s) seen_cmp seen_total _ c.one-item.result q _ _ (rw c.in_ok-copy.ensures at (c.in_ok-insert.ensures.updates.0 q)) (c.loop-one.invariant q)
    ∙ ap (λ xs. list_any (λ x. is_eq (seen_cmp q x)) xs) (sym (take_next c.args.list.now c.loop-one.one-index c.one-item.result c.one-item.is c.loop-one-test.true))
