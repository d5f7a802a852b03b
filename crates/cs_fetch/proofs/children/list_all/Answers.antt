use Rattle.std.proofs.Common.{rules}
use Rattle.cs_fetch.proofs.Naming.{listed_step, some_step, differing_step}
use Rattle.cs_fetch.proofs.children.list_all.Goals as goal

pub loop-child-preserved : goal.loop-child-preserved
loop-child-preserved c = record {
  listed = listed_step c.args.start c.args.listing.now c.loop-child.listing _ c.args.children.now c.loop-child.child-index c.child-item.result (search rules) (search rules) c.loop-child.invariant.listed c.in_ok-listed.ensures.children;
  some = some_step c.args.start c.args.listing.now c.loop-child.listing c.args.children.now c.loop-child.child-index c.child-item.result c.in_ok-listed.listed c.loop-child.some c.is_new.result _ (search rules) (search rules) c.loop-child.invariant.listed c.loop-child.invariant.some c.in_ok-listed.ensures.listed c.is_new.ensures c.either-some.ensures;
  differing = differing_step c.args.start c.args.listing.now c.loop-child.listing _ c.args.children.now c.loop-child.child-index c.child-item.result c.in_ok-listed.listed c.loop-child.differing _ (search rules) (search rules) c.loop-child.invariant.differing c.in_ok-listed.ensures.listed c.in_ok-listed.ensures.children (search rules);
}
