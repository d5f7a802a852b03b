use Rattle.cs_tree.proofs.Putting.{one_more}
use Rattle.cs_tree.proofs.order.by_places.Goals as goal

pub loop-entry-preserved : goal.loop-entry-preserved
loop-entry-preserved g c = one_more c.loop-entry.placed.items c.put_in.new.placed.items c.loop-entry.yielded c.in-Some.entry c.in_ok-put_in.ensures c.loop-entry.invariant
