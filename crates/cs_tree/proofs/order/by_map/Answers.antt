use Rattle.cs_tree.proofs.Putting.{one_more_pair}
use Rattle.cs_tree.proofs.order.by_map.Goals as goal

pub loop-entry-preserved : goal.loop-entry-preserved
loop-entry-preserved g c = one_more_pair c.loop-entry.map.entries c.insert.new.self.entries c.loop-entry.yielded c.in-Some.entry c.in_ok-insert.ensures.entries c.loop-entry.invariant
