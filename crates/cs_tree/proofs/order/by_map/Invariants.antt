use Rattle.std.proofs.Common.{◌≡◌, []}
use Rattle.cs_tree.specs.Order.{put_all}
use Rattle.cs_tree.proofs.Putting.{of_pairs}
use Rattle.cs_tree.proofs.order.by_map.Given as goal

abbrev pub invariant-loop-entry : goal.invariant-loop-entry
invariant-loop-entry g l = of_pairs l.map.entries ≡ put_all [] l.yielded

abbrev pub invariant-loop-name : goal.invariant-loop-name
invariant-loop-name g l = l.placed.items ≡ of_pairs l.yielded
