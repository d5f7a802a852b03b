use Rattle.std.proofs.Common.{◌≡◌, []}
use Rattle.cs_tree.specs.Order.{put_all}
use Rattle.cs_tree.proofs.order.by_places.Given as goal

abbrev pub invariant-loop-entry : goal.invariant-loop-entry
invariant-loop-entry g l = l.placed.items ≡ put_all [] l.yielded
