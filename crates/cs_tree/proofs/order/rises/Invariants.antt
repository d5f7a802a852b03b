use Rattle.std.proofs.Common.{◌≡◌, length}
use Rattle.cs_tree.specs.Order.{names, climbs}
use Rattle.cs_tree.proofs.order.rises.Given as goal

abbrev pub invariant-loop-rest : goal.invariant-loop-rest
invariant-loop-rest g l = climbs (names l.rest) ≡ climbs (names l.items)

abbrev pub decreases-loop-rest : goal.decreases-loop-rest
decreases-loop-rest g l = length l.rest
