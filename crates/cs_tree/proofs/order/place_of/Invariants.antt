use Rattle.std.proofs.Common.{◌≡◌, drop}
use Rattle.cs_tree.specs.Order.{names, seek}
use Rattle.cs_tree.proofs.Putting.{further}
use Rattle.cs_tree.proofs.order.place_of.Given as goal

abbrev pub invariant-loop-entry : goal.invariant-loop-entry
invariant-loop-entry g l = (seek l.name (names l.items) ≡ further l.entry-index (seek l.name (names (drop l.entry-index l.items)))) × (l.at ≡ l.entry-index)
