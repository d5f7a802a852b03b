use Rattle.std.proofs.Common.{◌≡◌, drop}
use Rattle.cs_tree.specs.View.{members_view}
use Rattle.cs_script.specs.Cells.{has_each}
use Rattle.cs_script.proofs.cells.has_each.Given as goal

abbrev pub invariant-loop-name : goal.invariant-loop-name
invariant-loop-name l = has_each (drop l.name-index l.names) (members_view l.members) ≡ has_each l.names (members_view l.members)
