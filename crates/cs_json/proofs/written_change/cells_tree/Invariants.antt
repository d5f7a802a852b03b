use Rattle.std.proofs.Common.{◌≡◌, take}
use Rattle.serde_json.specs.View.{members_view}
use Rattle.cs_types.specs.Texts.{cells_members}
use Rattle.cs_json.proofs.written_change.cells_tree.Given as goal

abbrev pub invariant-loop-cell : goal.invariant-loop-cell
invariant-loop-cell l = members_view l.members.entries ≡ cells_members (take l.cell-index l.cell-items)
