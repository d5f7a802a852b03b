use Rattle.std.proofs.Common.{◌≡◌, None, drop}
use Rattle.cs_tree.specs.View.{members_view}
use Rattle.cs_script.specs.Readings.{behind}
use Rattle.cs_script.specs.Cells.{each_cell}
use Rattle.cs_script.specs.Gathering.{HasNames}
use Rattle.cs_script.proofs.cells.each_cell.Given as goal

abbrev pub invariant-loop-entry : goal.invariant-loop-entry
invariant-loop-entry l = record {
  reading : behind l.cells.cause l.cells.items (each_cell l.table (members_view (drop l.entry-index l.members))) ≡ each_cell l.table (members_view l.members);
  has : l.cells.cause ≡ None → HasNames l.cells.items (drop l.entry-index l.members) l.members;
}
