use Rattle.std.proofs.Common.{◌≡◌, drop}
use Rattle.cs_tree.specs.View.{items_view}
use Rattle.cs_script.specs.Readings.{behind}
use Rattle.cs_script.specs.Borders.{each_border}
use Rattle.cs_script.proofs.borders.each_border.Given as goal

abbrev pub invariant-loop-tree : goal.invariant-loop-tree
invariant-loop-tree l = behind l.borders.cause l.borders.items (each_border l.tables (items_view (drop l.tree-index l.trees))) ≡ each_border l.tables (items_view l.trees)
