use Rattle.std.proofs.Common.{◌≡◌, drop}
use Rattle.cs_tree.specs.View.{items_view}
use Rattle.cs_script.specs.Readings.{behind}
use Rattle.cs_script.specs.Writes.{each_write}
use Rattle.cs_script.proofs.writes.each_write.Given as goal

abbrev pub invariant-loop-tree : goal.invariant-loop-tree
invariant-loop-tree l = behind l.writes.cause l.writes.items (each_write l.tables (items_view (drop l.tree-index l.trees))) ≡ each_write l.tables (items_view l.trees)
