use Rattle.std.proofs.Common.{◌≡◌, drop}
use Rattle.serde_json.specs.View.{items_view}
use Rattle.cs_json_reading.specs.Reading.{each, behind}
use Rattle.cs_json_reading.proofs.element.each.Given as goal

abbrev pub invariant-loop-tree : goal.invariant-loop-tree
invariant-loop-tree g l = behind l.items (each (g.E.Element.reads l.element) (items_view (drop l.tree-index l.trees))) ≡ each (g.E.Element.reads l.element) (items_view l.trees)
