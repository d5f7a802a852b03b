use Rattle.std.proofs.Common.{◌≡◌, ◌++◌, drop}
use Rattle.cs_schema.specs.Streaming.{items_made}
use Rattle.cs_schema.proofs.streaming.items.Given as goal

abbrev pub invariant-loop-tree : goal.invariant-loop-tree
invariant-loop-tree l = l.made ++ items_made (drop l.tree-index l.trees) ≡ items_made l.trees
