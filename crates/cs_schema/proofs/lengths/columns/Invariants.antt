use Rattle.std.proofs.Common.{◌≡◌, ◌++◌, drop}
use Rattle.cs_schema.specs.Lengths.{columns_made}
use Rattle.cs_schema.proofs.lengths.columns.Given as goal

abbrev pub invariant-loop-tree : goal.invariant-loop-tree
invariant-loop-tree l = l.made ++ columns_made (drop l.tree-index l.trees) ≡ columns_made l.trees
