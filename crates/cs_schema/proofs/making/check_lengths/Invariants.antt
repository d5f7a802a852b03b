use Rattle.std.proofs.Common.{◌≡◌, drop}
use Rattle.cs_types.specs.Firsts.{first_of}
use Rattle.cs_schema.specs.Making.{tree_fault}
use Rattle.cs_schema.proofs.making.check_lengths.Given as goal

abbrev pub invariant-loop-tree : goal.invariant-loop-tree
invariant-loop-tree l = first_of tree_fault (drop l.tree-index l.trees) ≡ first_of tree_fault l.trees
