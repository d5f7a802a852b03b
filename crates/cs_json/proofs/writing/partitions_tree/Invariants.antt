use Rattle.std.proofs.Common.{◌≡◌, ◌++◌, All, map, take, drop}
use Rattle.serde_json.specs.View.{view}
use Rattle.cs_json.specs.Written.{child_data, IsKeptChild}
use Rattle.cs_json.proofs.writing.partitions_tree.Given as goal

abbrev pub invariant-loop-child : goal.invariant-loop-child
invariant-loop-child l = record {
  kept : All IsKeptChild (take l.child-index l.children);
  trees : map view l.trees.items ++ map child_data (drop l.child-index l.children) ≡ map child_data l.children;
}
