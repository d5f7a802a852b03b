use Rattle.std.proofs.Common.{◌≡◌, ◌++◌, ◌<◌, ◌^◌, All, map, take, drop}
use Rattle.serde_json.specs.View.{view}
use Rattle.cs_json.specs.Written.{column_data}
use Rattle.cs_json.proofs.written_change.columns_tree.Given as goal

abbrev pub invariant-loop-column : goal.invariant-loop-column
invariant-loop-column l = record {
  kept : All (λ c. c.ordinal < 2 ^ 32) (take l.column-index l.columns);
  trees : map view l.trees.items ++ map column_data (drop l.column-index l.columns) ≡ map column_data l.columns;
}
