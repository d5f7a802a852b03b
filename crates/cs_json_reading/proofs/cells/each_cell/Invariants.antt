use Rattle.std.proofs.Common.{◌≡◌, ◌++◌, map, string_bytes, All}
use Rattle.serde_json.specs.View.{members_view}
use Rattle.cs_types.specs.Value.{IsInRange}
use Rattle.cs_json_reading.specs.Reading.{behind}
use Rattle.cs_json_reading.specs.Cells.{each_cell}
use Rattle.cs_json_reading.proofs.cells.each_cell.Given as goal

abbrev pub invariant-loop-name : goal.invariant-loop-name
invariant-loop-name l = record {
  reading : behind l.cells (each_cell l.columns (members_view l.name-iterator)) ≡ each_cell l.columns (members_view l.members.entries);
  names : map (λ c. c.column) l.cells ++ map (λ e. string_bytes e.0) l.name-iterator ≡ map (λ e. string_bytes e.0) l.members.entries;
  in_range : All (λ c. IsInRange c.value) l.cells;
}
