use Rattle.std.proofs.Common.{◌≡◌, drop, take, []}
use Rattle.cs_types.specs.Names.{first_again}
use Rattle.cs_json_reading.specs.Columns.{names_of, HoldsTypes}
use Rattle.cs_json_reading.proofs.columns.types_of.Given as goal

abbrev pub invariant-loop-column : goal.invariant-loop-column
invariant-loop-column l = record {
  holds : HoldsTypes (take l.column-index l.columns) l.types;
  rest : first_again (names_of (take l.column-index l.columns)) (names_of (drop l.column-index l.columns)) ≡ first_again [] (names_of l.columns);
}
