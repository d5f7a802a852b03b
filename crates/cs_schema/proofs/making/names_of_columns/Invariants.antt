use Rattle.std.proofs.Common.{◌≡◌, ◌++◌, drop}
use Rattle.cs_schema.specs.Tables.{column_names}
use Rattle.cs_schema.proofs.making.names_of_columns.Given as goal

abbrev pub invariant-loop-column : goal.invariant-loop-column
invariant-loop-column l = l.names ++ column_names (drop l.column-index l.columns) ≡ column_names l.columns
