use Rattle.std.proofs.Common.{◌≡◌, ◌++◌, drop}
use Rattle.cs_records.specs.Columns.{key_columns}
use Rattle.cs_records.proofs.keys.key_names.Given as goal

abbrev pub invariant-loop-column : goal.invariant-loop-column
invariant-loop-column l = l.names ++ key_columns (drop l.column-index l.columns) ≡ key_columns l.columns
