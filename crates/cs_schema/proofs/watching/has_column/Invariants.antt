use Rattle.std.proofs.Common.{◌≡◌, drop}
use Rattle.cs_types.specs.Names.{is_among}
use Rattle.cs_schema.specs.Tables.{column_names}
use Rattle.cs_schema.proofs.watching.has_column.Given as goal

abbrev pub invariant-loop-column : goal.invariant-loop-column
invariant-loop-column l = is_among l.name (column_names (drop l.column-index l.table.columns)) ≡ is_among l.name (column_names l.table.columns)
