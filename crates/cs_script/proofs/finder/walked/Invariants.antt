use Rattle.std.proofs.Common.{◌≡◌, drop}
use Rattle.cs_txn.specs.Columns.{column_named}
use Rattle.cs_script.proofs.finder.walked.Given as goal

abbrev pub invariant-loop-column : goal.invariant-loop-column
invariant-loop-column l = column_named l.name (drop l.column-index l.columns) ≡ column_named l.name l.columns
