use Rattle.std.proofs.Common.{◌≡◌, drop}
use Rattle.cs_txn.specs.Columns.{unset}
use Rattle.cs_txn.proofs.columns.check_needed.Given as goal

abbrev pub invariant-loop-column : goal.invariant-loop-column
invariant-loop-column l = unset l.table.key l.set (drop l.column-index l.column-items) ≡ unset l.table.key l.set l.table.columns
