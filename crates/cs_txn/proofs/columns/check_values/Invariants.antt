use Rattle.std.proofs.Common.{◌≡◌, drop}
use Rattle.cs_types.specs.Firsts.{first_of}
use Rattle.cs_txn.specs.Columns.{value_fault}
use Rattle.cs_txn.proofs.columns.check_values.Given as goal

abbrev pub invariant-loop-cell : goal.invariant-loop-cell
invariant-loop-cell l = first_of (value_fault l.table.columns) (drop l.cell-index l.cells) ≡ first_of (value_fault l.table.columns) l.cells
