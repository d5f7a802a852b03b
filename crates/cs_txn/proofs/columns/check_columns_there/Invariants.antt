use Rattle.std.proofs.Common.{◌≡◌, drop}
use Rattle.cs_types.specs.Firsts.{first_of}
use Rattle.cs_txn.specs.Columns.{no_such}
use Rattle.cs_txn.proofs.columns.check_columns_there.Given as goal

abbrev pub invariant-loop-cell : goal.invariant-loop-cell
invariant-loop-cell l = first_of (no_such l.table.columns) (drop l.cell-index l.set) ≡ first_of (no_such l.table.columns) l.set
