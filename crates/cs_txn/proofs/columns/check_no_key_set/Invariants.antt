use Rattle.std.proofs.Common.{◌≡◌, drop}
use Rattle.cs_types.specs.Firsts.{first_of}
use Rattle.cs_txn.specs.Columns.{key_cell}
use Rattle.cs_txn.proofs.columns.check_no_key_set.Given as goal

abbrev pub invariant-loop-cell : goal.invariant-loop-cell
invariant-loop-cell l = first_of (key_cell l.table.key) (drop l.cell-index l.set) ≡ first_of (key_cell l.table.key) l.set
