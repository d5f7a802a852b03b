use Rattle.std.proofs.Common.{◌≡◌, drop}
use Rattle.cs_types.specs.Firsts.{first_of}
use Rattle.cs_txn.specs.Columns.{no_key}
use Rattle.cs_txn.proofs.columns.check_key_only.Given as goal

abbrev pub invariant-loop-cell : goal.invariant-loop-cell
invariant-loop-cell l = first_of (no_key l.table.key) (drop l.cell-index l.cells) ≡ first_of (no_key l.table.key) l.cells
