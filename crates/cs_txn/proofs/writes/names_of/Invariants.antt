use Rattle.std.proofs.Common.{◌≡◌, ◌++◌, drop}
use Rattle.cs_types.specs.Names.{columns_of}
use Rattle.cs_txn.proofs.writes.names_of.Given as goal

abbrev pub invariant-loop-cell : goal.invariant-loop-cell
invariant-loop-cell l = l.names.items ++ columns_of (drop l.cell-index l.cell-items) ≡ columns_of l.cells
