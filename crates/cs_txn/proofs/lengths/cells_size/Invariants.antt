use Rattle.std.proofs.Common.{◌≡◌, ◌+◌, drop}
use Rattle.cs_txn.specs.Lengths.{cells_length}
use Rattle.cs_txn.proofs.lengths.cells_size.Given as goal

abbrev pub invariant-loop-cell : goal.invariant-loop-cell
invariant-loop-cell l = l.sum + cells_length (drop l.cell-index l.cell-items) ≡ cells_length l.cells
