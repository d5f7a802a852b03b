use Rattle.std.proofs.Common.{◌≡◌, ◌+◌, drop}
use Rattle.cs_txn.specs.Lengths.{hidden_length}
use Rattle.cs_txn.proofs.lengths.hidden_size.Given as goal

abbrev pub invariant-loop-cell : goal.invariant-loop-cell
invariant-loop-cell l = l.sum + hidden_length l.key (drop l.cell-index l.cell-items) ≡ hidden_length l.key l.cells
