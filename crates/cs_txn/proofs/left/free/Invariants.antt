use Rattle.std.proofs.Common.{◌≡◌, drop, []}
use Rattle.cs_txn.specs.Left.{free_names}
use Rattle.cs_txn.proofs.left.free.Given as goal

abbrev pub invariant-loop-column : goal.invariant-loop-column
invariant-loop-column l = free_names l.names.keys l.table.key (drop l.column-index l.column-items) ≡ free_names [] l.table.key l.table.columns
