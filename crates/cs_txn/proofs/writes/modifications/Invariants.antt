use Rattle.std.proofs.Common.{◌≡◌, ◌++◌, drop}
use Rattle.cs_txn.specs.History.{modifications_of, modifications_from}
use Rattle.cs_txn.specs.Left.{AreFree}
use Rattle.cs_txn.proofs.writes.modifications.Given as goal

abbrev pub invariant-loop-index : goal.invariant-loop-index
invariant-loop-index l = record {
  added : l.added.items ++ modifications_from l.tables l.items l.txn (drop l.index l.txn.writes) ≡ modifications_of l.tables l.items l.txn;
  known : AreFree l.tables l.known;
}
