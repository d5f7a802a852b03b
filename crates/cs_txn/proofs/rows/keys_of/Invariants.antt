use Rattle.std.proofs.Common.{◌≡◌, ◌++◌, drop}
use Rattle.cs_txn.specs.Places.{rows_of}
use Rattle.cs_txn.proofs.rows.keys_of.Given as goal

abbrev pub invariant-loop-write : goal.invariant-loop-write
invariant-loop-write l = l.keys.items ++ rows_of (drop l.write-index l.writes) ≡ rows_of l.writes
