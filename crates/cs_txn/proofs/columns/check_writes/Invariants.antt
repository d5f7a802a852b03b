use Rattle.std.proofs.Common.{◌≡◌, drop}
use Rattle.cs_txn.specs.Columns.{fault_by}
use Rattle.cs_types.specs.Firsts.{first_of}
use Rattle.cs_txn.proofs.columns.check_writes.Given as goal

abbrev pub invariant-loop-write : goal.invariant-loop-write
invariant-loop-write l = first_of (fault_by l.test l.tables) (drop l.write-index l.writes) ≡ first_of (fault_by l.test l.tables) l.writes
