use Rattle.std.proofs.Common.{◌≡◌, drop}
use Rattle.cs_txn.specs.Faults.{shared_fault}
use Rattle.cs_types.specs.Firsts.{first_of}
use Rattle.cs_txn.proofs.refusals.check_stamps.Given as goal

abbrev pub invariant-loop-index : goal.invariant-loop-index
invariant-loop-index l = first_of (shared_fault l.items l.stamp) (drop l.index l.writes) ≡ first_of (shared_fault l.items l.stamp) l.writes
