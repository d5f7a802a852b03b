use Rattle.std.proofs.Common.{◌≡◌, drop}
use Rattle.cs_txn.specs.Faults.{absent_fault}
use Rattle.cs_types.specs.Firsts.{first_of}
use Rattle.cs_txn.proofs.refusals.check_others.Given as goal

abbrev pub invariant-loop-index : goal.invariant-loop-index
invariant-loop-index l = first_of (absent_fault l.items) (drop l.index l.writes) ≡ first_of (absent_fault l.items) l.writes
