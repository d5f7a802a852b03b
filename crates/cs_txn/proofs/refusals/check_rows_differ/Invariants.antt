use Rattle.std.proofs.Common.{◌≡◌, drop, take, []}
use Rattle.cs_txn.specs.Faults.{twice_behind, NamesOf}
use Rattle.cs_txn.proofs.refusals.check_rows_differ.Given as goal

abbrev pub invariant-loop-key : goal.invariant-loop-key
invariant-loop-key l = record {
  names : NamesOf (λ k. k.now) (take l.key-index l.writes) l.seen;
  rest : twice_behind (take l.key-index l.writes) (drop l.key-index l.writes) ≡ twice_behind [] l.writes;
}
