use Rattle.std.proofs.Common.{◌≡◌, ◌++◌, drop}
use Rattle.cs_txn.specs.Places.{lasts_in}
use Rattle.cs_txn.proofs.rows.lasts.Given as goal

abbrev pub invariant-loop-key : goal.invariant-loop-key
invariant-loop-key l = l.lasts.items ++ lasts_in l.rows (drop l.key-index l.keys) ≡ lasts_in l.rows l.keys
