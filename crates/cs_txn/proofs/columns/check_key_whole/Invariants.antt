use Rattle.std.proofs.Common.{◌≡◌, drop}
use Rattle.cs_txn.specs.Columns.{key_without}
use Rattle.cs_txn.proofs.columns.check_key_whole.Given as goal

abbrev pub invariant-loop-name : goal.invariant-loop-name
invariant-loop-name l = key_without l.cells (drop l.name-index l.key) ≡ key_without l.cells l.key
