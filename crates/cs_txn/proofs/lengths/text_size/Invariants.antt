use Rattle.std.proofs.Common.{◌≡◌, ◌+◌, drop, length}
use Rattle.json.specs.Print.{escape}
use Rattle.cs_txn.proofs.lengths.text_size.Given as goal

abbrev pub invariant-loop-byte : goal.invariant-loop-byte
invariant-loop-byte l = l.size + length (escape (drop l.byte-index l.byte-items)) ≡ 2 + length (escape l.byte-items)
