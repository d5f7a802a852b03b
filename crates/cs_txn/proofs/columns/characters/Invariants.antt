use Rattle.std.proofs.Common.{◌≡◌, ◌+◌, ◌≤◌, drop}
use Rattle.cs_txn.specs.Columns.{char_length}
use Rattle.cs_txn.proofs.columns.characters.Given as goal

abbrev pub invariant-loop-byte : goal.invariant-loop-byte
invariant-loop-byte l = record {
  sum : l.count + char_length (drop l.byte-index l.byte-items) ≡ char_length l.byte-items;
  within : l.count ≤ l.byte-index;
}
