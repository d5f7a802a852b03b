use Rattle.std.proofs.Common.{◌≡◌, length}
use Rattle.cs_stream_worked.proofs.Inserts.{AreInserts}
use Rattle.cs_stream_worked.proofs.making.inserts.Given as goal

abbrev pub invariant-loop-number : goal.invariant-loop-number
invariant-loop-number l = record {
  inserts : AreInserts l.stamp l.items;
  count : length l.items ≡ l.number;
}
