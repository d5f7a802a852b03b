use Rattle.std.proofs.Common.{◌≡◌, ◌+◌, ◌≤◌, drop}
use Rattle.cs_txn.specs.Sizes.{total, history_limit}
use Rattle.cs_txn.proofs.sizes.with_added.Given as goal

abbrev pub invariant-loop-size : goal.invariant-loop-size
invariant-loop-size l = record {
  sum : l.sum + total (drop l.size-index l.sizes) ≡ l.start + total l.sizes;
  within : l.sum ≤ history_limit;
}
