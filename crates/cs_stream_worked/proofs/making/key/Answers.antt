use Rattle.std.specs.List.Sorted.{IsStrictlySortedBy}
use Rattle.cs_stream_worked.proofs.making.key.Goals as goal

pub in_order-requires-clause-rising : goal.in_order-requires-clause-rising
unfolding IsStrictlySortedBy
in_order-requires-clause-rising c = rw (c.in_ok-push.ensures.ok, c.new-cells.ensures) (tt, tt)
