use Rattle.std.proofs.Common.{◌≡◌, ◌+◌, ◌≤◌, ◌++◌, take, length}
use Rattle.std.specs.HashMap.{spare}
use Rattle.cs_txn.specs.Places.{PlacesOf}
use Rattle.cs_txn.proofs.rows.put_all.Given as goal

abbrev pub invariant-put : goal.invariant-put
invariant-put l = record {
  places : PlacesOf (l.items ++ take (length l.yielded) l.added) l.rows;
  room : length l.key-iterator.rest.items ≤ spare l.rows;
  at : l.place ≡ length l.items + length l.yielded;
  all : l.yielded ++ l.key-iterator.rest.items ≡ l.fn.keys.items;
}
