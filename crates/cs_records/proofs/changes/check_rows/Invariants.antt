use Rattle.std.proofs.Common.{◌≡◌, List, [], take, drop}
use Rattle.std.specs.BTreeSet.{contains}
use Rattle.cs_types.specs.Order.{cells_cmp}
use Rattle.cs_types.specs.declared.cells.Cell.{Cell}
use Rattle.cs_records.specs.Told.{has_key, keys_of, first_key_again}
use Rattle.cs_records.proofs.changes.check_rows.Given as goal

abbrev pub invariant-loop-one : goal.invariant-loop-one
invariant-loop-one l = record {
  seen : (q : List Cell) → contains cells_cmp l.seen q ≡ has_key (keys_of (take l.one-index l.item.mods)) q;
  rest : first_key_again (keys_of (take l.one-index l.item.mods)) (keys_of (drop l.one-index l.item.mods)) ≡ first_key_again [] (keys_of l.item.mods);
}
