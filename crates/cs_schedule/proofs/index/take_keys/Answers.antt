use Rattle.std.proofs.Common.{List, map, sym, subst, IfSome, Contains}
use Rattle.cs_schedule.specs.declared.slots.Slot.{Slot}
use Rattle.cs_schedule.specs.Board.{has_ended}
use Rattle.cs_schedule.specs.Index.{AreSorted, open_key, free_key, wait_key}
use Rattle.cs_schedule.proofs.Indexed.{if_there}
use Rattle.cs_schedule.proofs.Sorted.{slots_sorted}
use Rattle.cs_schedule.proofs.index.take_keys.Goals as goal

pub take_key-requires-clause-sorted : goal.take_key-requires-clause-sorted
take_key-requires-clause-sorted c = subst AreSorted (sym c.requires.index.by_through) (slots_sorted 0 (map open_key c.args.all.now))

pub take_key-requires-clause-there : goal.take_key-requires-clause-there
take_key-requires-clause-there c =
    subst (λ (z : List Slot). IfSome c.open_key.result (λ k. Contains z (record { key = k; place = c.args.place }))) (sym c.requires.index.by_through)
    (if_there open_key c.args.all.now c.args.place c.args.row.now c.open_key.result c.requires.inside c.requires.row c.open_key.ensures)

pub take_key-requires-2-clause-sorted : goal.take_key-requires-2-clause-sorted
take_key-requires-2-clause-sorted c = subst AreSorted (sym c.requires.index.by_tries) (slots_sorted 0 (map (free_key (has_ended c.args.all.now)) c.args.all.now))

pub take_key-requires-2-clause-there : goal.take_key-requires-2-clause-there
take_key-requires-2-clause-there c =
    subst (λ (z : List Slot). IfSome c.free_key.result (λ k. Contains z (record { key = k; place = c.args.place }))) (sym c.requires.index.by_tries)
    (if_there (free_key (has_ended c.args.all.now)) c.args.all.now c.args.place c.args.row.now c.free_key.result c.requires.inside c.requires.row c.free_key.ensures)

pub take_key-requires-3-clause-sorted : goal.take_key-requires-3-clause-sorted
take_key-requires-3-clause-sorted c = subst AreSorted (sym c.requires.index.by_parent) (slots_sorted 0 (map (wait_key (has_ended c.args.all.now)) c.args.all.now))

pub take_key-requires-3-clause-there : goal.take_key-requires-3-clause-there
take_key-requires-3-clause-there c =
    subst (λ (z : List Slot). IfSome c.wait_key.result (λ k. Contains z (record { key = k; place = c.args.place }))) (sym c.requires.index.by_parent)
    (if_there (wait_key (has_ended c.args.all.now)) c.args.all.now c.args.place c.args.row.now c.wait_key.result c.requires.inside c.requires.row c.wait_key.ensures)
