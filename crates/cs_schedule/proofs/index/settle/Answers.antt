use Rattle.std.proofs.Common.{sym, subst, ap, length, arith}
use Rattle.cs_schedule.specs.Index.{AreSorted}
use Rattle.cs_schedule.proofs.Sorted.{take_sorted, take_shorter}
use Rattle.cs_schedule.proofs.index.settle.Goals as goal

pub put_key-requires-2-clause-sorted : goal.put_key-requires-2-clause-sorted
put_key-requires-2-clause-sorted c = subst AreSorted (sym c.take_key.ensures.slots) (take_sorted (record { key = c.args.key; place = c.args.place }) c.args.index.now.waits.items c.requires.waits_sorted)

pub put_key-requires-2-clause-room : goal.put_key-requires-2-clause-room
put_key-requires-2-clause-room c =
    let shorter = take_shorter (record { key = c.args.key; place = c.args.place }) c.args.index.now.waits.items c.requires.there in
    omega (arith, ap length c.take_key.ensures.slots, shorter, c.requires.waits_room, c.take_key.ensures.capacity)
