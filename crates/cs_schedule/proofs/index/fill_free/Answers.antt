use Rattle.std.proofs.Common.{rules, ◌<◌, ◌≤◌, ◌∙◌, sym, subst, ap, length, map, take, arith}
use Rattle.cs_schedule.specs.Board.{has_ended}
use Rattle.cs_schedule.specs.Index.{AreSorted, free_key, put_key, slots_from}
use Rattle.cs_schedule.proofs.Indexed.{length_keys, key_at}
use Rattle.cs_schedule.proofs.Sorted.{slots_sorted, take_next, take_length, take_past}
use Rattle.cs_schedule.proofs.index.fill_free.Goals as goal

pub put_key-requires-clause-sorted : goal.put_key-requires-clause-sorted
put_key-requires-clause-sorted c = subst AreSorted (sym c.loop-place.invariant.0) (slots_sorted 0 (take c.loop-place.place (map (free_key (has_ended c.args.all.now)) c.args.all.now)))

pub put_key-requires-clause-room : goal.put_key-requires-clause-room
put_key-requires-clause-room c =
    let inside : c.loop-place.place < length c.args.all.now = search rules in
    omega (arith, inside, ap length c.loop-place.invariant.0, take_length (map (free_key (has_ended c.args.all.now)) c.args.all.now) c.loop-place.place, c.requires.room, c.loop-place.invariant.1)

pub loop-place-preserved : goal.loop-place-preserved
loop-place-preserved c =
    let inside : c.loop-place.place < length c.args.all.now = search rules in
    let key = free_key (has_ended c.args.all.now) in (
      c.put_key.ensures.slots
          ∙ ap (put_key c.free_key.result c.loop-place.place) c.loop-place.invariant.0
          ∙ take_next (map key c.args.all.now) c.loop-place.place c.free_key.result (omega (arith, inside, length_keys key c.args.all.now)) (key_at key c.args.all.now c.loop-place.place c.index-all-place.result inside c.index-all-place.is ∙ sym c.free_key.ensures),
      c.put_key.ensures.capacity ∙ c.loop-place.invariant.1,
    )

pub returns-clause-free : goal.returns-clause-free
returns-clause-free c =
    let past : length c.args.all.now ≤ c.loop-place.place = search rules in
    let key = free_key (has_ended c.args.all.now) in
    c.loop-place.invariant.0 ∙ ap (slots_from 0) (take_past (map key c.args.all.now) c.loop-place.place (omega (arith, past, length_keys key c.args.all.now)))
