use Rattle.std.proofs.Common.{rules, ◌≡◌, ◌+◌, ◌<◌, ◌∙◌, refl, sym, subst, suc, Some, None, length, arith}
use Rattle.cs_schedule.specs.Board.{has_ended}
use Rattle.cs_schedule.specs.Index.{AreSorted, token_number, put_key, take_slot, wait_key}
use Rattle.cs_schedule.proofs.Woken.{IsWaking, none_woken, all_woken, one_woken, first_inside, free_less, first_of, waking_sorted}
use Rattle.cs_schedule.proofs.index.wake.Goals as goal

pub loop-place-init : goal.loop-place-init
loop-place-init c = (none_woken c.args.token.now c.args.all.now c.args.index.now c.requires.index, refl)

pub first_with-requires : goal.first_with-requires
first_with-requires c = subst AreSorted (sym c.as_slice.ensures.value) (waking_sorted c.loop-place.from c.args.token.now c.args.all.now c.loop-place.index c.loop-place.invariant.0).1

pub offset_bounds-all-place : goal.offset_bounds-all-place
offset_bounds-all-place c =
    let first = first_of c.as_slice.result.now c.loop-place.index.waits.items c.token_number-key.result (token_number c.args.token.now) c.loop-place.from (Some c.in-Some.place) c.as_slice.ensures.value c.token_number-key.ensures c.in-Some.ensures in
    let inside : c.in-Some.place < length c.args.all.now = first_inside c.args.token.now c.args.all.now c.loop-place.from c.in-Some.place c.loop-place.index c.loop-place.invariant.0 first in
    search rules

pub bounds-all-place : goal.bounds-all-place
bounds-all-place c =
    let first = first_of c.as_slice.result.now c.loop-place.index.waits.items c.token_number-key.result (token_number c.args.token.now) c.loop-place.from (Some c.in-Some.place) c.as_slice.ensures.value c.token_number-key.ensures c.in-Some.ensures in
    first_inside c.args.token.now c.args.all.now c.loop-place.from c.in-Some.place c.loop-place.index c.loop-place.invariant.0 first

pub settle-requires-clause-free_sorted : goal.settle-requires-clause-free_sorted
settle-requires-clause-free_sorted c = (waking_sorted c.loop-place.from c.args.token.now c.args.all.now c.loop-place.index c.loop-place.invariant.0).0

pub settle-requires-clause-waits_sorted : goal.settle-requires-clause-waits_sorted
settle-requires-clause-waits_sorted c = (waking_sorted c.loop-place.from c.args.token.now c.args.all.now c.loop-place.index c.loop-place.invariant.0).1

pub settle-requires-clause-free_room : goal.settle-requires-clause-free_room
settle-requires-clause-free_room c =
    let first = first_of c.as_slice.result.now c.loop-place.index.waits.items c.token_number-key.result (token_number c.args.token.now) c.loop-place.from (Some c.in-Some.place) c.as_slice.ensures.value c.token_number-key.ensures c.in-Some.ensures in
    let less = free_less c.args.token.now c.args.all.now c.loop-place.from c.in-Some.place c.loop-place.index c.loop-place.invariant.0 first c.index-all-place.result c.index-all-place.is in
    omega (arith, less, c.requires.places, c.loop-place.invariant.1)

pub overflow_add-from : goal.overflow_add-from
overflow_add-from c =
    let first = first_of c.as_slice.result.now c.loop-place.index.waits.items c.token_number-key.result (token_number c.args.token.now) c.loop-place.from (Some c.in-Some.place) c.as_slice.ensures.value c.token_number-key.ensures c.in-Some.ensures in
    let inside : c.in-Some.place < length c.args.all.now = first_inside c.args.token.now c.args.all.now c.loop-place.from c.in-Some.place c.loop-place.index c.loop-place.invariant.0 first in
    search rules

pub loop-place-smaller : goal.loop-place-smaller
loop-place-smaller c =
    let first = first_of c.as_slice.result.now c.loop-place.index.waits.items c.token_number-key.result (token_number c.args.token.now) c.loop-place.from (Some c.in-Some.place) c.as_slice.ensures.value c.token_number-key.ensures c.in-Some.ensures in
    let inside : c.in-Some.place < length c.args.all.now = first_inside c.args.token.now c.args.all.now c.loop-place.from c.in-Some.place c.loop-place.index c.loop-place.invariant.0 first in
    omega (arith, inside, first.1)

pub loop-place-preserved : goal.loop-place-preserved
loop-place-preserved c =
    let first = first_of c.as_slice.result.now c.loop-place.index.waits.items c.token_number-key.result (token_number c.args.token.now) c.loop-place.from (Some c.in-Some.place) c.as_slice.ensures.value c.token_number-key.ensures c.in-Some.ensures in
    let next : c.in-Some.place + 1 ≡ suc c.in-Some.place = omega arith in (
      subst (λ q. IsWaking q c.args.token.now c.args.all.now c.settle.new.index) (sym next)
          (one_woken c.args.token.now c.args.all.now c.loop-place.from c.in-Some.place c.loop-place.index c.loop-place.invariant.0 first c.index-all-place.result c.settle.new.index c.index-all-place.is c.settle.ensures.opens c.settle.ensures.free (subst (λ n. c.settle.new.index.waits.items ≡ put_key (wait_key (has_ended c.args.all.now) c.index-all-place.result) c.in-Some.place (take_slot (record { key = n; place = c.in-Some.place }) c.loop-place.index.waits.items)) c.token_number-key.ensures c.settle.ensures.waits)),
      c.settle.ensures.places ∙ c.loop-place.invariant.1,
    )

pub returns-clause-index : goal.returns-clause-index
returns-clause-index c =
    all_woken c.args.token.now c.args.all.now c.loop-place.from c.loop-place.index c.loop-place.invariant.0
    (first_of c.as_slice.result.now c.loop-place.index.waits.items c.token_number-key.result (token_number c.args.token.now) c.loop-place.from None c.as_slice.ensures.value c.token_number-key.ensures c.in_default.ensures)
