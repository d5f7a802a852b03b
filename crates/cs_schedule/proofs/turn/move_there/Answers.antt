use Rattle.std.proofs.Common.{◌≡◌, ◌∙◌, List, not, ◌&&◌, refl, sym, subst, ap, length, get_or, arith}
use Rattle.cs_schedule.specs.declared.row.Row.{Row}
use Rattle.cs_schedule.specs.Board.{IsOrdered, has_ended, changed_at}
use Rattle.cs_schedule.specs.Index.{IsIndex, IsIndexBy, IsPut, IsTaken, ended_but}
use Rattle.cs_schedule.specs.Update.{moved}
use Rattle.cs_schedule.proofs.Carried.{may_after, moved_stays, moved_ends, length_changed, same_row}
use Rattle.cs_schedule.proofs.Changed.{ordered_changed}
use Rattle.cs_schedule.proofs.turn.move_there.Goals as goal

pub index-requires-3 : goal.index-requires-3
index-requires-3 c = omega (arith, c.requires.there, c.move_row.new.rows.ok.0, ap length c.move_row.ensures.rows, length_changed (moved c.args.moved) c.args.moved.place c.args.rows.now.items)

pub index-requires-4 : goal.index-requires-4
index-requires-4 c = omega (arith, c.requires.there, c.move_row.new.rows.ok.0, ap length c.move_row.ensures.rows, length_changed (moved c.args.moved) c.args.moved.place c.args.rows.now.items)

pub put_keys-requires-clause-ordered : goal.put_keys-requires-clause-ordered
put_keys-requires-clause-ordered c = subst IsOrdered (sym (c.as_slice-2.ensures.value ∙ c.move_row.ensures.rows)) (ordered_changed (moved c.args.moved) (λ r. refl) c.args.rows.now.items c.args.moved.place c.requires.ordered)

pub wake_if-requires-clause-ordered : goal.wake_if-requires-clause-ordered
wake_if-requires-clause-ordered c = subst IsOrdered (sym (c.as_slice-3.ensures.value ∙ c.move_row.ensures.rows)) (ordered_changed (moved c.args.moved) (λ r. refl) c.args.rows.now.items c.args.moved.place c.requires.ordered)

pub put_keys-requires-clause-may : goal.put_keys-requires-clause-may
put_keys-requires-clause-may c =
    let taken : IsTaken (has_ended c.args.rows.now.items) c.index-2.result.now c.args.moved.place c.args.index.now c.take_keys.new.index =
    subst (λ (z : List Row). IsTaken (has_ended z) c.index-2.result.now c.args.moved.place c.args.index.now c.take_keys.new.index) c.as_slice.ensures.value c.take_keys.ensures.index in
    may_after c.args.rows.now.items c.args.moved.place c.index-2.result.now c.requires.there c.index-2.ensures c.args.index.now c.take_keys.new.index c.requires.index taken (omega (arith, c.requires.places, c.take_keys.ensures.places))

pub wake_if-requires-clause-places : goal.wake_if-requires-clause-places
wake_if-requires-clause-places c =
    omega (arith, c.requires.places, c.take_keys.ensures.places, c.put_keys.ensures.places, ap length (c.as_slice-3.ensures.value ∙ c.move_row.ensures.rows), length_changed (moved c.args.moved) c.args.moved.place c.args.rows.now.items)

pub wake_if-requires-clause-stays : goal.wake_if-requires-clause-stays
wake_if-requires-clause-stays c = λ stays.
    let rows = c.move_row.ensures.rows in
    let taken : IsTaken (has_ended c.args.rows.now.items) c.index-2.result.now c.args.moved.place c.args.index.now c.take_keys.new.index =
    subst (λ (z : List Row). IsTaken (has_ended z) c.index-2.result.now c.args.moved.place c.args.index.now c.take_keys.new.index) c.as_slice.ensures.value c.take_keys.ensures.index in
    let put : IsPut (has_ended (changed_at (moved c.args.moved) c.args.moved.place c.args.rows.now.items)) c.index-3.result.now c.args.moved.place c.take_keys.new.index c.put_keys.new.index =
    subst (λ (z : List Row). IsPut (has_ended z) c.index-3.result.now c.args.moved.place c.take_keys.new.index c.put_keys.new.index) (c.as_slice-2.ensures.value ∙ rows) c.put_keys.ensures.index in
    let one : c.index.result.now ≡ c.index-2.result.now = same_row c.args.rows.now.items c.args.moved.place c.index.result.now c.index-2.result.now c.requires.there c.index.ensures c.index-2.ensures in
    subst (λ (z : List Row). IsIndex z c.put_keys.new.index) (sym (c.as_slice-3.ensures.value ∙ rows))
    (moved_stays c.args.moved c.args.rows.now.items c.args.moved.place c.index-2.result.now c.index-3.result.now c.args.index.now c.take_keys.new.index c.put_keys.new.index c.requires.ordered c.requires.there c.index-2.ensures
    (subst (λ (z : List Row). c.index-3.result.now ≡ get_or z c.args.moved.place c.index-3.result.now) rows c.index-3.ensures)
    c.requires.index taken put
    (ap (λ (z : Row). c.args.moved.finished && not z.finished) (sym one) ∙ sym c.ends-ends.ensures ∙ stays))

pub wake_if-requires-clause-ends : goal.wake_if-requires-clause-ends
wake_if-requires-clause-ends c = λ ends.
    let rows = c.move_row.ensures.rows in
    let taken : IsTaken (has_ended c.args.rows.now.items) c.index-2.result.now c.args.moved.place c.args.index.now c.take_keys.new.index =
    subst (λ (z : List Row). IsTaken (has_ended z) c.index-2.result.now c.args.moved.place c.args.index.now c.take_keys.new.index) c.as_slice.ensures.value c.take_keys.ensures.index in
    let put : IsPut (has_ended (changed_at (moved c.args.moved) c.args.moved.place c.args.rows.now.items)) c.index-3.result.now c.args.moved.place c.take_keys.new.index c.put_keys.new.index =
    subst (λ (z : List Row). IsPut (has_ended z) c.index-3.result.now c.args.moved.place c.take_keys.new.index c.put_keys.new.index) (c.as_slice-2.ensures.value ∙ rows) c.put_keys.ensures.index in
    let one : c.index.result.now ≡ c.index-2.result.now = same_row c.args.rows.now.items c.args.moved.place c.index.result.now c.index-2.result.now c.requires.there c.index.ensures c.index-2.ensures in
    subst (λ (z : List Row). IsIndexBy (ended_but c.index-4.result.now.token z) z c.put_keys.new.index) (sym (c.as_slice-3.ensures.value ∙ rows))
    (moved_ends c.args.moved c.args.rows.now.items c.args.moved.place c.index-2.result.now c.index-3.result.now c.index-4.result.now c.args.index.now c.take_keys.new.index c.put_keys.new.index c.requires.ordered c.requires.there c.index-2.ensures
    (subst (λ (z : List Row). c.index-3.result.now ≡ get_or z c.args.moved.place c.index-3.result.now) rows c.index-3.ensures)
    (subst (λ (z : List Row). c.index-4.result.now ≡ get_or z c.args.moved.place c.index-4.result.now) rows c.index-4.ensures)
    c.requires.index taken put
    (ap (λ (z : Row). c.args.moved.finished && not z.finished) (sym one) ∙ sym c.ends-ends.ensures ∙ ends))
