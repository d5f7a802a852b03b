use Rattle.std.proofs.Common.{rules, ◌≡◌, ◌<◌, ◌≤◌, ◌∙◌, List, sym, refl, subst, length, arith}
use Rattle.std.specs.List.{insert}
use Rattle.cs_schedule.specs.declared.row.Row.{Row}
use Rattle.cs_schedule.specs.Board.{has_ended}
use Rattle.cs_schedule.specs.Consistent.{put_row}
use Rattle.cs_schedule.specs.Index.{IsIndex, IsPut, places_in}
use Rattle.cs_schedule.proofs.Carried.{may_new, new_index}
use Rattle.cs_schedule.proofs.put.put.Goals as goal

pub put_keys-requires-clause-may : goal.put_keys-requires-clause-may
put_keys-requires-clause-may c =
    let inside : c.place_for-place.result ≤ length c.args.rows.now.items = search rules in
    let room : length c.args.rows.now.items < places_in c.make_way.new.index = omega (arith, c.requires.room, c.make_way.ensures.places) in
    may_new c.args.rows.now.items c.place_for-place.result inside c.args.index.now c.make_way.new.index c.requires.index c.make_way.ensures.way room

pub returns-clause-index : goal.returns-clause-index
returns-clause-index c =
    let inside : c.place_for-place.result ≤ length c.args.rows.now.items = search rules in
    let same : put_row c.args.row c.args.rows.now.items ≡ insert c.args.rows.now.items c.place_for-place.result c.args.row =
    subst (λ (z : List Row). put_row c.args.row z ≡ insert z c.place_for-place.result c.args.row) c.as_slice.ensures.value (c.place_for-place.ensures.place c.args.row refl) in
    let put : IsPut (has_ended c.args.rows.now.items) c.args.row c.place_for-place.result c.make_way.new.index c.put_keys.new.index =
    subst (λ (z : List Row). IsPut (has_ended z) c.args.row c.place_for-place.result c.make_way.new.index c.put_keys.new.index) c.as_slice-3.ensures.value c.put_keys.ensures.index in
    subst (λ (z : List Row). IsIndex z c.put_keys.new.index) (same ∙ sym c.put_at.ensures.rows)
    (new_index c.args.rows.now.items c.place_for-place.result inside c.args.row c.args.index.now c.make_way.new.index c.put_keys.new.index c.requires.ordered c.requires.still c.requires.unfinished same c.requires.index c.make_way.ensures.way put)
