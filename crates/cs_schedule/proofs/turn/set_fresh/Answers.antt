use Rattle.std.proofs.Common.{rules, ◌≡◌, ◌+◌, ◌<◌, ◌≤◌, ◌∙◌, suc, length, ap, sym, arith}
use Rattle.cs_schedule.specs.Board.{fresh, changed_at}
use Rattle.cs_schedule.proofs.Changed.{fresh_upto, length_fresh, one_fresher, all_fresh}
use Rattle.cs_schedule.proofs.turn.set_fresh.Goals as goal

pub freshen_at-requires : goal.freshen_at-requires
freshen_at-requires c =
    let all : length c.loop-place.rows.items ≡ length c.args.rows.now.items = ap length c.loop-place.invariant.0 ∙ length_fresh c.loop-place.place c.args.rows.now.items in
    let inside : c.loop-place.place < length c.args.rows.now.items = search rules in
    omega (arith, inside, all)

pub loop-place-preserved : goal.loop-place-preserved
loop-place-preserved c =
    let next : c.loop-place.place + 1 ≡ suc c.loop-place.place = omega arith in (
      c.freshen_at.ensures.rows ∙ ap (changed_at fresh c.loop-place.place) c.loop-place.invariant.0 ∙ one_fresher c.loop-place.place c.args.rows.now.items ∙ ap (λ i. fresh_upto i c.args.rows.now.items) (sym next),
      c.freshen_at.ensures.capacity ∙ c.loop-place.invariant.1,
    )

pub returns-clause-rows : goal.returns-clause-rows
returns-clause-rows c =
    let past : length c.args.rows.now.items ≤ c.loop-place.place = search rules in
    c.loop-place.invariant.0 ∙ all_fresh c.loop-place.place c.args.rows.now.items past
