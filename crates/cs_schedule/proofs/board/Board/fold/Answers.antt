use Rattle.std.proofs.Common.{rules, ◌≡◌, ◌+◌, ◌<◌, suc, true, false, length, sym, subst, take, arith}
use Rattle.cs_schedule.specs.Fold.{may_follow, IsFoldOf}
use Rattle.cs_schedule.proofs.Folded.{not_begun, still_ordered, goes_on, stops}
use Rattle.cs_schedule.proofs.board.Board.fold.Goals as goal

pub returns-in_default : goal.returns-in_default
returns-in_default c = not_begun c.args.entries.now c.index-entries-0.result c.requires.some c.index-entries-0.is c.in_default.not-Begin

pub returns-then-not-may_follow : goal.returns-then-not-may_follow
returns-then-not-may_follow c =
    let inside : c.loop-place.place < length c.args.entries.now = search rules in
    let m : may_follow c.loop-place.board.window.end c.loop-place.board.rows c.index-entries-place.result ≡ false = search rules in
    stops c.args.entries.now c.loop-place.place c.index-entries-place.result c.loop-place.board c.loop-place.invariant.0 inside c.index-entries-place.is c.requires.format c.rows.ensures.ordered c.loop-place.invariant.1 m

pub add-requires : goal.add-requires
add-requires c =
    let inside : c.loop-place.place < length c.args.entries.now = search rules in
    let m : may_follow c.loop-place.board.window.end c.loop-place.board.rows c.index-entries-place.result ≡ true = search rules in
    still_ordered c.args.entries.now c.loop-place.place c.index-entries-place.result c.loop-place.board c.loop-place.invariant.0 inside c.index-entries-place.is c.requires.format c.rows.ensures.ordered c.loop-place.invariant.1 m

pub loop-place-preserved : goal.loop-place-preserved
loop-place-preserved c =
    let inside : c.loop-place.place < length c.args.entries.now = search rules in
    let next : c.loop-place.place + 1 ≡ suc c.loop-place.place = omega arith in
    let m : may_follow c.loop-place.board.window.end c.loop-place.board.rows c.index-entries-place.result ≡ true = search rules in (
      omega arith,
      subst (λ i. IsFoldOf (take i c.args.entries.now) c.add.new.self) (sym next)
          (goes_on c.args.entries.now c.loop-place.place c.index-entries-place.result c.loop-place.board c.loop-place.invariant.0 inside c.index-entries-place.is c.requires.format c.rows.ensures.ordered c.loop-place.invariant.1 m c.add.new.self c.add.ensures.window c.in_ok-add.ensures.rows),
    )
