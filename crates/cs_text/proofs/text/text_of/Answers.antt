use Rattle.std.proofs.Common.{rules, ◌<◌, length, take, sym, subst, arith}
use Rattle.cs_schedule.specs.Spelling.{IsInFormat}
use Rattle.cs_text.specs.Adding.{Tells}
use Rattle.cs_text.proofs.Fronts.{goes_on, take_next}
use Rattle.cs_text.proofs.text.text_of.Goals as goal

pub begin-requires : goal.begin-requires
begin-requires c =
    let some : 0 < length c.args.entries.now = search rules in
    subst IsInFormat c.in-Begin.is (c.requires.format c.index-entries-0.result (0, some, sym c.index-entries-0.is))

pub unreachable-requires-then-not-branch : goal.unreachable-requires-then-not-branch
unreachable-requires-then-not-branch c =
    let inv = c.loop-place.invariant in
    let inside : c.loop-place.place < length c.args.entries.now = search rules in
    c.in_ok-tell_on.ensures.refused c.if-not-branch.true (take c.loop-place.place c.args.entries.now) inv.2
    (goes_on c.loop-place.telling.board c.loop-place.telling.marked c.loop-place.telling.lines c.args.entries.now c.loop-place.place c.index-entries-place.result inside c.index-entries-place.is inv.2 c.requires.fold)

pub loop-place-preserved : goal.loop-place-preserved
loop-place-preserved c =
    let inv = c.loop-place.invariant in
    let inside : c.loop-place.place < length c.args.entries.now = search rules in (
      omega arith,
      c.in_ok-tell_on.ensures.least,
      subst (Tells c.tell_on.new.telling.board c.tell_on.new.telling.marked c.tell_on.new.telling.lines) (take_next c.args.entries.now c.loop-place.place c.index-entries-place.result inside c.index-entries-place.is)
          (c.in_ok-tell_on.ensures.tells c.if-not-branch.false (take c.loop-place.place c.args.entries.now) inv.2),
    )
