use Rattle.std.proofs.Common.{◌≤◌, ◌+◌, ◌-◌, ◌⊎◌, inl, inr, length, drop, arith, ◌∙◌, length-append, length-drop, length-take}
use Rattle.std.proofs.lemmas.Bool.{cases_lt}
use Rattle.cs_redo.proofs.Kept.{keeps_both, told_still, quiet_both}
use Rattle.cs_redo.proofs.Restored.{more_agrees, goes_on, ends_there, ends_with_all}
use Rattle.cs_redo.proofs.comparing.agree.Goals as goal

pub returns-then-same-count-clause-count : goal.returns-then-same-count-clause-count
returns-then-same-count-clause-count g c =
    let inv = c.pieces.invariant in
    let at = c.pieces.at in
    let text = c.args.text.now in
    let seen = g.O.Disk.seen c.args.disk.now in
    let count = at + c.min-count.result - at in
    let fits : count ≤ length (drop at text) = omega (arith, c.min-count.ensures, inv.most, c.pieces-test.true, length-drop at text) in
    let found = more_agrees at count c.in_ok-same.same seen (g.O.Disk.seen c.pieces.disk) text inv.so_far inv.kept fits c.in_ok-same.ensures.count in
    ends_there at count c.in_ok-same.same seen text inv.so_far found (omega (arith, c.if-same-count.true))

pub pieces-preserved : goal.pieces-preserved
pieces-preserved g c =
    let inv = c.pieces.invariant in
    let at = c.pieces.at in
    let text = c.args.text.now in
    let seen = g.O.Disk.seen c.args.disk.now in
    let now = g.O.Disk.seen c.pieces.disk in
    let next = g.O.Disk.seen c.agree_at.new.disk in
    let count = at + c.min-count.result - at in
    let fits : count ≤ length (drop at text) = omega (arith, c.min-count.ensures, inv.most, c.pieces-test.true, length-drop at text) in
    let found = more_agrees at count c.in_ok-same.same seen now text inv.so_far inv.kept fits c.in_ok-same.ensures.count in
    record {
      within = omega (arith, inv.within, c.in_ok-same.ensures.few, length-take count (drop at text), c.min-count.ensures, c.pieces-test.true);
      most = inv.most;
      so_far = goes_on at count c.in_ok-same.same seen text inv.so_far found (omega (arith, c.if-same-count.false));
      told = told_still now next c.args.len inv.told c.in_ok-same.ensures.kept (g.met.O.Disk.silent c.pieces.disk c.agree_at.new.disk c.in_ok-same.ensures.object);
      kept = keeps_both seen now next inv.kept c.in_ok-same.ensures.kept;
      quiet = quiet_both (g.O.Disk.crash c.args.disk.now) (g.O.Disk.crash c.pieces.disk) (g.O.Disk.crash c.agree_at.new.disk) inv.quiet c.in_ok-same.ensures.quiet;
      room = omega (arith, length-append c.agree_at.new.room (drop c.min-count.result c.pieces.room), length-drop c.min-count.result c.pieces.room, length-take c.min-count.result c.pieces.room, c.in_ok-same.ensures.room_kept, inv.room, c.min-count.ensures);
      object = g.met.O.Disk.same_then _ _ _ inv.object c.in_ok-same.ensures.object;
      count = c.in_ok-same.ensures.cause.kept ∙ inv.count;
    }

pub returns-clause-count : goal.returns-clause-count
returns-clause-count g c =
    let inv = c.pieces.invariant in
    let len = c.args.len in
    let text = c.args.text.now in
    let ended : (len ≤ c.pieces.at) ⊎ (length text ≤ c.pieces.at) = elim (cases_lt len (length text)) [
      | inl short ↦ inl (omega (arith, short, c.min-most.ensures, c.pieces-test.false))
      | inr long ↦ inr (omega (arith, long, c.min-most.ensures, c.pieces-test.false))
    ] in
    ends_with_all c.pieces.at len (g.O.Disk.seen c.args.disk.now) text inv.so_far c.requires.told ended
