use Rattle.std.proofs.Common.{◌≡◌, ◌∙◌, true, false, sym, subst, ap}
use Rattle.cs_types.specs.declared.names.Window.{Window}
use Rattle.cs_types.specs.Stamp.{IsStamp}
use Rattle.cs_device.specs.Causes.{Rose as DiskRose}
use Rattle.cs_device.specs.Crash.{CrashesLeave}
use Rattle.cs_schedule.specs.Board.{Shown}
use Rattle.cs_schedule.specs.Update.{applied}
use Rattle.cs_book.specs.Book.{rows_back}
use Rattle.cs_book.specs.Planned.{is_caught_up}
use Rattle.std.specs.Prelude.{IfSome}
use Rattle.cs_follow.specs.Due.{at_rest}
use Rattle.cs_follow.specs.Turn.{HoldsOldOrPlanned}
use Rattle.cs_follow.proofs.Held.{left_back, quiet_planned}
use Rattle.cs_follow.proofs.Putting.{held_fit, put_is, put_crashes, not_reserved}
use Rattle.cs_follow.proofs.turn.settle.Goals as goal

pub reserve-requires-clause-fit : goal.reserve-requires-clause-fit
reserve-requires-clause-fit g c =
    let low : IsStamp c.args.book.now.board.window.start = subst IsStamp (c.us-start.ensures.value ∙ ap (λ (v : Window). v.start) c.window.ensures ∙ ap (λ (b : Shown). b.window.start) c.board.ensures) c.us-start.ensures.range in
    held_fit g.J.Disk.seen g.O.Disk.seen c.args.book.now c.args.lease low.0 c.settled.ensures.sound c.requires.held c.args.batch.now c.requires.well

pub returns-in-Err-clause-settles : goal.returns-in-Err-clause-settles
returns-in-Err-clause-settles g c = λ es E.
    not_reserved g.J.Disk.seen g.O.Disk.seen
    (DiskRose (g.J.Disk.faults c.args.book.now.journal.disk) (g.J.Disk.faults c.release.new.self.journal.disk)) (DiskRose (g.O.Disk.faults c.args.book.now.output) (g.O.Disk.faults c.release.new.self.output))
    c.args.book.now c.release.new.self es c.args.batch.now c.in-Err.fault c.not_reserved.result
    (left_back g.J.Disk.seen g.O.Disk.seen c.args.book.now c.release.new.self c.args.lease c.requires.held c.settled.ensures.ordered false es
    (record {
      journal = ap (λ j. j.failed) c.release.ensures.disks.0 ∙ c.requires.running.journal;
      output = c.release.ensures.rest.1 ∙ c.requires.running.output;
    })
    (c.release.ensures.entries es E) (ap (λ j. j.gate) c.release.ensures.disks.0) c.release.ensures.rows c.release.ensures.is_opening)
    c.in-Err.ensures.exact c.not_reserved.ensures

pub returns-in-Err-clause-crashes : goal.returns-in-Err-clause-crashes
returns-in-Err-clause-crashes g c = λ es E.
    subst (λ (j : _). IfSome (g.J.Disk.seen c.args.book.now.journal.disk) (λ _. CrashesLeave (HoldsOldOrPlanned (at_rest c.args.book.now.board) c.args.batch.now es) (g.J.Disk.crash c.args.book.now.journal.disk) (g.J.Disk.crash j.disk))) (sym c.release.ensures.disks.0) (quiet_planned (at_rest c.args.book.now.board) c.args.batch.now es (g.J.Disk.seen c.args.book.now.journal.disk) (g.J.Disk.crash c.args.book.now.journal.disk) c.args.book.now.journal.gate E.held (c.settled.ensures.journal c.requires.running.journal))

pub returns-in-Err-commit-clause-crashes : goal.returns-in-Err-commit-clause-crashes
returns-in-Err-commit-clause-crashes g c = λ es E.
    let low : IsStamp c.args.book.now.board.window.start = subst IsStamp (c.us-start.ensures.value ∙ ap (λ (v : Window). v.start) c.window.ensures ∙ ap (λ (b : Shown). b.window.start) c.board.ensures) c.us-start.ensures.range in
    put_crashes g.J.Disk.seen g.O.Disk.seen c.args.book.now c.args.lease low.0 c.settled.ensures.sound c.requires.held c.leases_are_no_entries.ensures.fresh c.settled.ensures.ordered c.commit.new.self c.args.batch.now c.in-Ok.plan.plan c.in-Ok.ensures.plan.next c.in-Ok.ensures.exact c.boards_are_of_entries.ensures.folded es (g.J.Disk.crash c.args.book.now.journal.disk) (g.J.Disk.crash c.commit.new.self.journal.disk) E (c.in-Err-commit.ensures.any_moment c.requires.running)

pub returns-then-has_caught_up-clause-crashes : goal.returns-then-has_caught_up-clause-crashes
returns-then-has_caught_up-clause-crashes g c = λ es E.
    let low : IsStamp c.args.book.now.board.window.start = subst IsStamp (c.us-start.ensures.value ∙ ap (λ (v : Window). v.start) c.window.ensures ∙ ap (λ (b : Shown). b.window.start) c.board.ensures) c.us-start.ensures.range in
    put_crashes g.J.Disk.seen g.O.Disk.seen c.args.book.now c.args.lease low.0 c.settled.ensures.sound c.requires.held c.leases_are_no_entries.ensures.fresh c.settled.ensures.ordered c.commit.new.self c.args.batch.now c.in-Ok.plan.plan c.in-Ok.ensures.plan.next c.in-Ok.ensures.exact c.boards_are_of_entries.ensures.folded es (g.J.Disk.crash c.args.book.now.journal.disk) (g.J.Disk.crash c.commit.new.self.journal.disk) E (c.in-Ok-commit.ensures.any_moment c.requires.running)

pub returns-clause-crashes : goal.returns-clause-crashes
returns-clause-crashes g c = λ es E.
    let low : IsStamp c.args.book.now.board.window.start = subst IsStamp (c.us-start.ensures.value ∙ ap (λ (v : Window). v.start) c.window.ensures ∙ ap (λ (b : Shown). b.window.start) c.board.ensures) c.us-start.ensures.range in
    put_crashes g.J.Disk.seen g.O.Disk.seen c.args.book.now c.args.lease low.0 c.settled.ensures.sound c.requires.held c.leases_are_no_entries.ensures.fresh c.settled.ensures.ordered c.commit.new.self c.args.batch.now c.in-Ok.plan.plan c.in-Ok.ensures.plan.next c.in-Ok.ensures.exact c.boards_are_of_entries.ensures.folded es (g.J.Disk.crash c.args.book.now.journal.disk) (g.J.Disk.crash c.commit.new.self.journal.disk) E (c.in-Ok-commit.ensures.any_moment c.requires.running)

pub returns-then-has_caught_up-clause-settles : goal.returns-then-has_caught_up-clause-settles
returns-then-has_caught_up-clause-settles g c = λ es E.
    let low : IsStamp c.args.book.now.board.window.start = subst IsStamp (c.us-start.ensures.value ∙ ap (λ (v : Window). v.start) c.window.ensures ∙ ap (λ (b : Shown). b.window.start) c.board.ensures) c.us-start.ensures.range in
    put_is g.J.Disk.seen g.O.Disk.seen c.args.book.now c.args.lease low.0 c.settled.ensures.sound c.requires.held c.leases_are_no_entries.ensures.fresh c.settled.ensures.ordered c.commit.new.self c.args.batch.now c.in-Ok.plan.plan c.in-Ok.ensures.plan.next c.in-Ok.ensures.exact true es c.requires.well c.requires.grows E (c.in-Ok-commit.ensures.entries es E) c.in-Ok-commit.ensures.running c.commit.ensures.window c.in-Ok.plan.caught_up c.in-Ok-commit.ensures.rows c.commit.ensures.is_opening c.settled-2.ensures.sound c.settled-2.ensures.ordered (sym c.has_caught_up.ensures ∙ c.if-has_caught_up.true) c.in-Ok-commit.ensures.gate

pub returns-clause-settles : goal.returns-clause-settles
returns-clause-settles g c = λ es E.
    let low : IsStamp c.args.book.now.board.window.start = subst IsStamp (c.us-start.ensures.value ∙ ap (λ (v : Window). v.start) c.window.ensures ∙ ap (λ (b : Shown). b.window.start) c.board.ensures) c.us-start.ensures.range in
    put_is g.J.Disk.seen g.O.Disk.seen c.args.book.now c.args.lease low.0 c.settled.ensures.sound c.requires.held c.leases_are_no_entries.ensures.fresh c.settled.ensures.ordered c.commit.new.self c.args.batch.now c.in-Ok.plan.plan c.in-Ok.ensures.plan.next c.in-Ok.ensures.exact false es c.requires.well c.requires.grows E (c.in-Ok-commit.ensures.entries es E) c.in-Ok-commit.ensures.running c.commit.ensures.window c.in-Ok.plan.caught_up c.in-Ok-commit.ensures.rows c.commit.ensures.is_opening c.settled-2.ensures.sound c.settled-2.ensures.ordered (sym c.has_caught_up.ensures ∙ c.if-has_caught_up.false) c.in-Ok-commit.ensures.gate

pub returns-then-has_caught_up-clause-moves : goal.returns-then-has_caught_up-clause-moves
returns-then-has_caught_up-clause-moves g c =
    let ending : is_caught_up c.args.batch.now.ending ≡ true = sym c.has_caught_up.ensures ∙ c.if-has_caught_up.true in
    let back : c.in-Ok.plan.caught_up ≡ true = c.in-Ok.ensures.caught_up ∙ ending in
    let o = c.in-Ok.plan.plan.entry in
    record {
      planned = o;
      plans = c.in-Ok.ensures.exact;
      is = subst (λ caught_up. c.commit.new.self.board.rows ≡ rows_back c.args.lease.args.token caught_up (applied c.args.book.now.board.window.start c.args.book.now.board.rows o)) back c.in-Ok-commit.ensures.rows;
      ending = ending;
    }

pub returns-clause-moves : goal.returns-clause-moves
returns-clause-moves g c =
    let ending : is_caught_up c.args.batch.now.ending ≡ false = sym c.has_caught_up.ensures ∙ c.if-has_caught_up.false in
    let back : c.in-Ok.plan.caught_up ≡ false = c.in-Ok.ensures.caught_up ∙ ending in
    let o = c.in-Ok.plan.plan.entry in
    record {
      planned = o;
      plans = c.in-Ok.ensures.exact;
      is = subst (λ caught_up. c.commit.new.self.board.rows ≡ rows_back c.args.lease.args.token caught_up (applied c.args.book.now.board.window.start c.args.book.now.board.rows o)) back c.in-Ok-commit.ensures.rows;
      ending = ending;
    }
