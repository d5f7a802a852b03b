use Rattle.std.proofs.Common.{rules, ◌≡◌, ◌∙◌, List, None, IfSome, ap, subst, sym}
use Rattle.cs_device.specs.Crash.{CrashesLeave}
use Rattle.cs_schedule.specs.declared.entry.Entry.{Entry}
use Rattle.cs_book.specs.Book.{AreOf}
use Rattle.cs_book.specs.Entries.{HoldsEntries, HoldsBeforeOrAfter}
use Rattle.cs_book.proofs.Committed.{no_entry, no_more, quiet_crash}
use Rattle.cs_book.proofs.book.Book.commit.Goals as goal

pub returns-in_default-clause-entries : goal.returns-in_default-clause-entries
returns-in_default-clause-entries g c = λ es told.
    let now = c.args.self.now in
    let new = c.give_back-in_default.new.self in
    let entry = c.args.plan.plan.entry in
    let gone : c.args.plan.addition ≡ None = search rules in
    let none = no_entry now.board now.marked now.journal.gate entry c.args.plan.addition c.requires.plan.additions gone in
    subst (λ l. AreOf (g.J.Disk.seen new.journal.disk) (g.O.Disk.seen new.output) new.board new.marked l) (sym (no_more es entry none)) (c.give_back-in_default.ensures.entries es told)

pub returns-in_default-clause-any_moment : goal.returns-in_default-clause-any_moment
returns-in_default-clause-any_moment g c = λ running.
    let now = c.args.self.now in
    let old = c.self.inside.journal.disk in
    let entry = c.args.plan.plan.entry in
    let gone : c.args.plan.addition ≡ None = search rules in
    let none = no_entry now.board now.marked now.journal.gate entry c.args.plan.addition c.requires.plan.additions gone in
    let still = quiet_crash entry (g.J.Disk.seen old) (g.J.Disk.crash old) none (c.gate-gate.ensures.settled (ap (λ s. s.journal.failed) c.self.view_is ∙ running.journal)).durable in
    let here = subst (λ d. IfSome (g.J.Disk.seen d) (λ bytes. (es : List Entry) → HoldsEntries bytes es → CrashesLeave (HoldsBeforeOrAfter es entry) (g.J.Disk.crash d) (g.J.Disk.crash d))) (ap (λ b. b.journal.disk) c.self.view_is) still in
    subst (λ d. IfSome (g.J.Disk.seen now.journal.disk) (λ bytes. (es : List Entry) → HoldsEntries bytes es → CrashesLeave (HoldsBeforeOrAfter es entry) (g.J.Disk.crash now.journal.disk) (g.J.Disk.crash d))) (ap (λ j. j.disk) (sym c.give_back-in_default.ensures.journal)) here
