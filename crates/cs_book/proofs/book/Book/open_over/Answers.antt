use Rattle.std.proofs.Common.{◌≡◌, Some, subst, sym}
use Rattle.cs_book.specs.Reading.{IsFound}
use Rattle.cs_book.proofs.Opened.{none_held, whole_held, if_err, first_fault, whole_fault, opened_crash, whole_crash, whole_objects}
use Rattle.cs_book.proofs.book.Book.open_over.Goals as goal

pub reopened-requires-clause-told : goal.reopened-requires-clause-told
reopened-requires-clause-told g c =
    let found = subst (IsFound c.args.stored.now) c.in-Ok-Whole.field-0-is c.in-Ok-Whole.ensures in
    (found.0, whole_held (g.J.Disk.seen c.args.journal.disk) c.args.stored.now found.0 c.requires.stored found.1, found.2)

pub returns-in-Ok-Nothing-clause-refused : goal.returns-in-Ok-Nothing-clause-refused
returns-in-Ok-Nothing-clause-refused g c =
    let stored = c.args.stored.now in
    let nil = subst (IsFound stored) c.in-Ok-Nothing.field-0-is c.in-Ok-Nothing.ensures in
    if_err _ _ c.begun.result (λ e h. first_fault c.args.window.now stored (g.O.Disk.seen c.args.output) (g.J.Disk.faults c.args.journal.disk) (g.O.Disk.faults c.args.output) e.0 (g.J.Disk.faults e.1) (g.O.Disk.faults e.2) nil h) c.begun.ensures.refused

pub returns-in-Ok-Whole-clause-refused : goal.returns-in-Ok-Whole-clause-refused
returns-in-Ok-Whole-clause-refused g c =
    let stored = c.args.stored.now in
    let found = subst (IsFound stored) c.in-Ok-Whole.field-0-is c.in-Ok-Whole.ensures in
    let told = found.2.tells.rows in
    if_err _ _ c.reopened.result (λ e h. whole_fault c.args.window.now c.in-Ok-Whole.telling.board.window stored found.0 (g.O.Disk.seen c.args.output) (g.J.Disk.faults c.args.journal.disk) (g.O.Disk.faults c.args.output) e.0 (g.J.Disk.faults e.1) (g.O.Disk.faults e.2) found.1 told.folds told.begun h) c.reopened.ensures.refused

pub returns-in-Ok-Whole-clause-any_moment : goal.returns-in-Ok-Whole-clause-any_moment
returns-in-Ok-Whole-clause-any_moment g c =
    let j = c.args.journal in
    let seen = g.J.Disk.seen j.disk in
    let old = g.J.Disk.crash j.disk in
    let w = c.args.window.now in
    whole_crash w seen old g.J.Disk.crash (λ x. x.disk) j (λ b. b.journal) (λ e. e.1) c.reopened.result c.reopened.ensures.journal c.reopened.ensures.back (opened_crash w seen old (c.gate-gate.ensures.settled c.requires.running).durable)

pub returns-in-Ok-Whole-clause-objects : goal.returns-in-Ok-Whole-clause-objects
returns-in-Ok-Whole-clause-objects g c =
    let j = c.args.journal in
    whole_objects (g.J.Disk.same j.disk) (λ x. x.disk) j (λ b. b.journal) (λ e. e.1) _ _ c.reopened.result c.reopened.ensures.journal c.reopened.ensures.back (g.met.J.Disk.same_now j.disk) c.reopened.ensures.object
