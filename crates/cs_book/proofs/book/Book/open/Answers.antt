use Rattle.std.proofs.Common.{◌≡◌, ℕ, Err, IfSome, subst, sym}
use Rattle.cs_journal.specs.Rows.{stored_of}
use Rattle.cs_journal.specs.Crashes.{HasSamePayloads, KeepsAnOldImage}
use Rattle.cs_journal.specs.State.{WhereTold}
use Rattle.cs_book.proofs.Opened.{open_crash, open_fault, if_err, bad_refused, begun_more, writes_more, read_not_broken, broken_stays, IsRead}
use Rattle.cs_book.proofs.Payloads.{if_ok}
use Rattle.cs_book.proofs.Still.{still_then, still_told}
use Rattle.cs_book.proofs.book.Book.open.Goals as goal

pub returns-in-Ok-clause-any_moment : goal.returns-in-Ok-clause-any_moment
returns-in-Ok-clause-any_moment g c =
    let old = c.args.journal in
    let mid = c.in-Ok.journal.disk in
    open_crash c.args.window.now (g.J.Disk.seen old) (g.J.Disk.seen mid) (g.J.Disk.crash old) (g.J.Disk.crash mid) (λ b. g.J.Disk.crash b.journal.disk) (λ e. g.J.Disk.crash e.1) c.open_over.result c.in-Ok.ensures.kept (g.met.J.Disk.reads_image mid) c.in-Ok.ensures.any_moment c.open_over.ensures.any_moment

pub returns-in-Ok-clause-refused : goal.returns-in-Ok-clause-refused
returns-in-Ok-clause-refused g c =
    let old = c.args.journal in
    let mid = c.in-Ok.journal.disk in
    let read = subst (IsRead (g.J.Disk.seen old)) (sym c.as_slice.ensures) c.in-Ok.ensures.payloads in
    if_err _ _ c.open_over.result (λ e h. open_fault c.args.window.now (g.J.Disk.seen old) c.as_slice.result.now (g.O.Disk.seen c.args.output) (g.J.Disk.faults old) (g.J.Disk.faults mid) (g.O.Disk.faults c.args.output) e.0 (g.J.Disk.faults e.1) (g.O.Disk.faults e.2) read c.in-Ok.ensures.cause_ok h) c.open_over.ensures.refused

pub returns-in-Ok-clause-stays : goal.returns-in-Ok-clause-stays
returns-in-Ok-clause-stays g c =
    let old = c.args.journal in
    let seen = g.J.Disk.seen old in
    let crash = g.J.Disk.crash old in
    if_err _ _ c.open_over.result (λ e h. writes_more e.0 _ _
    (λ s. (subst (λ d. WhereTold HasSamePayloads seen (g.J.Disk.seen d)) (sym s.0) c.in-Ok.ensures.kept, subst (λ d. KeepsAnOldImage seen crash (g.J.Disk.crash d)) (sym s.0) c.in-Ok.ensures.any_moment, s.1)) h) c.open_over.ensures.stays

pub returns-in-Ok-clause-untouched : goal.returns-in-Ok-clause-untouched
returns-in-Ok-clause-untouched g c =
    let seen = g.J.Disk.seen c.args.journal in
    let read = subst (IsRead seen) (sym c.as_slice.ensures) c.in-Ok.ensures.payloads in
    if_err _ _ c.open_over.result (λ e h. read_not_broken e.0 seen c.as_slice.result.now _ read) c.open_over.ensures.stays

pub returns-in-Ok-clause-not_begun : goal.returns-in-Ok-clause-not_begun
returns-in-Ok-clause-not_begun g c =
    let old = c.args.journal in
    let seen = g.J.Disk.seen old in
    let crash = g.J.Disk.crash old in
    let read = subst (IsRead seen) (sym c.as_slice.ensures) c.in-Ok.ensures.payloads in
    begun_more seen (g.O.Disk.seen c.args.output) c.as_slice.result.now c.open_over.result _ _ read
    (λ e s. (subst (λ d. KeepsAnOldImage seen crash (g.J.Disk.crash d)) (sym s.0) c.in-Ok.ensures.any_moment, s.1)) c.open_over.ensures.not_begun

pub returns-in-Err-BadJournal-default-clause-refused : goal.returns-in-Err-BadJournal-default-clause-refused
returns-in-Err-BadJournal-default-clause-refused g c =
    let bad = c.in-Err-BadJournal-default.ensures.bad c.in-Err-BadJournal-default.place c.in-Err-BadJournal-default.field-0-0-is in
    bad_refused (g.J.Disk.seen c.args.journal) _ _ (subst (λ (n : ℕ). IfSome (g.J.Disk.seen c.args.journal) (λ bytes. stored_of bytes ≡ Err n)) (sym c.in-Err-BadJournal-default.place-is) bad)

pub returns-in-Ok-clause-still : goal.returns-in-Ok-clause-still
returns-in-Ok-clause-still g c =
    let seen = g.J.Disk.seen c.args.journal in
    let mid = g.J.Disk.seen c.in-Ok.journal.disk in
    if_ok _ _ c.open_over.result (λ b h. (still_then seen mid (g.J.Disk.seen b.journal.disk) (still_told HasSamePayloads seen mid c.in-Ok.ensures.kept) h.0, h.1)) c.open_over.ensures.still

pub returns-in-Err-BadJournal-default-clause-untouched : goal.returns-in-Err-BadJournal-default-clause-untouched
returns-in-Err-BadJournal-default-clause-untouched g c =
    let is = c.in-Err-BadJournal-default.ensures.untouched c.in-Err-BadJournal-default.place c.in-Err-BadJournal-default.field-0-0-is in
    broken_stays (g.J.Disk.seen c.args.journal) _ _ is
