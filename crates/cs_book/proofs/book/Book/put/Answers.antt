use Rattle.std.proofs.Common.{◌∙◌, List, IfSome, ap, subst, sym}
use Rattle.std.specs.Io.KnownBytes.{Appends}
use Rattle.cs_device.specs.Crash.{CrashesLeave}
use Rattle.cs_schedule.specs.declared.entry.Entry.{Entry}
use Rattle.cs_schedule.specs.Follows.{IsNextOf}
use Rattle.cs_book.specs.Book.{AreEntriesOf, AreOf, IsSound, IsOut}
use Rattle.cs_book.specs.Entries.{HoldsEntries, HoldsBeforeOrAfter, with_entry}
use Rattle.cs_book.proofs.Committed.{Adds, put_entries, put_crash, put_least}
use Rattle.cs_book.proofs.Sound.{sound_entry}
use Rattle.cs_book.proofs.book.Book.put.Goals as goal

pub returns-in-Err-JournalFault-clause-any_moment : goal.returns-in-Err-JournalFault-clause-any_moment
returns-in-Err-JournalFault-clause-any_moment g c =
    let now = c.args.self.now in
    let inside = c.self.inside in
    let entry = c.args.plan.entry in
    let told = put_crash now.board now.marked now.journal.gate entry c.args.addition (g.J.Disk.seen inside.journal.disk) (g.J.Disk.crash inside.journal.disk) (g.J.Disk.crash c.write.new.journal.disk) c.requires.additions c.requires.next.in_format c.write.ensures.any_moment in
    let here = subst (λ j. IfSome (g.J.Disk.seen inside.journal.disk) (λ bytes. (es : List Entry) → HoldsEntries bytes es → CrashesLeave (HoldsBeforeOrAfter es entry) (g.J.Disk.crash inside.journal.disk) (g.J.Disk.crash j))) (ap (λ j. j.disk) (sym c.give_back.ensures.journal)) told in
    subst (λ d. IfSome (g.J.Disk.seen d) (λ bytes. (es : List Entry) → HoldsEntries bytes es → CrashesLeave (HoldsBeforeOrAfter es entry) (g.J.Disk.crash d) (g.J.Disk.crash c.give_back.new.self.journal.disk))) (ap (λ b. b.journal.disk) c.self.view_is) here

pub returns-in-Err-OutputFault-clause-any_moment : goal.returns-in-Err-OutputFault-clause-any_moment
returns-in-Err-OutputFault-clause-any_moment g c =
    let now = c.args.self.now in
    let inside = c.self.inside in
    let entry = c.args.plan.entry in
    let told = put_crash now.board now.marked now.journal.gate entry c.args.addition (g.J.Disk.seen inside.journal.disk) (g.J.Disk.crash inside.journal.disk) (g.J.Disk.crash c.write.new.journal.disk) c.requires.additions c.requires.next.in_format c.write.ensures.any_moment in
    let here = subst (λ j. IfSome (g.J.Disk.seen inside.journal.disk) (λ bytes. (es : List Entry) → HoldsEntries bytes es → CrashesLeave (HoldsBeforeOrAfter es entry) (g.J.Disk.crash inside.journal.disk) (g.J.Disk.crash j))) (ap (λ j. j.disk) (sym c.give_back-in-Err-OutputFault.ensures.journal)) told in
    subst (λ d. IfSome (g.J.Disk.seen d) (λ bytes. (es : List Entry) → HoldsEntries bytes es → CrashesLeave (HoldsBeforeOrAfter es entry) (g.J.Disk.crash d) (g.J.Disk.crash c.give_back-in-Err-OutputFault.new.self.journal.disk))) (ap (λ b. b.journal.disk) c.self.view_is) here

pub returns-clause-any_moment : goal.returns-clause-any_moment
returns-clause-any_moment g c =
    let now = c.args.self.now in
    let inside = c.self.inside in
    let entry = c.args.plan.entry in
    let told = put_crash now.board now.marked now.journal.gate entry c.args.addition (g.J.Disk.seen inside.journal.disk) (g.J.Disk.crash inside.journal.disk) (g.J.Disk.crash c.write.new.journal.disk) c.requires.additions c.requires.next.in_format c.write.ensures.any_moment in
    subst (λ d. IfSome (g.J.Disk.seen d) (λ bytes. (es : List Entry) → HoldsEntries bytes es → CrashesLeave (HoldsBeforeOrAfter es entry) (g.J.Disk.crash d) (g.J.Disk.crash c.write.new.journal.disk))) (ap (λ b. b.journal.disk) c.self.view_is) told

pub returns-clause-entries : goal.returns-clause-entries
returns-clause-entries g c =
    let inside = c.self.inside in
    let entry = c.args.plan.entry in
    let a = c.args.addition in
    let later = c.write.new.journal.disk in
    let text = c.write.new.output in
    let adds = subst (λ s. Adds s entry a) (sym c.self.view_is) c.requires.additions in
    let appends = subst (λ l. Appends (g.O.Disk.seen inside.output) (g.O.Disk.seen text) l) (c.as_bytes-text.ensures.value ∙ c.as_str.ensures) c.in-Ok.ensures.appended in
    subst (λ s. (es : List Entry) → AreEntriesOf g.J.Disk.seen g.O.Disk.seen s es → AreOf (g.J.Disk.seen later) (g.O.Disk.seen text) c.take_in.new.board a.marked (with_entry es entry)) c.self.view_is
    (put_entries c.texts_are_by_entries.ensures.text inside.board c.take_in.new.board inside.marked inside.journal.gate entry a (g.J.Disk.seen inside.journal.disk) (g.J.Disk.seen later) (g.O.Disk.seen inside.output) (g.O.Disk.seen text)
    adds c.requires.next.in_format (g.met.J.Disk.silent inside.journal.disk later c.write.ensures.objects.0) c.in-Ok.ensures.put (g.met.O.Disk.silent inside.output text c.write.ensures.objects.1) appends c.take_in.ensures.window c.take_in.ensures.entries)

pub invariant_of-self-2 : goal.invariant_of-self-2
invariant_of-self-2 g c =
    let now = c.args.self.now in
    let inside = c.self.inside in
    let entry = c.args.plan.entry in
    let a = c.args.addition in
    let later = c.write.new.journal.disk in
    let text = c.write.new.output in
    let adds = subst (λ s. Adds s entry a) (sym c.self.view_is) c.requires.additions in
    let appends = subst (λ l. Appends (g.O.Disk.seen inside.output) (g.O.Disk.seen text) l) (c.as_bytes-text.ensures.value ∙ c.as_str.ensures) c.in-Ok.ensures.appended in
    let next = subst (λ b. IsNextOf b c.args.plan) (sym (ap (λ s. s.board) c.self.view_is)) c.requires.next in
    let out = subst (λ b. IsOut b inside.is_opening c.args.token.now) (sym (ap (λ s. s.board) c.self.view_is)) (subst (λ o. IsOut now.board o c.args.token.now) (sym (ap (λ s. s.is_opening) c.self.view_is)) c.requires.out) in (
      put_least now.board now.marked now.journal.gate entry a c.requires.additions,
      subst (IsSound c.take_in.new.board) (sym c.is_still_opening-self-inside.ensures) (sound_entry inside.board c.take_in.new.board c.args.plan inside.is_opening c.args.caught_up c.args.token.now next c.requires.of out c.self.invariant.1 c.take_in.ensures.window c.take_in.ensures.rows),
      λ _ _.
          let e = c.self.invariant.2 (ap (λ s. s.journal.failed) c.self.view_is ∙ c.requires.running.journal) (ap (λ s. s.output_failed) c.self.view_is ∙ c.requires.running.output) in (
            with_entry e.0 entry,
            put_entries c.texts_are_by_entries.ensures.text inside.board c.take_in.new.board inside.marked inside.journal.gate entry a (g.J.Disk.seen inside.journal.disk) (g.J.Disk.seen later) (g.O.Disk.seen inside.output) (g.O.Disk.seen text)
                adds c.requires.next.in_format (g.met.J.Disk.silent inside.journal.disk later c.write.ensures.objects.0) c.in-Ok.ensures.put (g.met.O.Disk.silent inside.output text c.write.ensures.objects.1) appends c.take_in.ensures.window c.take_in.ensures.entries e.0 e.1,
          ),
    )
