use Rattle.std.proofs.Common.{◌≡◌, ◌<◌, ◌≤◌, sym, subst, ap, ◌∙◌, arith}
use Rattle.cs_device.specs.Causes.{Rose as DiskRose}
use Rattle.cs_types.specs.declared.names.Window.{Window}
use Rattle.cs_link.specs.declared.refusal.ReadRefusal.{ReadRefusal}
use Rattle.cs_tool.specs.Database.{IsStreamIn, HasNoStream}
use Rattle.cs_tool.proofs.Followed.{barred_in, feed_created, has_stream}
use Rattle.cs_tool.proofs.Wanted.{has_feed}
use Rattle.cs_tool.proofs.following.follow_window.Goals as goal

pub returns-in_default-clause-followed : goal.returns-in_default-clause-followed
returns-in_default-clause-followed g c = λ es E.
    let db = c.args.state.now in
    let old = c.args.book.now in
    let w = old.board.window in
    let rosej = DiskRose (g.J.Disk.faults old.journal.disk) (g.J.Disk.faults old.journal.disk) in
    let roseo = DiskRose (g.O.Disk.faults old.output) (g.O.Disk.faults old.output) in
    let none : HasNoStream db w.stream = subst (λ (v : Window). HasNoStream db v.stream) (sym c.requires.window) c.in_default.ensures in
    barred_in g.J.Disk.seen g.O.Disk.seen g.J.Disk.crash rosej roseo db c.args.going.now.pace c.args.going.now.moment old es E (c.settled.ensures.journal c.requires.running.journal) c.requires.running.journal ReadRefusal.UnknownFunction none (λ f is created. has_stream db w.stream f is none)

pub returns-then-us-clause-followed : goal.returns-then-us-clause-followed
returns-then-us-clause-followed g c = λ es E.
    let db = c.args.state.now in
    let old = c.args.book.now in
    let w = old.board.window in
    let s = c.in-Some.stream.now in
    let rosej = DiskRose (g.J.Disk.faults old.journal.disk) (g.J.Disk.faults old.journal.disk) in
    let roseo = DiskRose (g.O.Disk.faults old.output) (g.O.Disk.faults old.output) in
    let there : IsStreamIn db w.stream s = subst (λ (v : Window). IsStreamIn db v.stream s) (sym c.requires.window) c.in-Some.ensures in
    let start : w.start ≡ c.us.result = ap (λ (v : Window). v.start) c.requires.window ∙ sym c.us.ensures.value in
    let created = c.us-2.ensures.value in
    let below = c.if-us.true in
    let before : w.start < s.created = omega (arith, start, created, below) in
    let F = has_feed db w.stream s c.states_are_kept.ensures c.feeds_are_told_by_name.ensures c.streams_are_sound.ensures there in
    barred_in g.J.Disk.seen g.O.Disk.seen g.J.Disk.crash rosej roseo db c.args.going.now.pace c.args.going.now.moment old es E (c.settled.ensures.journal c.requires.running.journal) c.requires.running.journal ReadRefusal.StartBeforeCreation (s, there, before)
    (λ f is created. let same = feed_created db w.stream s F c.feeds_are_told_by_name.ensures c.states_are_kept.ensures f is in omega (arith, before, created, same))

pub returns-in_default-clause-complete : goal.returns-in_default-clause-complete
returns-in_default-clause-complete g c = λ es E f is C.
    let db = c.args.state.now in
    let w = c.args.book.now.board.window in
    let none : HasNoStream db w.stream = subst (λ (v : Window). HasNoStream db v.stream) (sym c.requires.window) c.in_default.ensures in
    absurd (has_stream db w.stream f is none)

pub returns-then-us-clause-complete : goal.returns-then-us-clause-complete
returns-then-us-clause-complete g c = λ es E f is C.
    let db = c.args.state.now in
    let w = c.args.book.now.board.window in
    let s = c.in-Some.stream.now in
    let there : IsStreamIn db w.stream s = subst (λ (v : Window). IsStreamIn db v.stream s) (sym c.requires.window) c.in-Some.ensures in
    let start : w.start ≡ c.us.result = ap (λ (v : Window). v.start) c.requires.window ∙ sym c.us.ensures.value in
    let created = c.us-2.ensures.value in
    let below = c.if-us.true in
    let before : w.start < s.created = omega (arith, start, created, below) in
    let F = has_feed db w.stream s c.states_are_kept.ensures c.feeds_are_told_by_name.ensures c.streams_are_sound.ensures there in
    let same = feed_created db w.stream s F c.feeds_are_told_by_name.ensures c.states_are_kept.ensures f is in
    let born : f.created ≤ w.start = C.born in
    absurd (omega (arith, before, born, same))
