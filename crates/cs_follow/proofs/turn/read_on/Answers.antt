use Rattle.std.proofs.Common.{◌≡◌, ◌≤◌, ◌∙◌, false, sym, refl, subst, ap, map, List, ℕ, Err, Some}
use Rattle.std.specs.Prelude.{IfSome}
use Rattle.cs_types.specs.declared.names.Window.{Window}
use Rattle.cs_types.specs.Stamp.{IsStamp}
use Rattle.cs_device.specs.Causes.{Rose as DiskRose}
use Rattle.cs_device.specs.Crash.{CrashesLeave}
use Rattle.cs_link.specs.declared.feed.Feed.{Feed}
use Rattle.cs_link.specs.Batch.{IsFaithful}
use Rattle.cs_link.specs.Causes.{Rose}
use Rattle.cs_link.specs.Honest.{IsHonestFor}
use Rattle.cs_link.specs.Reading.{end_of}
use Rattle.cs_schedule.specs.Board.{Shown, fresh}
use Rattle.cs_book.specs.Entries.{HoldsSuch}
use Rattle.cs_follow.specs.Due.{at_rest}
use Rattle.cs_follow.specs.Turn.{GoOn}
use Rattle.cs_follow.proofs.Carrying.{left_carrying, stop_carries, batch_carries}
use Rattle.cs_follow.proofs.Causes.{fault_turn}
use Rattle.cs_follow.proofs.GettingOn.{turn_gets_on}
use Rattle.cs_follow.proofs.Held.{left_back}
use Rattle.cs_follow.proofs.Moving.{turn_back}
use Rattle.cs_follow.proofs.Putting.{held_fits, held_within, held_work}
use Rattle.cs_follow.proofs.Reading.{read_once, due_reads}
use Rattle.cs_follow.proofs.AtRest.{fresh_ordered}
use Rattle.cs_follow.proofs.TurnOver.{told_apart, quiet_goes, fault_over, fault_does, batch_over}
use Rattle.cs_follow.proofs.Work.{lease_end}
use Rattle.cs_follow.proofs.turn.read_on.Goals as goal

pub fetch-requires-clause-start : goal.fetch-requires-clause-start
fetch-requires-clause-start g c =
    let low : IsStamp c.args.book.now.board.window.start = subst IsStamp (c.us-start.ensures.value ∙ ap (λ (v : Window). v.start) c.window.ensures ∙ ap (λ (b : Shown). b.window.start) c.board.ensures) c.us-start.ensures.range in
    held_fits g.J.Disk.seen g.O.Disk.seen c.args.book.now c.args.lease low.0 c.settled.ensures.sound c.requires.held

pub settle-requires-clause-well : goal.settle-requires-clause-well
settle-requires-clause-well g c =
    let low : IsStamp c.args.book.now.board.window.start = subst IsStamp (c.us-start.ensures.value ∙ ap (λ (v : Window). v.start) c.window.ensures ∙ ap (λ (b : Shown). b.window.start) c.board.ensures) c.us-start.ensures.range in
    c.in-Ok.ensures.well_formed (held_within g.J.Disk.seen g.O.Disk.seen c.args.book.now c.args.lease low.0 c.settled.ensures.sound c.requires.held)

pub returns-in-Ok-clause-turn : goal.returns-in-Ok-clause-turn
returns-in-Ok-clause-turn g c = λ es E.
    let low : IsStamp c.args.book.now.board.window.start = subst IsStamp (c.us-start.ensures.value ∙ ap (λ (v : Window). v.start) c.window.ensures ∙ ap (λ (b : Shown). b.window.start) c.board.ensures) c.us-start.ensures.range in
    let w = c.args.book.now.board.window in
    let well = c.in-Ok.ensures.well_formed (held_within g.J.Disk.seen g.O.Disk.seen c.args.book.now c.args.lease low.0 c.settled.ensures.sound c.requires.held) in
    let honest : IsHonestFor w.stream (g.K.Link.feed c.args.link.now w.stream) (g.K.Link.present c.args.link.now) → (f : Feed) → g.K.Link.feed c.args.link.now w.stream ≡ Some f → IsFaithful f (end_of c.args.lease.args) c.args.lease.known c.in-Ok.batch =
    subst (λ (z : List ℕ). IsHonestFor z (g.K.Link.feed c.args.link.now z) (g.K.Link.present c.args.link.now) → (f : Feed) → g.K.Link.feed c.args.link.now z ≡ Some f → IsFaithful f (end_of c.args.lease.args) c.args.lease.known c.in-Ok.batch) (lease_end w (map fresh c.args.book.now.board.rows) c.args.lease c.requires.held.due).2 c.in-Ok.ensures.honest in
    batch_over g.J.Disk.seen g.O.Disk.seen g.J.Disk.crash c.args.limits.now (g.K.Link.moment c.args.link.now) (g.K.Link.present c.args.link.now) (g.K.Link.present c.fetch.new.link) (g.K.Link.caught_up c.args.link.now) (g.K.Link.caught_up c.fetch.new.link)
    (Rose (g.K.Link.faults c.args.link.now) (g.K.Link.faults c.fetch.new.link)) (DiskRose (g.J.Disk.faults c.args.book.now.journal.disk) (g.J.Disk.faults c.settle.new.book.journal.disk)) (DiskRose (g.O.Disk.faults c.args.book.now.output) (g.O.Disk.faults c.settle.new.book.output))
    (g.K.Link.feed c.args.link.now w.stream) c.args.book.now c.settle.new.book es c.args.lease (held_work g.J.Disk.seen g.O.Disk.seen c.args.book.now c.args.lease low.0 c.settled.ensures.sound c.requires.held c.leases_are_no_entries.ensures.fresh c.settled.ensures.ordered es E)
    c.in-Ok.batch c.in-Ok.ensures.batch c.in-Ok.ensures.caught_up well c.boards_stay_consistent.ensures.batch honest c.settle.result (c.settle.ensures.settles es E) (c.settle.ensures.crashes es E)

pub returns-in-Err-clause-turn : goal.returns-in-Err-clause-turn
returns-in-Err-clause-turn g c = λ es E.
    let low : IsStamp c.args.book.now.board.window.start = subst IsStamp (c.us-start.ensures.value ∙ ap (λ (v : Window). v.start) c.window.ensures ∙ ap (λ (b : Shown). b.window.start) c.board.ensures) c.us-start.ensures.range in
    let w = c.args.book.now.board.window in
    let A = held_work g.J.Disk.seen g.O.Disk.seen c.args.book.now c.args.lease low.0 c.settled.ensures.sound c.requires.held c.leases_are_no_entries.ensures.fresh c.settled.ensures.ordered es E in
    let L = left_back g.J.Disk.seen g.O.Disk.seen c.args.book.now c.release.new.self c.args.lease c.requires.held c.settled.ensures.ordered false es
    (record {
      journal = ap (λ j. j.failed) c.release.ensures.disks.0 ∙ c.requires.running.journal;
      output = c.release.ensures.rest.1 ∙ c.requires.running.output;
    })
    (c.release.ensures.entries es E) (ap (λ j. j.gate) c.release.ensures.disks.0) c.release.ensures.rows c.release.ensures.is_opening in
    let told = g.K.Link.feed c.args.link.now w.stream in
    let before = g.K.Link.present c.args.link.now in
    let rosej = DiskRose (g.J.Disk.faults c.args.book.now.journal.disk) (g.J.Disk.faults c.release.new.self.journal.disk) in
    let roseo = DiskRose (g.O.Disk.faults c.args.book.now.output) (g.O.Disk.faults c.release.new.self.output) in
    let rose = Rose (g.K.Link.faults c.args.link.now) (g.K.Link.faults c.fetch.new.link) in
    let quiet = subst (λ (j : _). IfSome (g.J.Disk.seen c.args.book.now.journal.disk) (λ _. CrashesLeave (HoldsSuch (GoOn w told before es)) (g.J.Disk.crash c.args.book.now.journal.disk) (g.J.Disk.crash j.disk))) (sym c.release.ensures.disks.0)
    (quiet_goes w told before es (g.J.Disk.seen c.args.book.now.journal.disk) (g.J.Disk.crash c.args.book.now.journal.disk) c.args.book.now.journal.gate E.held (c.settled.ensures.journal c.requires.running.journal)) in
    fault_over g.J.Disk.seen g.O.Disk.seen g.J.Disk.crash c.args.limits.now (g.K.Link.moment c.args.link.now) before (g.K.Link.present c.fetch.new.link) (g.K.Link.caught_up c.args.link.now) (g.K.Link.caught_up c.fetch.new.link) rose rosej roseo told c.args.book.now c.release.new.self es c.args.lease A c.outcome_of-outcome.result L quiet
    (fault_does g.J.Disk.seen g.O.Disk.seen g.J.Disk.crash c.args.limits.now (g.K.Link.moment c.args.link.now) before (g.K.Link.present c.fetch.new.link) (g.K.Link.caught_up c.args.link.now) (g.K.Link.caught_up c.fetch.new.link) rose rosej roseo told c.args.book.now c.release.new.self es c.args.lease A c.outcome_of-outcome.result L.idle L.entries
    (λ b. fault_turn w c.args.limits.now (g.K.Link.moment c.args.link.now) before (g.K.Link.present c.fetch.new.link) (g.K.Link.caught_up c.args.link.now) (g.K.Link.caught_up c.fetch.new.link) rose es (at_rest c.args.book.now.board) c.args.lease A es b (Err c.in-Err.fault) c.in-Err.fault c.outcome_of-outcome.result refl c.in-Err.ensures.breach c.in-Err.ensures.stalled c.in-Err.ensures.refused c.in-Err.ensures.link_fault c.outcome_of-outcome.ensures refl)
    (told_apart c.args.lease.args.token c.in-Err.fault c.outcome_of-outcome.result c.outcome_of-outcome.ensures))

pub returns-in-Ok-clause-carried : goal.returns-in-Ok-clause-carried
returns-in-Ok-clause-carried g c = λ f es E C.
    let low : IsStamp c.args.book.now.board.window.start = subst IsStamp (c.us-start.ensures.value ∙ ap (λ (v : Window). v.start) c.window.ensures ∙ ap (λ (b : Shown). b.window.start) c.board.ensures) c.us-start.ensures.range in
    let w = c.args.book.now.board.window in
    let ends = lease_end w (map fresh c.args.book.now.board.rows) c.args.lease c.requires.held.due in
    let well = c.in-Ok.ensures.well_formed (held_within g.J.Disk.seen g.O.Disk.seen c.args.book.now c.args.lease low.0 c.settled.ensures.sound c.requires.held) in
    let honest : IsHonestFor c.args.lease.args.stream (g.K.Link.feed c.args.link.now c.args.lease.args.stream) (g.K.Link.present c.args.link.now) = subst (λ (z : List ℕ). IsHonestFor z (g.K.Link.feed c.args.link.now z) (g.K.Link.present c.args.link.now)) (sym ends.2) C.honest in
    let tells : g.K.Link.feed c.args.link.now c.args.lease.args.stream ≡ Some f = subst (λ (z : List ℕ). g.K.Link.feed c.args.link.now z ≡ Some f) (sym ends.2) C.tells in
    let late : end_of c.args.lease.args ≤ g.K.Link.moment c.args.link.now = subst (λ (n : ℕ). n ≤ g.K.Link.moment c.args.link.now) (sym ends.1) C.moment in
    batch_carries g.J.Disk.seen g.O.Disk.seen (DiskRose (g.J.Disk.faults c.args.book.now.journal.disk) (g.J.Disk.faults c.settle.new.book.journal.disk)) (DiskRose (g.O.Disk.faults c.args.book.now.output) (g.O.Disk.faults c.settle.new.book.output))
    c.args.book.now c.settle.new.book es c.args.lease (held_work g.J.Disk.seen g.O.Disk.seen c.args.book.now c.args.lease low.0 c.settled.ensures.sound c.requires.held c.leases_are_no_entries.ensures.fresh c.settled.ensures.ordered es E)
    c.in-Ok.batch well c.boards_stay_consistent.ensures.batch f (c.in-Ok.ensures.honest honest f tells) (c.in-Ok.ensures.brings_on honest C.at_pace late) c.something_is_planned.ensures.brings c.something_is_planned.ensures.first c.entries_are_carried.ensures.carried c.reads_start_at_low.ensures.stays
    C.followed C.following C.fits c.settle.result (c.settle.ensures.settles es E)

pub returns-in-Err-clause-carried : goal.returns-in-Err-clause-carried
returns-in-Err-clause-carried g c = λ f es E C.
    stop_carries g.J.Disk.seen g.O.Disk.seen f c.args.book.now.board.window c.release.new.self es c.outcome_of-outcome.result (told_apart c.args.lease.args.token c.in-Err.fault c.outcome_of-outcome.result c.outcome_of-outcome.ensures)
    (left_carrying g.J.Disk.seen g.O.Disk.seen f c.args.book.now.board.window c.args.book.now.journal.gate c.release.new.self es (c.release.ensures.entries es E) (ap (λ j. j.gate) c.release.ensures.disks.0) C.following C.fits)

pub returns-in-Ok-clause-reads : goal.returns-in-Ok-clause-reads
returns-in-Ok-clause-reads g c = due_reads (g.K.Link.reads c.args.link.now) (g.K.Link.reads c.fetch.new.link) c.args.book.now.board.window (map fresh c.args.book.now.board.rows) c.args.lease (fresh_ordered c.args.book.now.board.rows c.settled.ensures.ordered) c.requires.held.due (read_once (g.K.Link.reads c.args.link.now) (g.K.Link.reads c.fetch.new.link) c.args.lease.args (λ args. args ≡ c.args.lease.args) c.fetch.result refl c.fetch.ensures.reads)

pub returns-in-Err-clause-reads : goal.returns-in-Err-clause-reads
returns-in-Err-clause-reads g c = due_reads (g.K.Link.reads c.args.link.now) (g.K.Link.reads c.fetch.new.link) c.args.book.now.board.window (map fresh c.args.book.now.board.rows) c.args.lease (fresh_ordered c.args.book.now.board.rows c.settled.ensures.ordered) c.requires.held.due (read_once (g.K.Link.reads c.args.link.now) (g.K.Link.reads c.fetch.new.link) c.args.lease.args (λ args. args ≡ c.args.lease.args) c.fetch.result refl c.fetch.ensures.reads)

pub returns-in-Ok-clause-stays : goal.returns-in-Ok-clause-stays
returns-in-Ok-clause-stays g c =
    let low : IsStamp c.args.book.now.board.window.start = subst IsStamp (c.us-start.ensures.value ∙ ap (λ (v : Window). v.start) c.window.ensures ∙ ap (λ (b : Shown). b.window.start) c.board.ensures) c.us-start.ensures.range in
    let well = c.in-Ok.ensures.well_formed (held_within g.J.Disk.seen g.O.Disk.seen c.args.book.now c.args.lease low.0 c.settled.ensures.sound c.requires.held) in
    turn_back c.args.book.now.board c.settled.ensures.ordered c.args.lease c.requires.held.due c.in-Ok.batch well.token c.settle.new.book.board.rows c.settle.result c.settle.ensures.moves

pub returns-in-Ok-clause-gets_on : goal.returns-in-Ok-clause-gets_on
returns-in-Ok-clause-gets_on g c = λ moment count f es F tells H E A early fewest G.
    let low : IsStamp c.args.book.now.board.window.start = subst IsStamp (c.us-start.ensures.value ∙ ap (λ (v : Window). v.start) c.window.ensures ∙ ap (λ (b : Shown). b.window.start) c.board.ensures) c.us-start.ensures.range in
    let w = c.args.book.now.board.window in
    let ends = lease_end w (map fresh c.args.book.now.board.rows) c.args.lease c.requires.held.due in
    let well = c.in-Ok.ensures.well_formed (held_within g.J.Disk.seen g.O.Disk.seen c.args.book.now c.args.lease low.0 c.settled.ensures.sound c.requires.held) in
    let honest : IsHonestFor c.args.lease.args.stream (g.K.Link.feed c.args.link.now c.args.lease.args.stream) (g.K.Link.present c.args.link.now) = subst (λ (z : List ℕ). IsHonestFor z (g.K.Link.feed c.args.link.now z) (g.K.Link.present c.args.link.now)) (sym ends.2) H in
    let told : g.K.Link.feed c.args.link.now c.args.lease.args.stream ≡ Some f = subst (λ (z : List ℕ). g.K.Link.feed c.args.link.now z ≡ Some f) (sym ends.2) tells in
    turn_gets_on c.args.book.now.board c.args.lease c.settled.ensures.ordered c.requires.held.due es E.rows f F A c.in-Ok.batch well (c.in-Ok.ensures.honest honest f told) moment (g.K.Link.moment c.args.link.now) count early (c.in-Ok.ensures.reaches honest) fewest G c.settle.result c.settle.new.book.board.rows c.settle.ensures.moves
