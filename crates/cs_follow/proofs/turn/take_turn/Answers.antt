use Rattle.std.proofs.Common.{◌≢◌, ◌≤◌, ◌∙◌, sym, subst, ap, [], map}
use Rattle.std.specs.Prelude.{IfSome}
use Rattle.cs_types.specs.declared.names.Window.{Window}
use Rattle.cs_device.specs.Causes.{Rose as DiskRose}
use Rattle.cs_device.specs.Crash.{CrashesLeave}
use Rattle.cs_link.specs.Causes.{Rose}
use Rattle.cs_link.specs.declared.breach.Breach.{Breach}
use Rattle.cs_schedule.specs.Board.{Shown, IsOrdered, fresh}
use Rattle.cs_book.specs.Claim.{opening_after}
use Rattle.cs_book.specs.Waiting.{AreFinished, IsOrphan}
use Rattle.cs_follow.specs.declared.outcome.Outcome.{Outcome}
use Rattle.cs_follow.specs.declared.turn.Turn.TheVariants as turns
use Rattle.cs_book.specs.Entries.{HoldsSuch}
use Rattle.cs_follow.specs.Due.{at_rest}
use Rattle.cs_follow.specs.Turn.{GoOn, IsTurnOver}
use Rattle.cs_follow.proofs.Held.{busy_never, row_taken, row_rest, idle_still, orphan_claim, done_claim}
use Rattle.cs_follow.proofs.TurnOver.{quiet_goes, ended_over, orphan_over}
use Rattle.cs_follow.specs.Pauses.{IsGettingOn, GetsOn, IsFewest, OverHonest}
use Rattle.cs_follow.specs.Reads.{HasRead, StartsAtRow, NotBack}
use Rattle.cs_follow.specs.Still.{WhereOn}
use Rattle.cs_follow.proofs.Fewest.{claimed}
use Rattle.cs_follow.proofs.Reading.{read_none}
use Rattle.cs_follow.proofs.turn.take_turn.Goals as goal

pub read_on-requires-in-Ok-Row-clause-held : goal.read_on-requires-in-Ok-Row-clause-held
read_on-requires-in-Ok-Row-clause-held g c = row_taken c.args.book.now c.claim.new.self c.in-Ok-Row.lease c.args.pace.now.order c.in-Ok-Row.field-0 c.in-Ok-Row.field-0-is c.requires.idle c.in-Ok-Row.ensures.exact c.in-Ok-Row.ensures.is_opening c.in-Ok-Row.ensures.out

pub unreachable-requires : goal.unreachable-requires
unreachable-requires g c = busy_never c.args.book.now c.claim.new.self c.args.pace.now.order c.in-Ok-Busy.field-0 c.in-Ok-Busy.field-0-is c.requires.idle c.in-Ok-Busy.ensures.exact

pub returns-in-Ok-Row-clause-turn : goal.returns-in-Ok-Row-clause-turn
returns-in-Ok-Row-clause-turn g c = λ es E.
    let old = c.args.book.now in
    let mid = c.claim.new.self in
    let new = c.read_on-in-Ok-Row.new.book in
    let R = row_rest old mid c.in-Ok-Row.lease c.args.pace.now.order c.in-Ok-Row.field-0 c.in-Ok-Row.field-0-is c.in-Ok-Row.ensures.exact in
    let before = g.K.Link.present c.args.link.now in
    let now = g.K.Link.present c.read_on-in-Ok-Row.new.link in
    let count = g.K.Link.caught_up c.args.link.now in
    let count_now = g.K.Link.caught_up c.read_on-in-Ok-Row.new.link in
    let rose = Rose (g.K.Link.faults c.args.link.now) (g.K.Link.faults c.read_on-in-Ok-Row.new.link) in
    let since = g.K.Link.moment c.args.link.now in
    let limits = c.args.pace.now.limits in
    let over = c.read_on-in-Ok-Row.ensures.turn es (c.claim.ensures.entries es E) in
    let one = subst (λ (v : Window). IsTurnOver g.J.Disk.seen g.O.Disk.seen g.J.Disk.crash limits since before now count count_now rose (DiskRose (g.J.Disk.faults mid.journal.disk) (g.J.Disk.faults new.journal.disk)) (DiskRose (g.O.Disk.faults mid.output) (g.O.Disk.faults new.output)) (g.K.Link.feed c.args.link.now v.stream) v (at_rest mid.board) mid.journal new es c.read_on-in-Ok-Row.result) R.0 over in
    let two = subst (λ (b : Shown). IsTurnOver g.J.Disk.seen g.O.Disk.seen g.J.Disk.crash limits since before now count count_now rose (DiskRose (g.J.Disk.faults mid.journal.disk) (g.J.Disk.faults new.journal.disk)) (DiskRose (g.O.Disk.faults mid.output) (g.O.Disk.faults new.output)) (g.K.Link.feed c.args.link.now old.board.window.stream) old.board.window b mid.journal new es c.read_on-in-Ok-Row.result) R.1 one in
    let three = subst (λ j. IsTurnOver g.J.Disk.seen g.O.Disk.seen g.J.Disk.crash limits since before now count count_now rose (DiskRose (g.J.Disk.faults j.disk) (g.J.Disk.faults new.journal.disk)) (DiskRose (g.O.Disk.faults mid.output) (g.O.Disk.faults new.output)) (g.K.Link.feed c.args.link.now old.board.window.stream) old.board.window (at_rest old.board) j new es c.read_on-in-Ok-Row.result) c.claim.ensures.disks.0 two in
    subst (λ o. IsTurnOver g.J.Disk.seen g.O.Disk.seen g.J.Disk.crash limits since before now count count_now rose (DiskRose (g.J.Disk.faults old.journal.disk) (g.J.Disk.faults new.journal.disk)) (DiskRose (g.O.Disk.faults o) (g.O.Disk.faults new.output)) (g.K.Link.feed c.args.link.now old.board.window.stream) old.board.window (at_rest old.board) old.journal new es c.read_on-in-Ok-Row.result) c.claim.ensures.disks.1 three

pub returns-in-Ok-Orphan-clause-turn : goal.returns-in-Ok-Orphan-clause-turn
returns-in-Ok-Orphan-clause-turn g c = λ es E.
    let old = c.args.book.now in
    let mid = c.claim.new.self in
    let N = orphan_claim old.board mid.board old.is_opening c.args.pace.now.order c.in-Ok-Orphan.field-0 c.in-Ok-Orphan.row c.in-Ok-Orphan.parent c.in-Ok-Orphan.field-0-is c.in-Ok-Orphan.ensures.exact in
    let opening = c.in-Ok-Orphan.ensures.is_opening ∙ ap (λ k. opening_after k old.is_opening) c.in-Ok-Orphan.field-0-is in
    let limits = c.args.pace.now.limits in
    let since = g.K.Link.moment c.args.link.now in
    let before = g.K.Link.present c.args.link.now in
    let count = g.K.Link.caught_up c.args.link.now in
    let rose = Rose (g.K.Link.faults c.args.link.now) (g.K.Link.faults c.args.link.now) in
    let rosej = DiskRose (g.J.Disk.faults old.journal.disk) (g.J.Disk.faults mid.journal.disk) in
    let roseo = DiskRose (g.O.Disk.faults old.output) (g.O.Disk.faults mid.output) in
    let told = g.K.Link.feed c.args.link.now old.board.window.stream in
    let still = quiet_goes mid.board.window told before es (g.J.Disk.seen old.journal.disk) (g.J.Disk.crash old.journal.disk) old.journal.gate E.held (c.settled.ensures.journal c.requires.idle.running.journal) in
    let quiet = subst (λ j. IfSome (g.J.Disk.seen j.disk) (λ _. CrashesLeave (HoldsSuch (GoOn mid.board.window told before es)) (g.J.Disk.crash j.disk) (g.J.Disk.crash j.disk))) (sym c.claim.ensures.disks.0) still in
    subst (λ j. IsTurnOver g.J.Disk.seen g.O.Disk.seen g.J.Disk.crash limits since before before count count rose rosej roseo told old.board.window (at_rest old.board) j mid es (turns.Stops (Outcome.Breach (Breach.Orphan c.in-Ok-Orphan.row c.in-Ok-Orphan.parent)))) c.claim.ensures.disks.0
    (subst (λ (b : Shown). IsTurnOver g.J.Disk.seen g.O.Disk.seen g.J.Disk.crash limits since before before count count rose rosej roseo told b.window (at_rest old.board) mid.journal mid es (turns.Stops (Outcome.Breach (Breach.Orphan c.in-Ok-Orphan.row c.in-Ok-Orphan.parent)))) N.1 (orphan_over g.J.Disk.seen g.O.Disk.seen g.J.Disk.crash limits since before count rose rosej roseo told (at_rest old.board) mid es (idle_still old mid c.requires.idle c.claim.ensures.disks.0 c.claim.ensures.rest.1 N.1 opening) (c.claim.ensures.entries es E) quiet c.in-Ok-Orphan.row c.in-Ok-Orphan.parent (subst (λ (b : Shown). IsOrdered b.rows) (sym N.1) c.settled.ensures.ordered) (subst (λ (b : Shown). IsOrphan b.rows c.in-Ok-Orphan.row c.in-Ok-Orphan.parent) (sym N.1) N.0)))

pub returns-in-Ok-Done-clause-turn : goal.returns-in-Ok-Done-clause-turn
returns-in-Ok-Done-clause-turn g c = λ es E.
    let old = c.args.book.now in
    let mid = c.claim.new.self in
    let N = done_claim old.board mid.board old.is_opening c.args.pace.now.order c.in-Ok-Done.field-0 c.in-Ok-Done.field-0-is c.in-Ok-Done.ensures.exact in
    let opening = c.in-Ok-Done.ensures.is_opening ∙ ap (λ k. opening_after k old.is_opening) c.in-Ok-Done.field-0-is in
    let limits = c.args.pace.now.limits in
    let since = g.K.Link.moment c.args.link.now in
    let before = g.K.Link.present c.args.link.now in
    let count = g.K.Link.caught_up c.args.link.now in
    let rose = Rose (g.K.Link.faults c.args.link.now) (g.K.Link.faults c.args.link.now) in
    let rosej = DiskRose (g.J.Disk.faults old.journal.disk) (g.J.Disk.faults mid.journal.disk) in
    let roseo = DiskRose (g.O.Disk.faults old.output) (g.O.Disk.faults mid.output) in
    let told = g.K.Link.feed c.args.link.now old.board.window.stream in
    let still = quiet_goes mid.board.window told before es (g.J.Disk.seen old.journal.disk) (g.J.Disk.crash old.journal.disk) old.journal.gate E.held (c.settled.ensures.journal c.requires.idle.running.journal) in
    let quiet = subst (λ j. IfSome (g.J.Disk.seen j.disk) (λ _. CrashesLeave (HoldsSuch (GoOn mid.board.window told before es)) (g.J.Disk.crash j.disk) (g.J.Disk.crash j.disk))) (sym c.claim.ensures.disks.0) still in
    subst (λ j. IsTurnOver g.J.Disk.seen g.O.Disk.seen g.J.Disk.crash limits since before before count count rose rosej roseo told old.board.window (at_rest old.board) j mid es (turns.Stops Outcome.Ended)) c.claim.ensures.disks.0
    (subst (λ (b : Shown). IsTurnOver g.J.Disk.seen g.O.Disk.seen g.J.Disk.crash limits since before before count count rose rosej roseo told b.window (at_rest old.board) mid.journal mid es (turns.Stops Outcome.Ended)) N.2 (ended_over g.J.Disk.seen g.O.Disk.seen g.J.Disk.crash limits since before count rose rosej roseo told (at_rest old.board) mid es (idle_still old mid c.requires.idle c.claim.ensures.disks.0 c.claim.ensures.rest.1 N.2 opening) (c.claim.ensures.entries es E) quiet (subst (λ (b : Shown). IsOrdered b.rows) (sym N.2) c.settled.ensures.ordered) (subst (λ (b : Shown). b.rows ≢ []) (sym N.2) N.0) (subst (λ (b : Shown). AreFinished b.rows) (sym N.2) N.1)))

pub returns-in-Ok-Row-clause-reads : goal.returns-in-Ok-Row-clause-reads
returns-in-Ok-Row-clause-reads g c =
    let R = row_rest c.args.book.now c.claim.new.self c.in-Ok-Row.lease c.args.pace.now.order c.in-Ok-Row.field-0 c.in-Ok-Row.field-0-is c.in-Ok-Row.ensures.exact in
    subst (λ (b : Shown). HasRead (g.K.Link.reads c.args.link.now) (g.K.Link.reads c.read_on-in-Ok-Row.new.link) (StartsAtRow b.rows)) R.1 c.read_on-in-Ok-Row.ensures.reads

pub returns-in-Ok-Orphan-clause-reads : goal.returns-in-Ok-Orphan-clause-reads
returns-in-Ok-Orphan-clause-reads g c = read_none (g.K.Link.reads c.args.link.now) (StartsAtRow (map fresh c.args.book.now.board.rows))

pub returns-in-Ok-Done-clause-reads : goal.returns-in-Ok-Done-clause-reads
returns-in-Ok-Done-clause-reads g c = read_none (g.K.Link.reads c.args.link.now) (StartsAtRow (map fresh c.args.book.now.board.rows))

pub returns-in-Err-clause-reads : goal.returns-in-Err-clause-reads
returns-in-Err-clause-reads g c = read_none (g.K.Link.reads c.args.link.now) (StartsAtRow (map fresh c.args.book.now.board.rows))

pub returns-in-Ok-Row-clause-stays : goal.returns-in-Ok-Row-clause-stays
returns-in-Ok-Row-clause-stays g c =
    let R = row_rest c.args.book.now c.claim.new.self c.in-Ok-Row.lease c.args.pace.now.order c.in-Ok-Row.field-0 c.in-Ok-Row.field-0-is c.in-Ok-Row.ensures.exact in
    subst (λ (b : Shown). WhereOn c.read_on-in-Ok-Row.result (NotBack b.rows (map fresh c.read_on-in-Ok-Row.new.book.board.rows))) R.1 c.read_on-in-Ok-Row.ensures.stays

pub returns-in-Ok-Row-clause-gets_on : goal.returns-in-Ok-Row-clause-gets_on
returns-in-Ok-Row-clause-gets_on g c = λ moment count f es F tells H E A early G.
    let old = c.args.book.now in
    let mid = c.claim.new.self in
    let R = row_rest old mid c.in-Ok-Row.lease c.args.pace.now.order c.in-Ok-Row.field-0 c.in-Ok-Row.field-0-is c.in-Ok-Row.ensures.exact in
    let K = claimed old mid c.in-Ok-Row.lease c.args.pace.now.order c.in-Ok-Row.field-0 c.in-Ok-Row.field-0-is c.requires.idle c.settled.ensures.ordered c.rows_stay_right.ensures.ready c.in-Ok-Row.ensures.exact in
    let over = subst (λ (v : Window). OverHonest g.J.Disk.seen g.O.Disk.seen v (g.K.Link.feed c.args.link.now v.stream) (g.K.Link.present c.args.link.now) mid (moment ≤ g.K.Link.moment c.args.link.now → IsFewest c.in-Ok-Row.lease.args.token mid.board.rows → IsGettingOn moment count mid.board.rows → GetsOn moment count c.read_on-in-Ok-Row.result c.read_on-in-Ok-Row.new.book.board.rows)) R.0 (c.read_on-in-Ok-Row.ensures.gets_on moment count) in
    over f es F tells H (c.claim.ensures.entries es E) A early K.0 (K.1 moment count G)
