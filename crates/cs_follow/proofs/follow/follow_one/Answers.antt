use Rattle.std.proofs.Common.{◌≡◌, ◌∙◌, refl, sym, subst, ap, arith}
use Rattle.cs_types.specs.declared.names.Window.{Window}
use Rattle.cs_types.specs.Stamp.{IsStamp}
use Rattle.cs_device.specs.Causes.{Rose as DiskRose}
use Rattle.cs_link.specs.Causes.{Rose}
use Rattle.cs_schedule.specs.Board.{Shown}
use Rattle.cs_follow.specs.Carry.{IsCarrying}
use Rattle.cs_follow.proofs.Ends.{kept_no_longer, only_ends}
use Rattle.cs_follow.proofs.Looping.{same_feed}
use Rattle.cs_follow.specs.Pauses.{HasComeTo}
use Rattle.cs_follow.proofs.Pausing.{has_come}
use Rattle.cs_follow.proofs.Right.{paused_before, right_of, stopped_entries}
use Rattle.cs_follow.proofs.Still.{unless_from}
use Rattle.cs_follow.proofs.Synced.{right_synced, paused_synced, link_synced, unless_synced, full_synced, carrying_synced, followed_synced}
use Rattle.cs_follow.proofs.Tireless.{never_stalled, stalled_synced}
use Rattle.cs_follow.proofs.follow.follow_one.Goals as goal

pub returns-clause-followed : goal.returns-clause-followed
returns-clause-followed g c = λ running es E.
    let old = c.args.book.now in
    let mid = c.follow-outcome.new.book in
    let new = c.finish.new.book in
    followed_synced g.J.Disk.seen g.O.Disk.seen g.J.Disk.crash g.J.Disk.faults g.O.Disk.faults c.args.pace.now.limits (g.K.Link.moment c.args.link.now) (g.K.Link.present c.args.link.now) (g.K.Link.present c.follow-outcome.new.link) c.args.pace.now.turns (g.K.Link.caught_up c.args.link.now) (g.K.Link.caught_up c.follow-outcome.new.link)
    (Rose (g.K.Link.faults c.args.link.now) (g.K.Link.faults c.follow-outcome.new.link)) (g.K.Link.feed c.args.link.now old.board.window.stream) old mid new c.finish.ensures.board c.finish.ensures.journal c.finish.ensures.output_failed c.follow-outcome.ensures.disks_later.1 c.finish.ensures.later es
    c.follow-outcome.result c.finish.result c.finish.ensures.outcome c.follow-outcome.ensures.running c.finish.ensures.entries (c.follow-outcome.ensures.followed es E)

pub returns-clause-no_fault : goal.returns-clause-no_fault
returns-clause-no_fault g c = λ h. c.follow-outcome.ensures.no_fault (link_synced _ _ c.follow-outcome.result c.finish.result c.finish.ensures.outcome h)

pub returns-clause-paused : goal.returns-clause-paused
returns-clause-paused g c = λ running f tells honest is.
    let old = c.args.book.now in
    let mid = c.follow-outcome.new.book in
    let w = old.board.window in
    let now = g.K.Link.present c.follow-outcome.new.link in
    let here = c.settled.ensures.entries running in
    let P = c.follow-outcome.ensures.followed here.0 here.1 in
    let H = c.follow-outcome.ensures.stays_honest w.stream honest in
    let same = same_feed f H.feed (g.K.Link.feed c.args.link.now w.stream) (g.K.Link.feed c.follow-outcome.new.link w.stream) tells (c.follow-outcome.ensures.feed w.stream) H.tells in
    paused_before g.J.Disk.seen g.O.Disk.seen c.args.pace.now.limits (g.K.Link.moment c.args.link.now) (g.K.Link.present c.args.link.now) now c.args.pace.now.turns (g.K.Link.caught_up c.args.link.now) (g.K.Link.caught_up c.follow-outcome.new.link)
    (Rose (g.K.Link.faults c.args.link.now) (g.K.Link.faults c.follow-outcome.new.link)) (DiskRose (g.J.Disk.faults old.journal.disk) (g.J.Disk.faults mid.journal.disk)) (DiskRose (g.O.Disk.faults old.output) (g.O.Disk.faults mid.output)) mid P.next w c.follow-outcome.ensures.window f
    (g.K.Link.feed c.args.link.now w.stream) (g.K.Link.feed c.follow-outcome.new.link w.stream) honest H same c.follow-outcome.result (paused_synced _ _ c.follow-outcome.result c.finish.result c.finish.ensures.outcome is) P.stops

pub returns-clause-pause_means : goal.returns-clause-pause_means
returns-clause-pause_means g c = λ running f es F tells honest E A is.
    let w = c.args.book.now.board.window in
    let since = g.K.Link.moment c.args.link.now in
    let early = returns-clause-paused g c running f tells honest is in
    let paused = paused_synced _ _ c.follow-outcome.result c.finish.result c.finish.ensures.outcome is in
    subst (λ (b : Shown). HasComeTo w.end since c.args.pace.now.turns b.rows) (sym c.finish.ensures.board) (has_come w.end since c.args.pace.now.turns c.follow-outcome.new.book.board.rows (omega (arith, early)) (c.follow-outcome.ensures.gets_on f es F tells honest E A paused))

pub returns-clause-rightly : goal.returns-clause-rightly
returns-clause-rightly g c = λ running f es F tells honest E A.
    let old = c.args.book.now in
    let mid = c.follow-outcome.new.book in
    let w = old.board.window in
    let now = g.K.Link.present c.follow-outcome.new.link in
    let rose = Rose (g.K.Link.faults c.args.link.now) (g.K.Link.faults c.follow-outcome.new.link) in
    let range : IsStamp w.end = subst IsStamp (c.us-end.ensures.value ∙ ap (λ (v : Window). v.end) c.window.ensures ∙ ap (λ (b : Shown). b.window.end) c.board.ensures) c.us-end.ensures.range in
    let P = c.follow-outcome.ensures.followed es E in
    let H = c.follow-outcome.ensures.stays_honest w.stream honest in
    let same = same_feed f H.feed (g.K.Link.feed c.args.link.now w.stream) (g.K.Link.feed c.follow-outcome.new.link w.stream) tells (c.follow-outcome.ensures.feed w.stream) H.tells in
    right_synced _ _ c.follow-outcome.result c.finish.result c.finish.ensures.outcome f w (g.K.Link.moment c.args.link.now) now rose
    (right_of g.J.Disk.seen g.O.Disk.seen c.args.pace.now.limits (g.K.Link.moment c.args.link.now) (g.K.Link.present c.args.link.now) now c.args.pace.now.turns (g.K.Link.caught_up c.args.link.now) (g.K.Link.caught_up c.follow-outcome.new.link)
    rose (DiskRose (g.J.Disk.faults old.journal.disk) (g.J.Disk.faults mid.journal.disk)) (DiskRose (g.O.Disk.faults old.output) (g.O.Disk.faults mid.output)) mid P.next w c.follow-outcome.ensures.window f
    (g.K.Link.feed c.args.link.now w.stream) (g.K.Link.feed c.follow-outcome.new.link w.stream) honest H same F (P.goes.0 f F tells honest A) range c.made_is_faithful.ensures c.always_well_formed.ensures c.boards_stay_consistent.ensures.orphan c.follow-outcome.result P.stops)

pub returns-clause-consistent : goal.returns-clause-consistent
returns-clause-consistent g c = λ running f es F tells honest E A.
    let old = c.args.book.now in
    let new = c.finish.new.book in
    let P = returns-clause-followed g c running es E in
    unless_from c.finish.result (λ X. (P.next, X, P.goes.0 f F tells honest A))
    (stopped_entries g.J.Disk.seen g.O.Disk.seen c.args.pace.now.limits (g.K.Link.moment c.args.link.now) (g.K.Link.present c.args.link.now) (g.K.Link.present c.follow-outcome.new.link) c.args.pace.now.turns (g.K.Link.caught_up c.args.link.now) (g.K.Link.caught_up c.follow-outcome.new.link)
    (Rose (g.K.Link.faults c.args.link.now) (g.K.Link.faults c.follow-outcome.new.link)) (DiskRose (g.J.Disk.faults old.journal.disk) (g.J.Disk.faults new.journal.disk)) (DiskRose (g.O.Disk.faults old.output) (g.O.Disk.faults new.output)) new P.next c.finish.result P.stops)

pub returns-clause-least : goal.returns-clause-least
returns-clause-least g c = λ running f es F tells honest E A earliest is.
    let old = c.args.book.now in
    let new = c.finish.new.book in
    let w = old.board.window in
    let now = g.K.Link.present c.follow-outcome.new.link in
    let range : IsStamp w.end = subst IsStamp (c.us-end.ensures.value ∙ ap (λ (v : Window). v.end) c.window.ensures ∙ ap (λ (b : Shown). b.window.end) c.board.ensures) c.us-end.ensures.range in
    let P = returns-clause-followed g c running es E in
    let H = c.follow-outcome.ensures.stays_honest w.stream honest in
    let same = same_feed f H.feed (g.K.Link.feed c.args.link.now w.stream) (g.K.Link.feed c.follow-outcome.new.link w.stream) tells (c.follow-outcome.ensures.feed w.stream) H.tells in
    let window : new.board.window ≡ w = ap (λ (b : Shown). b.window) c.finish.ensures.board ∙ c.follow-outcome.ensures.window in
    kept_no_longer g.J.Disk.seen g.O.Disk.seen c.args.pace.now.limits (g.K.Link.moment c.args.link.now) (g.K.Link.present c.args.link.now) now c.args.pace.now.turns (g.K.Link.caught_up c.args.link.now) (g.K.Link.caught_up c.follow-outcome.new.link)
    (Rose (g.K.Link.faults c.args.link.now) (g.K.Link.faults c.follow-outcome.new.link)) (DiskRose (g.J.Disk.faults old.journal.disk) (g.J.Disk.faults new.journal.disk)) (DiskRose (g.O.Disk.faults old.output) (g.O.Disk.faults new.output)) new P.next w window f
    (g.K.Link.feed c.args.link.now w.stream) (g.K.Link.feed c.follow-outcome.new.link w.stream) honest H same c.reads_start_at_low.ensures.of c.reads_start_at_low.ensures.due range F (P.goes.0 f F tells honest A) c.finish.result earliest is P.stops

pub returns-clause-complete : goal.returns-clause-complete
returns-clause-complete g c = λ running f es E C.
    let old = c.args.book.now in
    let mid = c.follow-outcome.new.book in
    let new = c.finish.new.book in
    let w = old.board.window in
    let now = g.K.Link.present c.follow-outcome.new.link in
    let P = returns-clause-followed g c running es E in
    let F = C.carries.followed in
    let tells = C.carries.tells in
    let honest = C.carries.honest in
    let A = C.carries.following in
    let K = c.follow-outcome.ensures.carried f es E C.carries in
    let window : new.board.window ≡ w = ap (λ (b : Shown). b.window) c.finish.ensures.board ∙ c.follow-outcome.ensures.window in
    let carrying = unless_from c.finish.result (λ I. carrying_synced g.J.Disk.seen g.O.Disk.seen f w mid new es c.finish.ensures.journal c.finish.ensures.entries I) (unless_synced _ _ c.follow-outcome.result c.finish.result c.finish.ensures.outcome (IsCarrying g.J.Disk.seen g.O.Disk.seen f w mid es) K.0) in
    only_ends g.J.Disk.seen g.O.Disk.seen f w (g.K.Link.moment c.args.link.now) (g.K.Link.feed c.args.link.now w.stream) (g.K.Link.present c.args.link.now) now (g.K.Link.paced c.args.link.now) old.journal.gate old new es C c.reads_start_at_low.ensures.of E refl window
    c.args.pace.now.limits c.args.pace.now.turns (g.K.Link.caught_up c.args.link.now) (g.K.Link.caught_up c.follow-outcome.new.link) (Rose (g.K.Link.faults c.args.link.now) (g.K.Link.faults c.follow-outcome.new.link)) (DiskRose (g.J.Disk.faults old.journal.disk) (g.J.Disk.faults new.journal.disk)) (DiskRose (g.O.Disk.faults old.output) (g.O.Disk.faults new.output)) P.next c.finish.result carrying
    (full_synced _ _ c.follow-outcome.result c.finish.result c.finish.ensures.outcome K.1) P.stops (returns-clause-rightly g c running f es F tells honest E A) (λ earliest is. returns-clause-least g c running f es F tells honest E A earliest is)

pub returns-clause-never_stalled : goal.returns-clause-never_stalled
returns-clause-never_stalled g c = λ running f tells honest token count is.
    let old = c.args.book.now in
    let mid = c.follow-outcome.new.book in
    let w = old.board.window in
    let now = g.K.Link.present c.follow-outcome.new.link in
    let range : IsStamp w.end = subst IsStamp (c.us-end.ensures.value ∙ ap (λ (v : Window). v.end) c.window.ensures ∙ ap (λ (b : Shown). b.window.end) c.board.ensures) c.us-end.ensures.range in
    let here = c.settled.ensures.entries running in
    let P = c.follow-outcome.ensures.followed here.0 here.1 in
    let H = c.follow-outcome.ensures.stays_honest w.stream honest in
    never_stalled g.J.Disk.seen g.O.Disk.seen c.args.pace.now.limits (g.K.Link.moment c.args.link.now) (g.K.Link.present c.args.link.now) now c.args.pace.now.turns (g.K.Link.caught_up c.args.link.now) (g.K.Link.caught_up c.follow-outcome.new.link)
    (Rose (g.K.Link.faults c.args.link.now) (g.K.Link.faults c.follow-outcome.new.link)) (DiskRose (g.J.Disk.faults old.journal.disk) (g.J.Disk.faults mid.journal.disk)) (DiskRose (g.O.Disk.faults old.output) (g.O.Disk.faults mid.output)) mid P.next w c.follow-outcome.ensures.window c.settled.ensures.sound.order range
    (g.K.Link.feed c.args.link.now w.stream) (g.K.Link.feed c.follow-outcome.new.link w.stream) honest H c.made_is_faithful.ensures c.follow-outcome.result token count (stalled_synced _ _ c.follow-outcome.result c.finish.result c.finish.ensures.outcome token count is) P.stops
