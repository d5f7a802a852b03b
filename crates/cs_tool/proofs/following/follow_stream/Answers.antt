use Rattle.std.proofs.Common.{◌≡◌, ◌≢◌, ◌<◌, ℕ, List, Option, Some, None, sym, subst, ap, ◌∙◌}
use Rattle.cs_device.specs.Causes.{Rose as DiskRose}
use Rattle.cs_types.specs.Stamp.{IsStamp}
use Rattle.cs_types.specs.declared.names.Window.{Window}
use Rattle.cs_link.specs.Causes.{Rose}
use Rattle.cs_link.specs.Honest.{IsHonestFor}
use Rattle.cs_schedule.specs.Board.{Shown}
use Rattle.cs_server.specs.State.{LinkState, new_link, present_of}
use Rattle.cs_server.specs.Typed.{feed_told}
use Rattle.cs_follow.specs.declared.outcome.Outcome.{Outcome}
use Rattle.cs_follow.specs.Pauses.{HasComeTo}
use Rattle.cs_follow.specs.Rightly.{StopsRightly}
use Rattle.cs_follow.specs.Turn.{HasFollowed}
use Rattle.cs_tool.specs.Journal.{IsLinkIn}
use Rattle.cs_link.specs.Pace.{IsPacedPresent}
use Rattle.cs_link.specs.declared.feed.Feed.{Feed}
use Rattle.cs_schedule.specs.Follows.{IsFollowed}
use Rattle.cs_follow.specs.Complete.{OnlyEnds}
use Rattle.cs_tool.specs.Complete.{CanGoOn}
use Rattle.cs_tool.proofs.Completing.{can_end, ends_by}
use Rattle.cs_tool.proofs.Followed.{followed, one_feed, said_by, followed_in, rightly_in}
use Rattle.cs_tool.proofs.Stopping.{follow_status, durable_so}
use Rattle.cs_tool.proofs.Wanted.{has_feed}
use Rattle.cs_tool.proofs.following.follow_stream.Goals as goal

pub returns-clause-followed : goal.returns-clause-followed
returns-clause-followed g c = λ es E.
    let db = c.args.state.now in
    let s = c.args.stream.now in
    let old = c.args.book.now in
    let new = c.follow_one-outcome.new.book in
    let w = old.board.window in
    let pace = c.args.going.now.pace in
    let moment = c.args.going.now.moment in
    let first = c.new-link.result in
    let m = c.follow_one-outcome.new.link in
    let o = c.follow_one-outcome.result in
    let rosej = DiskRose (g.J.Disk.faults old.journal.disk) (g.J.Disk.faults new.journal.disk) in
    let roseo = DiskRose (g.O.Disk.faults old.output) (g.O.Disk.faults new.output) in
    let link : first ≡ new_link db moment = c.new-link.ensures.link in
    let F = has_feed db w.stream s c.states_are_kept.ensures c.feeds_are_told_by_name.ensures c.streams_are_sound.ensures c.requires.there in
    let range : IsStamp w.start = subst IsStamp (c.us-start.ensures.value ∙ ap (λ (x : Window). x.start) (c.window.ensures ∙ ap (λ (x : Shown). x.window) c.board.ensures)) c.us-start.ensures.range in
    let follow = followed db w s F range.0 c.requires.created c.settled.ensures.sound.order in
    let only = one_feed db w.stream s F c.feeds_are_told_by_name.ensures c.states_are_kept.ensures in
    let told : feed_told first.database w.stream ≡ Some F.feed = subst (λ (x : LinkState). feed_told x.database w.stream ≡ Some F.feed) (sym link) F.told in
    let was : IsHonestFor w.stream (feed_told first.database w.stream) (Some (present_of first)) = c.new-link.ensures.honest w.stream F.feed told in
    let honest : IsHonestFor w.stream (feed_told db w.stream) (Some None) = subst (λ (x : LinkState). IsHonestFor w.stream (feed_told x.database w.stream) (Some (present_of x))) link was in
    let is : IsLinkIn db moment m = record { over = sym c.follow_one-outcome.ensures.object.0 ∙ ap (λ (x : LinkState). x.database) link; at = sym c.follow_one-outcome.ensures.object.1 ∙ ap (λ (x : LinkState). x.moment) link } in
    let H = subst (λ (x : LinkState). HasFollowed g.J.Disk.seen g.O.Disk.seen g.J.Disk.crash pace.limits x.moment (Some (present_of x)) (Some (present_of m)) pace.turns x.caught_up m.caught_up (Rose 0 0) rosej roseo (feed_told x.database w.stream) old new es o) link (c.follow_one-outcome.ensures.followed c.requires.running es E) in
    let right = rightly_in g.J.Disk.seen g.O.Disk.seen g.J.Disk.crash rosej roseo db pace moment old new es s F follow m o H honest only c.requires.there c.requires.created c.consistent_texts_are_good.ensures.good c.ended_texts_are_complete.ensures is.at c.follow_one-outcome.ensures.window c.settled-2.ensures.ordered
    (λ f F_is F_told F_honest A.
    let T : feed_told first.database w.stream ≡ Some f = subst (λ (x : LinkState). feed_told x.database w.stream ≡ Some f) (sym link) F_told in
    let U : IsHonestFor w.stream (feed_told first.database w.stream) (Some (present_of first)) = subst (λ (x : LinkState). IsHonestFor w.stream (feed_told x.database w.stream) (Some (present_of x))) (sym link) F_honest in (
      subst (λ (x : LinkState). StopsRightly f w x.moment (Some (present_of m)) (Rose 0 0) o) link (c.follow_one-outcome.ensures.rightly c.requires.running f es F_is T U E A),
      λ h. subst (λ (x : LinkState). HasComeTo w.end x.moment pace.turns new.board.rows) link (c.follow_one-outcome.ensures.pause_means c.requires.running f es F_is T U E A h),
    )) in
    let paused : o ≡ Outcome.Paused → moment < w.end = λ h. subst (λ (x : LinkState). x.moment < w.end) link (c.follow_one-outcome.ensures.paused c.requires.running F.feed told was h) in
    let never : (token : Option (List ℕ)) (count : ℕ) → o ≢ Outcome.Stalled token count = c.follow_one-outcome.ensures.never_stalled c.requires.running F.feed told was in
    let S = said_by g.J.Disk.seen g.O.Disk.seen rosej roseo db w pace moment es new H.next m is c.follow_one-outcome.ensures.window o c.status_of.result c.status_of.ensures H.stops (c.follow_one-outcome.ensures.running c.requires.running) paused never right in
    followed_in g.J.Disk.seen g.O.Disk.seen g.J.Disk.crash rosej roseo db pace moment old new es s F follow m o H honest only c.status_of.result S

pub returns-clause-answers : goal.returns-clause-answers
returns-clause-answers g c =
    let db = c.args.state.now in
    let s = c.args.stream.now in
    let old = c.args.book.now in
    let new = c.follow_one-outcome.new.book in
    let w = old.board.window in
    let pace = c.args.going.now.pace in
    let first = c.new-link.result in
    let m = c.follow_one-outcome.new.link in
    let rosej = DiskRose (g.J.Disk.faults old.journal.disk) (g.J.Disk.faults new.journal.disk) in
    let roseo = DiskRose (g.O.Disk.faults old.output) (g.O.Disk.faults new.output) in
    let link : first ≡ new_link db c.args.going.now.moment = c.new-link.ensures.link in
    let F = has_feed db w.stream s c.states_are_kept.ensures c.feeds_are_told_by_name.ensures c.streams_are_sound.ensures c.requires.there in
    let told : feed_told first.database w.stream ≡ Some F.feed = subst (λ (x : LinkState). feed_told x.database w.stream ≡ Some F.feed) (sym link) F.told in
    let was : IsHonestFor w.stream (feed_told first.database w.stream) (Some (present_of first)) = c.new-link.ensures.honest w.stream F.feed told in
    let here = c.settled.ensures.entries c.requires.running in
    let H = c.follow_one-outcome.ensures.followed c.requires.running here.0 here.1 in
    follow_status g.J.Disk.seen g.O.Disk.seen pace.limits first.moment (Some (present_of first)) (Some (present_of m)) pace.turns first.caught_up m.caught_up rosej roseo new H.next c.follow_one-outcome.result c.status_of.result c.status_of.ensures H.stops
    (c.follow_one-outcome.ensures.never_stalled c.requires.running F.feed told was)

pub returns-clause-complete : goal.returns-clause-complete
returns-clause-complete g c = λ es E f is C.
    let db = c.args.state.now in
    let s = c.args.stream.now in
    let old = c.args.book.now in
    let new = c.follow_one-outcome.new.book in
    let w = old.board.window in
    let moment = c.args.going.now.moment in
    let first = c.new-link.result in
    let m = c.follow_one-outcome.new.link in
    let o = c.follow_one-outcome.result in
    let rosej = DiskRose (g.J.Disk.faults old.journal.disk) (g.J.Disk.faults new.journal.disk) in
    let roseo = DiskRose (g.O.Disk.faults old.output) (g.O.Disk.faults new.output) in
    let link : first ≡ new_link db moment = c.new-link.ensures.link in
    let F = has_feed db w.stream s c.states_are_kept.ensures c.feeds_are_told_by_name.ensures c.streams_are_sound.ensures c.requires.there in
    let range : IsStamp w.start = subst IsStamp (c.us-start.ensures.value ∙ ap (λ (x : Window). x.start) (c.window.ensures ∙ ap (λ (x : Shown). x.window) c.board.ensures)) c.us-start.ensures.range in
    let follow = followed db w s F range.0 c.requires.created c.settled.ensures.sound.order in
    let only : F.feed ≡ f = one_feed db w.stream s F c.feeds_are_told_by_name.ensures c.states_are_kept.ensures f is in
    let told : feed_told first.database w.stream ≡ Some F.feed = subst (λ (x : LinkState). feed_told x.database w.stream ≡ Some F.feed) (sym link) F.told in
    let was : IsHonestFor w.stream (feed_told first.database w.stream) (Some (present_of first)) = c.new-link.ensures.honest w.stream F.feed told in
    let at : first.moment ≡ moment = ap (λ (x : LinkState). x.moment) link in
    let at_last : m.moment ≡ moment = sym c.follow_one-outcome.ensures.object.1 ∙ at in
    let can = can_end F.feed old.board moment old.journal.gate es first m follow told was c.new-link.ensures.paced at at_last c.room_is_enough.ensures.enough c.reads_start_at_low.ensures.of E.rows (subst (λ (x : Feed). CanGoOn x w moment old.journal.gate es) (sym only) C) in
    let ends : OnlyEnds (Rose 0 0) rosej roseo o = c.follow_one-outcome.ensures.complete c.requires.running F.feed es E can in
    ends_by rosej roseo o c.status_of.result c.status_of.ensures ends

pub returns-clause-durable : goal.returns-clause-durable
returns-clause-durable g c =
    let old = c.args.book.now.output in
    let new = c.follow_one-outcome.new.book.output in
    durable_so (g.O.Disk.seen old) (g.O.Disk.seen new) (g.O.Disk.crash new) (g.met.O.Disk.silent old new c.follow_one-outcome.ensures.objects.1) c.follow_one-outcome.result c.status_of.result c.status_of.ensures (c.follow_one-outcome.ensures.durable c.requires.running)
