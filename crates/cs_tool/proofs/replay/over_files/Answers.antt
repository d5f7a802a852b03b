use Rattle.std.proofs.Common.{sym, subst}
use Rattle.cs_types.specs.declared.names.Window.{Window}
use Rattle.cs_device.specs.Causes.{Rose}
use Rattle.cs_device.specs.Crash.{CrashesLeave}
use Rattle.cs_book.specs.Entries.{HoldsSuch}
use Rattle.cs_follow.specs.Own.{AreFollowing}
use Rattle.cs_tool.specs.Following.{IsFollowedIn}
use Rattle.cs_tool.specs.Journal.{files, HasReplayed, GoesOnFrom}
use Rattle.cs_tool.proofs.Gone.{replayed}
use Rattle.cs_tool.proofs.Journals.{opened_follow, opening_leaves, following_leaves}
use Rattle.cs_tool.specs.Complete.{GoesOn, OnlyEndsIn, OnlyEndsBy}
use Rattle.cs_tool.proofs.Opening.{begun_by, opened_can, refused_ends, refused_so}
use Rattle.cs_tool.proofs.replay.over_files.Goals as goal

pub returns-in-Err-clause-survives : goal.returns-in-Err-clause-survives
returns-in-Err-clause-survives g c = λ f is L. opening_leaves c.journals_stay_consistent.ensures.first c.payloads_differ.ensures f c.args.window.now (files (g.J.Disk.seen c.args.journal) (g.J.Disk.crash c.args.journal) (g.J.Disk.faults c.args.journal) (g.O.Disk.seen c.args.output) (g.O.Disk.crash c.args.output) (g.O.Disk.faults c.args.output)) L (g.J.Disk.crash c.in-Err.journal) c.in-Err.ensures.any_moment

pub returns-clause-survives : goal.returns-clause-survives
returns-clause-survives g c = λ f is L.
    let mid = c.in-Ok.book in
    let new = c.follow_window-status.new.book in
    let w = c.args.window.now in
    let E = c.in-Ok.ensures.entries in
    let old = files (g.J.Disk.seen c.args.journal) (g.J.Disk.crash c.args.journal) (g.J.Disk.faults c.args.journal) (g.O.Disk.seen c.args.output) (g.O.Disk.crash c.args.output) (g.O.Disk.faults c.args.output) in
    let I = subst (λ (v : Window). IsFollowedIn g.J.Disk.seen g.O.Disk.seen g.J.Disk.crash (Rose (g.J.Disk.faults mid.journal.disk) (g.J.Disk.faults new.journal.disk)) (Rose (g.O.Disk.faults mid.output) (g.O.Disk.faults new.output)) c.args.state.now v c.args.going.now.pace c.args.going.now.moment mid new E.0 c.follow_window-status.result) c.in-Ok.ensures.window (c.follow_window-status.ensures.followed E.0 E.1) in
    let begin = c.journals_stay_consistent.ensures.first in
    let differ = c.payloads_differ.ensures in
    let leaves = following_leaves begin differ f w old L E.0 E.2 (g.met.J.Disk.reads_image c.args.journal) (g.J.Disk.seen mid.journal.disk) (g.J.Disk.crash mid.journal.disk) (g.J.Disk.crash new.journal.disk) c.in-Ok.ensures.still.0 c.in-Ok.ensures.any_moment (I.crashes f is (opened_follow begin differ f w old L.held E.0 E.2)) in
    subst (λ p. CrashesLeave (HoldsSuch (GoesOnFrom f w old.journal_crash)) (g.J.Disk.crash c.args.journal) (g.J.Disk.crash p.0)) (sym c.close-journal.ensures) leaves

pub returns-clause-replayed : goal.returns-clause-replayed
returns-clause-replayed g c =
    let mid = c.in-Ok.book in
    let new = c.follow_window-status.new.book in
    let w = c.args.window.now in
    let E = c.in-Ok.ensures.entries in
    let old = files (g.J.Disk.seen c.args.journal) (g.J.Disk.crash c.args.journal) (g.J.Disk.faults c.args.journal) (g.O.Disk.seen c.args.output) (g.O.Disk.crash c.args.output) (g.O.Disk.faults c.args.output) in
    let I = subst (λ (v : Window). IsFollowedIn g.J.Disk.seen g.O.Disk.seen g.J.Disk.crash (Rose (g.J.Disk.faults mid.journal.disk) (g.J.Disk.faults new.journal.disk)) (Rose (g.O.Disk.faults mid.output) (g.O.Disk.faults new.output)) c.args.state.now v c.args.going.now.pace c.args.going.now.moment mid new E.0 c.follow_window-status.result) c.in-Ok.ensures.window (c.follow_window-status.ensures.followed E.0 E.1) in
    let R = replayed g.J.Disk.seen g.J.Disk.crash g.J.Disk.faults g.O.Disk.seen g.O.Disk.crash g.O.Disk.faults c.journals_stay_consistent.ensures.first c.payloads_differ.ensures c.args.state.now w c.args.going.now.pace c.args.going.now.moment old mid new E.0 E.2 (begun_by old.journal old.output c.in-Ok.ensures.not_begun) c.in-Ok.ensures.still c.in-Ok.ensures.later c.in-Ok.ensures.window c.follow_window-status.ensures.window c.settled-2.ensures.journal c.follow_window-status.result c.follow_window-status.ensures.answers I c.follow_window-status.ensures.still c.follow_window-status.ensures.durable in
    subst (λ p. HasReplayed c.args.state.now w c.args.going.now.pace c.args.going.now.moment old (files (g.J.Disk.seen p.0) (g.J.Disk.crash p.0) (g.J.Disk.faults p.0) (g.O.Disk.seen p.1) (g.O.Disk.crash p.1) (g.O.Disk.faults p.1)) c.follow_window-status.result) (sym c.close-journal.ensures) R

pub returns-in-Err-clause-replayed : goal.returns-in-Err-clause-replayed
returns-in-Err-clause-replayed g c =
    let old = files (g.J.Disk.seen c.args.journal) (g.J.Disk.crash c.args.journal) (g.J.Disk.faults c.args.journal) (g.O.Disk.seen c.args.output) (g.O.Disk.crash c.args.output) (g.O.Disk.faults c.args.output) in
    let new = files (g.J.Disk.seen c.in-Err.journal) (g.J.Disk.crash c.in-Err.journal) (g.J.Disk.faults c.in-Err.journal) (g.O.Disk.seen c.in-Err.output) (g.O.Disk.crash c.in-Err.output) (g.O.Disk.faults c.in-Err.output) in
    refused_so c.payloads_differ.ensures c.args.state.now c.args.window.now c.args.going.now.pace c.args.going.now.moment old new c.in-Err.fault c.not_opened.result c.not_opened.ensures c.in-Err.ensures.refused c.in-Err.ensures.stays c.in-Err.ensures.output_untouched c.in-Err.ensures.untouched

pub returns-in-Err-clause-complete : goal.returns-in-Err-clause-complete
returns-in-Err-clause-complete g c = λ f is C. refused_ends c.journals_stay_consistent.ensures.first c.payloads_differ.ensures f c.args.window.now c.args.going.now.moment _ C _ _ _ _ c.not_opened.ensures c.in-Err.ensures.refused

pub returns-clause-complete : goal.returns-clause-complete
returns-clause-complete g c = λ f is C.
    let mid = c.in-Ok.book in
    let new = c.follow_window-status.new.book in
    let w = c.args.window.now in
    let db = c.args.state.now in
    let moment = c.args.going.now.moment in
    let status = c.follow_window-status.result in
    let E = c.in-Ok.ensures.entries in
    let old = files (g.J.Disk.seen c.args.journal) (g.J.Disk.crash c.args.journal) (g.J.Disk.faults c.args.journal) (g.O.Disk.seen c.args.output) (g.O.Disk.crash c.args.output) (g.O.Disk.faults c.args.output) in
    let goes = subst (λ (v : Window). GoesOn (Rose (g.J.Disk.faults mid.journal.disk) (g.J.Disk.faults new.journal.disk)) (Rose (g.O.Disk.faults mid.output) (g.O.Disk.faults new.output)) db v moment mid.journal.gate E.0 status) c.in-Ok.ensures.window (c.follow_window-status.ensures.complete E.0 E.1) in
    let can = opened_can c.journals_stay_consistent.ensures.first c.payloads_differ.ensures f w moment old C E.0 (g.J.Disk.seen mid.journal.disk) mid.journal.gate E.1.rows.begun E.2 c.in-Ok.ensures.still.0 E.1.held (c.settled.ensures.journal c.in-Ok.ensures.running.journal).rest in
    let ends : OnlyEndsBy (Rose (g.J.Disk.faults mid.journal.disk) (g.J.Disk.faults new.journal.disk)) (Rose (g.O.Disk.faults mid.output) (g.O.Disk.faults new.output)) status = goes f is can in
    let from : OnlyEndsBy (Rose (g.J.Disk.faults c.args.journal) (g.J.Disk.faults new.journal.disk)) (Rose (g.O.Disk.faults c.args.output) (g.O.Disk.faults new.output)) status =
    subst (λ n. OnlyEndsBy (Rose (g.J.Disk.faults c.args.journal) (g.J.Disk.faults new.journal.disk)) (Rose n (g.O.Disk.faults new.output)) status) c.in-Ok.ensures.later.1 (subst (λ n. OnlyEndsBy (Rose n (g.J.Disk.faults new.journal.disk)) (Rose (g.O.Disk.faults mid.output) (g.O.Disk.faults new.output)) status) c.in-Ok.ensures.later.0 ends) in
    subst (λ p. OnlyEndsIn old (files (g.J.Disk.seen p.0) (g.J.Disk.crash p.0) (g.J.Disk.faults p.0) (g.O.Disk.seen p.1) (g.O.Disk.crash p.1) (g.O.Disk.faults p.1)) status) (sym c.close-journal.ensures) from
