use Rattle.std.proofs.Common.{◌≡◌, ℕ, List, Option, Some, sym, ap, subst, ◌∙◌}
use Rattle.cs_device.specs.Causes.{Rose}
use Rattle.cs_device.specs.Memory.{DiskState, seen_of}
use Rattle.cs_types.specs.declared.names.Window.{Window}
use Rattle.cs_follow.specs.declared.outcome.Pace.{Pace}
use Rattle.cs_text.specs.Output.{output_of}
use Rattle.cs_tool.specs.Following.{IsStoppedIn, StopsBy}
use Rattle.cs_tool.specs.declared.status.Status.{Status}
use Rattle.cs_tool.specs.declared.status.Status.TheVariants.{Ended}
use Rattle.cs_tool.proofs.Generating.{left_at_end, not_at_end}
use Rattle.cs_tool.proofs.generated.followed.Goals as goal

abbrev seen : DiskState → Option (List ℕ)
seen d = Some (seen_of d)

abbrev paced : ℕ → Pace
paced order = record { order = order; turns = 1; limits = record { records = 1024; bytes = 1048576 } }

pub returns-in-Ended-clause-ended : goal.returns-in-Ended-clause-ended
returns-in-Ended-clause-ended c =
    let db = c.args.state.now in
    let w = c.args.window.now in
    let old = c.in_ok-book.book in
    let new = c.follow_window-status.new.book in
    let E = c.in_ok-book.ensures.entries in
    let pace = paced c.args.order in
    let rosej = Rose old.journal.disk.calls.faults new.journal.disk.calls.faults in
    let roseo = Rose old.output.calls.faults new.output.calls.faults in
    let I = c.follow_window-status.ensures.followed E.0 E.1 in
    let S = subst (λ (v : Window). StopsBy seen seen rosej roseo db v pace w.end E.0 new I.next c.follow_window-status.result) c.in_ok-book.ensures.window I.stops in
    let T : IsStoppedIn seen seen db w pace w.end E.0 new I.next Ended = subst (λ (x : Status). StopsBy seen seen rosej roseo db w pace w.end E.0 new I.next x) c.in-Ended.is S in
    let closed : seen_of c.close-journal.result.1 ≡ seen_of new.output = ap (λ (p : DiskState × DiskState). seen_of p.1) c.close-journal.ensures in
    let told : seen_of new.output ≡ output_of w I.next = subst (λ (v : Window). seen_of new.output ≡ output_of v I.next) (c.follow_window-status.ensures.window ∙ c.in_ok-book.ensures.window) T.entries.told in
    left_at_end db w c.args.stream.now c.states_are_kept.ensures c.feeds_are_told_by_name.ensures c.streams_are_sound.ensures c.requires.there c.requires.created seen seen rosej roseo pace E.0 new I.next E.2 _ (closed ∙ told) T

pub returns : goal.returns
returns c =
    let db = c.args.state.now in
    let w = c.args.window.now in
    let old = c.in_ok-book.book in
    let new = c.follow_window-status.new.book in
    let E = c.in_ok-book.ensures.entries in
    let pace = paced c.args.order in
    let rosej = Rose old.journal.disk.calls.faults new.journal.disk.calls.faults in
    let roseo = Rose old.output.calls.faults new.output.calls.faults in
    let I = c.follow_window-status.ensures.followed E.0 E.1 in
    let S = subst (λ (v : Window). StopsBy seen seen rosej roseo db v pace w.end E.0 new I.next c.follow_window-status.result) c.in_ok-book.ensures.window I.stops in
    record {
      ended = tt;
      refused = not_at_end db w c.args.stream.now c.states_are_kept.ensures c.feeds_are_told_by_name.ensures c.streams_are_sound.ensures c.requires.there c.requires.created seen seen rosej roseo pace E.0 new I.next E.2 c.follow_window-status.result c.follow_window-status.ensures.answers S c.in_default.not-Ended c.in_default.not-JournalFault c.in_default.not-OutputFault c.in_default.not-Full;
    }
