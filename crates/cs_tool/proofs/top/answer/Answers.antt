use Rattle.std.proofs.Common.{map, string_bytes, refl, subst, ◌≡◌}
use Rattle.cs_tool.specs.Answers.{IsPastScript}
use Rattle.cs_tool.specs.Complete.{CompletesRun}
use Rattle.cs_tool.specs.Journal.{Files, files}
use Rattle.cs_tool.specs.Run.{Replays, HasEnded, HasPassed, HasRefused, HasBadScript, IsAnswerOf, HasGoodScript, IsOfReplay}
use Rattle.cs_tool.specs.Said.{status_said}
use Rattle.cs_tool.specs.declared.status.Status.TheVariants as status
use Rattle.cs_tool.proofs.Options.{replay_order, replay_turns, replay_records, replay_name}
use Rattle.cs_tool.proofs.Replaying.{of_replay_past, check_is_other, show_is_other, on_replay, replay_next, replay_survives, replay_completes}
use Rattle.cs_tool.proofs.Shown.{on_command, shown_ended, shown_passed, shown_refused, shown_bad, shown_answers, shown_next}
use Rattle.cs_tool.proofs.top.answer.Goals as goal

pub going-requires-clause-turns : goal.going-requires-clause-turns
going-requires-clause-turns g c = replay_turns (map string_bytes c.args.words.now) c.in-Ok.command c.in-Ok.ensures.read c.in-Replay.is c.options_are_in_range.ensures

pub going-requires-clause-records : goal.going-requires-clause-records
going-requires-clause-records g c = replay_records (map string_bytes c.args.words.now) c.in-Ok.command c.in-Ok.ensures.read c.in-Replay.is c.options_are_in_range.ensures

pub replay-requires-clause-order : goal.replay-requires-clause-order
replay-requires-clause-order g c = replay_order (map string_bytes c.args.words.now) c.in-Ok.command c.in-Ok.ensures.read c.in-Replay.is

pub replay-requires-clause-stream : goal.replay-requires-clause-stream
replay-requires-clause-stream g c = replay_name (map string_bytes c.args.words.now) c.in-Ok.command c.in-Ok.ensures.read c.in-Replay.is

pub returns-in-Replay-clause-ended : goal.returns-in-Replay-clause-ended
returns-in-Replay-clause-ended g c =
    let words = map string_bytes c.args.words.now in
    let left = g.S.Source.left c.args.script.now in
    let old : Files = files (g.J.Disk.seen c.args.journal.now) (g.J.Disk.crash c.args.journal.now) (g.J.Disk.faults c.args.journal.now) (g.O.Disk.seen c.args.output.now) (g.O.Disk.crash c.args.output.now) (g.O.Disk.faults c.args.output.now) in
    let new : Files = files (g.J.Disk.seen c.replay.new.journal) (g.J.Disk.crash c.replay.new.journal) (g.J.Disk.faults c.replay.new.journal) (g.O.Disk.seen c.replay.new.output) (g.O.Disk.crash c.replay.new.output) (g.O.Disk.faults c.replay.new.output) in
    λ e. on_replay words c.in-Ok.command left old new c.in-Ok.ensures.read c.in-Replay.is c.going.result.pace c.going.result.moment c.going.ensures.pace c.going.ensures.moment c.replay.result c.replay.ensures.replayed (HasEnded left old new) status.Ended e tt (λ h. h)

pub returns-in-Replay-clause-retention_passed : goal.returns-in-Replay-clause-retention_passed
returns-in-Replay-clause-retention_passed g c =
    let words = map string_bytes c.args.words.now in
    let left = g.S.Source.left c.args.script.now in
    let old : Files = files (g.J.Disk.seen c.args.journal.now) (g.J.Disk.crash c.args.journal.now) (g.J.Disk.faults c.args.journal.now) (g.O.Disk.seen c.args.output.now) (g.O.Disk.crash c.args.output.now) (g.O.Disk.faults c.args.output.now) in
    let new : Files = files (g.J.Disk.seen c.replay.new.journal) (g.J.Disk.crash c.replay.new.journal) (g.J.Disk.faults c.replay.new.journal) (g.O.Disk.seen c.replay.new.output) (g.O.Disk.crash c.replay.new.output) (g.O.Disk.faults c.replay.new.output) in
    λ earliest e. on_replay words c.in-Ok.command left old new c.in-Ok.ensures.read c.in-Replay.is c.going.result.pace c.going.result.moment c.going.ensures.pace c.going.ensures.moment c.replay.result c.replay.ensures.replayed (HasPassed earliest left old new) (status.RetentionPassed earliest) e tt (λ h. h)

pub returns-in-Replay-clause-refused : goal.returns-in-Replay-clause-refused
returns-in-Replay-clause-refused g c =
    let words = map string_bytes c.args.words.now in
    let left = g.S.Source.left c.args.script.now in
    let old : Files = files (g.J.Disk.seen c.args.journal.now) (g.J.Disk.crash c.args.journal.now) (g.J.Disk.faults c.args.journal.now) (g.O.Disk.seen c.args.output.now) (g.O.Disk.crash c.args.output.now) (g.O.Disk.faults c.args.output.now) in
    let new : Files = files (g.J.Disk.seen c.replay.new.journal) (g.J.Disk.crash c.replay.new.journal) (g.J.Disk.faults c.replay.new.journal) (g.O.Disk.seen c.replay.new.output) (g.O.Disk.crash c.replay.new.output) (g.O.Disk.faults c.replay.new.output) in
    λ refusal e. on_replay words c.in-Ok.command left old new c.in-Ok.ensures.read c.in-Replay.is c.going.result.pace c.going.result.moment c.going.ensures.pace c.going.ensures.moment c.replay.result c.replay.ensures.replayed (HasRefused refusal left old new) (status.Refused refusal) e tt (λ h. h)

pub returns-in-Replay-clause-replayed : goal.returns-in-Replay-clause-replayed
returns-in-Replay-clause-replayed g c =
    let words = map string_bytes c.args.words.now in
    let left = g.S.Source.left c.args.script.now in
    let old : Files = files (g.J.Disk.seen c.args.journal.now) (g.J.Disk.crash c.args.journal.now) (g.J.Disk.faults c.args.journal.now) (g.O.Disk.seen c.args.output.now) (g.O.Disk.crash c.args.output.now) (g.O.Disk.faults c.args.output.now) in
    let new : Files = files (g.J.Disk.seen c.replay.new.journal) (g.J.Disk.crash c.replay.new.journal) (g.J.Disk.faults c.replay.new.journal) (g.O.Disk.seen c.replay.new.output) (g.O.Disk.crash c.replay.new.output) (g.O.Disk.faults c.replay.new.output) in
    λ of. on_replay words c.in-Ok.command left old new c.in-Ok.ensures.read c.in-Replay.is c.going.result.pace c.going.result.moment c.going.ensures.pace c.going.ensures.moment c.replay.result c.replay.ensures.replayed (Replays left old new c.replay.result) c.replay.result refl (of_replay_past c.replay.result of) (λ h. h)

pub returns-in-Replay-clause-survives : goal.returns-in-Replay-clause-survives
returns-in-Replay-clause-survives g c =
    let words = map string_bytes c.args.words.now in
    let left = g.S.Source.left c.args.script.now in
    let old : Files = files (g.J.Disk.seen c.args.journal.now) (g.J.Disk.crash c.args.journal.now) (g.J.Disk.faults c.args.journal.now) (g.O.Disk.seen c.args.output.now) (g.O.Disk.crash c.args.output.now) (g.O.Disk.faults c.args.output.now) in
    let new : Files = files (g.J.Disk.seen c.replay.new.journal) (g.J.Disk.crash c.replay.new.journal) (g.J.Disk.faults c.replay.new.journal) (g.O.Disk.seen c.replay.new.output) (g.O.Disk.crash c.replay.new.output) (g.O.Disk.faults c.replay.new.output) in
    replay_survives words c.in-Ok.command left old new c.in-Ok.ensures.read c.in-Replay.is c.going.result.pace c.going.result.moment c.going.ensures.pace c.going.ensures.moment c.replay.result (c.replay.new.journal ≡ c.args.journal.now) c.replay.ensures.survives

pub returns-in-Replay-clause-script_next : goal.returns-in-Replay-clause-script_next
returns-in-Replay-clause-script_next g c =
    let words = map string_bytes c.args.words.now in
    let left = g.S.Source.left c.args.script.now in
    let old : Files = files (g.J.Disk.seen c.args.journal.now) (g.J.Disk.crash c.args.journal.now) (g.J.Disk.faults c.args.journal.now) (g.O.Disk.seen c.args.output.now) (g.O.Disk.crash c.args.output.now) (g.O.Disk.faults c.args.output.now) in
    let new : Files = files (g.J.Disk.seen c.replay.new.journal) (g.J.Disk.crash c.replay.new.journal) (g.J.Disk.faults c.replay.new.journal) (g.O.Disk.seen c.replay.new.output) (g.O.Disk.crash c.replay.new.output) (g.O.Disk.faults c.replay.new.output) in
    λ past. on_command words c.in-Ok.command _ (HasGoodScript left) c.in-Ok.ensures.read c.in-Replay.is (replay_next words c.in-Ok.command left old new c.in-Ok.ensures.read c.in-Replay.is c.going.result.pace c.going.result.moment c.going.ensures.pace c.going.ensures.moment c.replay.result c.replay.ensures.replayed past)

pub returns-in-Check-clause-refused : goal.returns-in-Check-clause-refused
returns-in-Check-clause-refused g c =
    let words = map string_bytes c.args.words.now in
    let left = g.S.Source.left c.args.script.now in
    let old : Files = files (g.J.Disk.seen c.args.journal.now) (g.J.Disk.crash c.args.journal.now) (g.J.Disk.faults c.args.journal.now) (g.O.Disk.seen c.args.output.now) (g.O.Disk.crash c.args.output.now) (g.O.Disk.faults c.args.output.now) in
    let new : Files = files (g.J.Disk.seen c.args.journal.now) (g.J.Disk.crash c.args.journal.now) (g.J.Disk.faults c.args.journal.now) (g.O.Disk.seen c.check.new.output) (g.O.Disk.crash c.check.new.output) (g.O.Disk.faults c.check.new.output) in
    λ refusal e. on_command words c.in-Ok.command _ (HasRefused refusal left old new) c.in-Ok.ensures.read c.in-Check.is (c.check.ensures.refused refusal e)

pub returns-in-Check-clause-replayed : goal.returns-in-Check-clause-replayed
returns-in-Check-clause-replayed g c = λ of. absurd (check_is_other c.check.result c.check.ensures.answers of)

pub returns-in-Show-clause-ended : goal.returns-in-Show-clause-ended
returns-in-Show-clause-ended g c =
    let words = map string_bytes c.args.words.now in
    let left = g.S.Source.left c.args.script.now in
    let old : Files = files (g.J.Disk.seen c.args.journal.now) (g.J.Disk.crash c.args.journal.now) (g.J.Disk.faults c.args.journal.now) (g.O.Disk.seen c.args.output.now) (g.O.Disk.crash c.args.output.now) (g.O.Disk.faults c.args.output.now) in
    λ e. on_command words c.in-Ok.command _ (HasEnded left old old) c.in-Ok.ensures.read c.in-Show.is (shown_ended (g.S.Source.left c.args.script.now) (g.S.Source.faults c.args.script.now) (g.S.Source.faults c.show.new.script) c.in-Show.query c.in-Show.moment c.show.result c.show.ensures.said e)

pub returns-in-Show-clause-retention_passed : goal.returns-in-Show-clause-retention_passed
returns-in-Show-clause-retention_passed g c =
    let words = map string_bytes c.args.words.now in
    let left = g.S.Source.left c.args.script.now in
    let old : Files = files (g.J.Disk.seen c.args.journal.now) (g.J.Disk.crash c.args.journal.now) (g.J.Disk.faults c.args.journal.now) (g.O.Disk.seen c.args.output.now) (g.O.Disk.crash c.args.output.now) (g.O.Disk.faults c.args.output.now) in
    λ earliest e. on_command words c.in-Ok.command _ (HasPassed earliest left old old) c.in-Ok.ensures.read c.in-Show.is (shown_passed (g.S.Source.left c.args.script.now) (g.S.Source.faults c.args.script.now) (g.S.Source.faults c.show.new.script) c.in-Show.query c.in-Show.moment c.show.result earliest c.show.ensures.said e)

pub returns-in-Show-clause-refused : goal.returns-in-Show-clause-refused
returns-in-Show-clause-refused g c =
    let words = map string_bytes c.args.words.now in
    let left = g.S.Source.left c.args.script.now in
    let old : Files = files (g.J.Disk.seen c.args.journal.now) (g.J.Disk.crash c.args.journal.now) (g.J.Disk.faults c.args.journal.now) (g.O.Disk.seen c.args.output.now) (g.O.Disk.crash c.args.output.now) (g.O.Disk.faults c.args.output.now) in
    λ refusal e. on_command words c.in-Ok.command _ (HasRefused refusal left old old) c.in-Ok.ensures.read c.in-Show.is (shown_refused (g.S.Source.left c.args.script.now) (g.S.Source.faults c.args.script.now) (g.S.Source.faults c.show.new.script) c.in-Show.query c.in-Show.moment c.show.result refusal c.show.ensures.said e)

pub returns-in-Show-clause-replayed : goal.returns-in-Show-clause-replayed
returns-in-Show-clause-replayed g c =
    let words = map string_bytes c.args.words.now in
    let left = g.S.Source.left c.args.script.now in
    let old : Files = files (g.J.Disk.seen c.args.journal.now) (g.J.Disk.crash c.args.journal.now) (g.J.Disk.faults c.args.journal.now) (g.O.Disk.seen c.args.output.now) (g.O.Disk.crash c.args.output.now) (g.O.Disk.faults c.args.output.now) in
    λ of. absurd (show_is_other (status_said c.show.result) (shown_answers (g.S.Source.left c.args.script.now) (g.S.Source.faults c.args.script.now) (g.S.Source.faults c.show.new.script) c.in-Show.query c.in-Show.moment c.show.result c.show.ensures.said) of)

pub returns-in-Show-clause-bad_script : goal.returns-in-Show-clause-bad_script
returns-in-Show-clause-bad_script g c =
    let words = map string_bytes c.args.words.now in
    let left = g.S.Source.left c.args.script.now in
    let old : Files = files (g.J.Disk.seen c.args.journal.now) (g.J.Disk.crash c.args.journal.now) (g.J.Disk.faults c.args.journal.now) (g.O.Disk.seen c.args.output.now) (g.O.Disk.crash c.args.output.now) (g.O.Disk.faults c.args.output.now) in
    λ line cause e. on_command words c.in-Ok.command _ (HasBadScript line cause left) c.in-Ok.ensures.read c.in-Show.is (shown_bad (g.S.Source.left c.args.script.now) (g.S.Source.faults c.args.script.now) (g.S.Source.faults c.show.new.script) c.in-Show.query c.in-Show.moment c.show.result line cause c.show.ensures.said e)

pub returns-in-Show-clause-answers : goal.returns-in-Show-clause-answers
returns-in-Show-clause-answers g c =
    let words = map string_bytes c.args.words.now in
    let left = g.S.Source.left c.args.script.now in
    let old : Files = files (g.J.Disk.seen c.args.journal.now) (g.J.Disk.crash c.args.journal.now) (g.J.Disk.faults c.args.journal.now) (g.O.Disk.seen c.args.output.now) (g.O.Disk.crash c.args.output.now) (g.O.Disk.faults c.args.output.now) in
    λ past. on_command words c.in-Ok.command _ (IsAnswerOf (status_said c.show.result)) c.in-Ok.ensures.read c.in-Show.is (shown_answers (g.S.Source.left c.args.script.now) (g.S.Source.faults c.args.script.now) (g.S.Source.faults c.show.new.script) c.in-Show.query c.in-Show.moment c.show.result c.show.ensures.said)

pub returns-in-Show-clause-script_next : goal.returns-in-Show-clause-script_next
returns-in-Show-clause-script_next g c =
    let words = map string_bytes c.args.words.now in
    let left = g.S.Source.left c.args.script.now in
    let old : Files = files (g.J.Disk.seen c.args.journal.now) (g.J.Disk.crash c.args.journal.now) (g.J.Disk.faults c.args.journal.now) (g.O.Disk.seen c.args.output.now) (g.O.Disk.crash c.args.output.now) (g.O.Disk.faults c.args.output.now) in
    λ past. on_command words c.in-Ok.command _ (HasGoodScript left) c.in-Ok.ensures.read c.in-Show.is (shown_next (g.S.Source.left c.args.script.now) (g.S.Source.faults c.args.script.now) (g.S.Source.faults c.show.new.script) c.in-Show.query c.in-Show.moment c.show.result c.show.ensures.said past)

pub returns-in-Replay-clause-complete : goal.returns-in-Replay-clause-complete
returns-in-Replay-clause-complete g c =
    let words = map string_bytes c.args.words.now in
    let left = g.S.Source.left c.args.script.now in
    let old : Files = files (g.J.Disk.seen c.args.journal.now) (g.J.Disk.crash c.args.journal.now) (g.J.Disk.faults c.args.journal.now) (g.O.Disk.seen c.args.output.now) (g.O.Disk.crash c.args.output.now) (g.O.Disk.faults c.args.output.now) in
    let new : Files = files (g.J.Disk.seen c.replay.new.journal) (g.J.Disk.crash c.replay.new.journal) (g.J.Disk.faults c.replay.new.journal) (g.O.Disk.seen c.replay.new.output) (g.O.Disk.crash c.replay.new.output) (g.O.Disk.faults c.replay.new.output) in
    λ past. replay_completes words c.in-Ok.command left old new c.in-Ok.ensures.read c.in-Replay.is c.going.result.pace c.going.result.moment c.going.ensures.pace c.going.ensures.moment c.replay.result c.replay.ensures.complete past

pub returns-in-Check-clause-complete : goal.returns-in-Check-clause-complete
returns-in-Check-clause-complete g c =
    let words = map string_bytes c.args.words.now in
    let left = g.S.Source.left c.args.script.now in
    let old : Files = files (g.J.Disk.seen c.args.journal.now) (g.J.Disk.crash c.args.journal.now) (g.J.Disk.faults c.args.journal.now) (g.O.Disk.seen c.args.output.now) (g.O.Disk.crash c.args.output.now) (g.O.Disk.faults c.args.output.now) in
    let new : Files = files (g.J.Disk.seen c.args.journal.now) (g.J.Disk.crash c.args.journal.now) (g.J.Disk.faults c.args.journal.now) (g.O.Disk.seen c.check.new.output) (g.O.Disk.crash c.check.new.output) (g.O.Disk.faults c.check.new.output) in
    λ past. on_command words c.in-Ok.command _ (CompletesRun left old new c.check.result) c.in-Ok.ensures.read c.in-Check.is tt

pub returns-in-Show-clause-complete : goal.returns-in-Show-clause-complete
returns-in-Show-clause-complete g c =
    let words = map string_bytes c.args.words.now in
    let left = g.S.Source.left c.args.script.now in
    let old : Files = files (g.J.Disk.seen c.args.journal.now) (g.J.Disk.crash c.args.journal.now) (g.J.Disk.faults c.args.journal.now) (g.O.Disk.seen c.args.output.now) (g.O.Disk.crash c.args.output.now) (g.O.Disk.faults c.args.output.now) in
    λ past. on_command words c.in-Ok.command _ (CompletesRun left old old (status_said c.show.result)) c.in-Ok.ensures.read c.in-Show.is tt
