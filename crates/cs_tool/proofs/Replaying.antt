-- What an answer of a replay says of its command, and which answers no other command has.
use Rattle.std.proofs.Common.{◌≡◌, ◌⊎◌, inl, inr, ⊎_elim, ℕ, List, Option, sym, subst}
use Rattle.cs_follow.specs.declared.outcome.Pace.{Pace}
use Rattle.cs_words.specs.Words.{IsCommand}
use Rattle.cs_words.specs.declared.command.Command.{Command}
use Rattle.cs_words.specs.declared.command.Command.TheVariants.{Replay}
use Rattle.cs_words.specs.declared.command.ReplayOptions.{ReplayOptions}
use Rattle.cs_tool.specs.Answers.{IsPastScript, IsCheckStatus, IsShowStatus}
use Rattle.cs_tool.specs.Complete.{Completes, CompletesRun}
use Rattle.cs_tool.specs.Database.{OnScript}
use Rattle.cs_tool.specs.Journal.{Files, HasReplayed, Survives}
use Rattle.cs_tool.specs.Run.{OnCommand, Replays, SurvivesRun, IsOfReplay, pace_of, window_of}
use Rattle.cs_tool.specs.declared.status.Status.{Status}
use Rattle.cs_tool.specs.declared.status.Status.TheVariants.{Ended, Paused, Verdict, RetentionPassed, Refused, LinkFault, Breach, Stalled, JournalFault, OutputFault, SourceFault, ConsoleFault, BadWords, BadScript, OtherJournal, BadJournal, Full, OutputNotEmpty, BadOutput, Memory}
use Rattle.cs_tool.proofs.Shown.{on_command, map_script}

-- an answer that replay alone has comes behind the script
pub of_replay_past : (status : Status) → IsOfReplay status → IsPastScript status
of_replay_past Ended is = absurd is
of_replay_past Paused is = tt
of_replay_past (Verdict v) is = absurd is
of_replay_past (RetentionPassed earliest) is = absurd is
of_replay_past (Refused refusal) is = absurd is
of_replay_past LinkFault is = absurd is
of_replay_past (Breach breach) is = tt
of_replay_past (Stalled token count) is = absurd is
of_replay_past JournalFault is = tt
of_replay_past OutputFault is = absurd is
of_replay_past SourceFault is = absurd is
of_replay_past ConsoleFault is = absurd is
of_replay_past (BadWords place) is = absurd is
of_replay_past (BadScript line cause) is = absurd is
of_replay_past (OtherJournal other) is = tt
of_replay_past (BadJournal gate) is = tt
of_replay_past (Full length) is = tt
of_replay_past (OutputNotEmpty count) is = tt
of_replay_past (BadOutput line) is = absurd is
of_replay_past Memory is = absurd is

-- no other command has it
pub check_is_other : (status : Status) → IsCheckStatus status → IsOfReplay status → ⊥
check_is_other Ended is of = of
check_is_other Paused is of = absurd is
check_is_other (Verdict v) is of = of
check_is_other (RetentionPassed earliest) is of = of
check_is_other (Refused refusal) is of = of
check_is_other LinkFault is of = of
check_is_other (Breach breach) is of = absurd is
check_is_other (Stalled token count) is of = absurd is
check_is_other JournalFault is of = absurd is
check_is_other OutputFault is of = of
check_is_other SourceFault is of = of
check_is_other ConsoleFault is of = of
check_is_other (BadWords place) is of = of
check_is_other (BadScript line cause) is of = of
check_is_other (OtherJournal other) is of = absurd is
check_is_other (BadJournal gate) is of = absurd is
check_is_other (Full length) is of = absurd is
check_is_other (OutputNotEmpty count) is of = absurd is
check_is_other (BadOutput line) is of = of
check_is_other Memory is of = of

pub show_is_other : (status : Status) → IsShowStatus status → IsOfReplay status → ⊥
show_is_other Ended is of = of
show_is_other Paused is of = absurd is
show_is_other (Verdict v) is of = of
show_is_other (RetentionPassed earliest) is of = of
show_is_other (Refused refusal) is of = of
show_is_other LinkFault is of = of
show_is_other (Breach breach) is of = absurd is
show_is_other (Stalled token count) is of = absurd is
show_is_other JournalFault is of = absurd is
show_is_other OutputFault is of = of
show_is_other SourceFault is of = of
show_is_other ConsoleFault is of = of
show_is_other (BadWords place) is of = of
show_is_other (BadScript line cause) is of = of
show_is_other (OtherJournal other) is of = absurd is
show_is_other (BadJournal gate) is of = absurd is
show_is_other (Full length) is of = absurd is
show_is_other (OutputNotEmpty count) is of = absurd is
show_is_other (BadOutput line) is of = of
show_is_other Memory is of = of

-- ---- of replay

module _ (words : List (List ℕ)) (command : Command) (source : Option (List ℕ)) (old new : Files) {script journal output stream : List ℕ} {start end : ℕ} {options : ReplayOptions} (is : IsCommand words command) (same : command ≡ Replay script journal output stream start end options) (pace : Pace) (moment : ℕ) (pace_is : pace ≡ pace_of options) (moment_is : moment ≡ options.moment) (status : Status) where
  abbrev Now : Command
  Now = Replay script journal output stream start end options

  abbrev HasSaid : Pace → ℕ → Status → Type 0
  HasSaid p m s = OnScript source (λ db. HasReplayed db (window_of stream start end) p m old new s)

  module _ (replayed : IsPastScript status → HasSaid pace moment status) where
    pub replays : (other : Status) → status ≡ other → IsPastScript other → Replays source old new other Now
    replays other e past = subst (λ s. HasSaid (pace_of options) options.moment s) e (subst (λ m. HasSaid (pace_of options) m status) moment_is (subst (λ p. HasSaid p moment status) pace_is (replayed (subst IsPastScript (sym e) past))))

    -- what it says by its command
    pub on_replay : (P : Command → Type 0) (other : Status) → status ≡ other → IsPastScript other → (Replays source old new other Now → P Now) → OnCommand words P
    on_replay P other e past f = on_command words command Now P is same (f (replays other e past))

    pub replay_next : IsPastScript status → OnScript source (λ db. Unit {0})
    replay_next past = map_script source _ (λ db. Unit {0}) (λ db h. tt) (replayed past)

  pub replay_survives : (A : Type 0) → A ⊎ OnScript source (λ db. Survives db (window_of stream start end) old new) → A ⊎ OnCommand words (SurvivesRun source old new)
  replay_survives A = ⊎_elim (λ a. inl a) (λ h. inr (on_command words command Now (SurvivesRun source old new) is same h))

  -- and that it comes to its end
  pub replay_completes : (IsPastScript status → OnScript source (λ db. Completes db (window_of stream start end) moment old new status)) → IsPastScript status → OnCommand words (CompletesRun source old new status)
  replay_completes complete past = on_command words command Now (CompletesRun source old new status) is same (subst (λ (m : ℕ). OnScript source (λ db. Completes db (window_of stream start end) m old new status)) moment_is (complete past))
