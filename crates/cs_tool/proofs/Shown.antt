-- What show has to say, by its status.
use Rattle.std.proofs.Common.{◌≡◌, ℕ, List, Option, None, Some, subst}
use Rattle.cs_ddl.specs.declared.tree.ReadQuery.{ReadQuery}
use Rattle.cs_link.specs.declared.refusal.ReadRefusal.{ReadRefusal}
use Rattle.cs_script.specs.Database.{Database}
use Rattle.cs_script.specs.declared.fault.LineCause.{LineCause}
use Rattle.cs_words.specs.Words.{IsCommand}
use Rattle.cs_words.specs.declared.command.Command.{Command}
use Rattle.cs_tool.specs.Answers.{IsShowStatus, IsPastScript}
use Rattle.cs_tool.specs.Database.{OnScript, IsBadScript}
use Rattle.cs_tool.specs.Run.{OnCommand}
use Rattle.cs_tool.specs.Said.{status_said, IsShown}
use Rattle.cs_tool.specs.Show.{IsRead, IsReadTooOld, IsReadRefused, IsShowFault}
use Rattle.std.specs.Prelude.{IfSome}
use Rattle.cs_tool.specs.declared.status.Status.{Status}
use Rattle.cs_tool.specs.declared.status.Status.TheVariants.{Ended, Paused, Verdict, RetentionPassed, Refused, LinkFault, Breach, Stalled, JournalFault, OutputFault, SourceFault, ConsoleFault, BadWords, BadScript, OtherJournal, BadJournal, Full, OutputNotEmpty, BadOutput, Memory}
use Rattle.cs_tool.specs.declared.top.Said.{Said}
use Rattle.cs_tool.specs.declared.top.Said.TheVariants.{Line, Text, Steps}

-- what holds of the command that the words are
pub on_command : (words : List (List ℕ)) (command other : Command) (P : Command → Type 0) → IsCommand words command → command ≡ other → P other → OnCommand words P
on_command words command other P is same p = (other, subst (λ (c : Command). IsCommand words c) same is, p)

pub map_script : (source : Option (List ℕ)) (P Q : Database → Type 0) → ((db : Database) → P db → Q db) → OnScript source P → OnScript source Q
map_script None P Q f on = tt
map_script (Some bytes) P Q f (db, made, p) = (db, made, f db p)

ended_not_passed : (earliest : ℕ) → Ended ≡ RetentionPassed earliest → ⊥
ended_not_passed earliest e = cc

ended_not_refused : (refusal : ReadRefusal) → Ended ≡ Refused refusal → ⊥
ended_not_refused refusal e = cc

ended_not_bad : (line : ℕ) (cause : Option LineCause) → Ended ≡ BadScript line cause → ⊥
ended_not_bad line cause e = cc

module _ (source : Option (List ℕ)) (before now : ℕ) (query : ReadQuery) (moment : ℕ) where
  pub shown_ended : (said : Said) → IsShown source before now query moment said → status_said said ≡ Ended → OnScript source (IsRead query moment)
  shown_ended (Line status) is e = absurd (subst (λ (s : Status). IsShowFault source before now query moment s) e is)
  shown_ended (Text text) is e = absurd is
  shown_ended (Steps steps) is e = map_script source _ (IsRead query moment) (λ db are. are.0) is

  pub shown_passed : (said : Said) (earliest : ℕ) → IsShown source before now query moment said → status_said said ≡ RetentionPassed earliest → OnScript source (IsReadTooOld query moment earliest)
  shown_passed (Line status) earliest is e = subst (λ (s : Status). IsShowFault source before now query moment s) e is
  shown_passed (Text text) earliest is e = absurd is
  shown_passed (Steps steps) earliest is e = absurd (ended_not_passed earliest e)

  pub shown_refused : (said : Said) (refusal : ReadRefusal) → IsShown source before now query moment said → status_said said ≡ Refused refusal → OnScript source (IsReadRefused query moment refusal)
  shown_refused (Line status) refusal is e = subst (λ (s : Status). IsShowFault source before now query moment s) e is
  shown_refused (Text text) refusal is e = absurd is
  shown_refused (Steps steps) refusal is e = absurd (ended_not_refused refusal e)

  pub shown_bad : (said : Said) (line : ℕ) (cause : Option LineCause) → IsShown source before now query moment said → status_said said ≡ BadScript line cause → IfSome source (IsBadScript line cause)
  shown_bad (Line status) line cause is e = subst (λ (s : Status). IsShowFault source before now query moment s) e is
  shown_bad (Text text) line cause is e = absurd is
  shown_bad (Steps steps) line cause is e = absurd (ended_not_bad line cause e)

  status_answers : (status : Status) → IsShowFault source before now query moment status → IsShowStatus status
  status_answers Ended is = absurd is
  status_answers Paused is = absurd is
  status_answers (Verdict v) is = absurd is
  status_answers (RetentionPassed earliest) is = tt
  status_answers (Refused refusal) is = tt
  status_answers LinkFault is = absurd is
  status_answers (Breach breach) is = absurd is
  status_answers (Stalled token count) is = absurd is
  status_answers JournalFault is = absurd is
  status_answers OutputFault is = absurd is
  status_answers SourceFault is = tt
  status_answers ConsoleFault is = absurd is
  status_answers (BadWords place) is = absurd is
  status_answers (BadScript line cause) is = tt
  status_answers (OtherJournal other) is = absurd is
  status_answers (BadJournal gate) is = absurd is
  status_answers (Full length) is = absurd is
  status_answers (OutputNotEmpty count) is = absurd is
  status_answers (BadOutput line) is = absurd is
  status_answers Memory is = tt

  pub shown_answers : (said : Said) → IsShown source before now query moment said → IsShowStatus (status_said said)
  shown_answers (Line status) is = status_answers status is
  shown_answers (Text text) is = absurd is
  shown_answers (Steps steps) is = tt

  status_next : (status : Status) → IsShowFault source before now query moment status → IsPastScript status → OnScript source (λ db. Unit {0})
  status_next Ended is past = absurd is
  status_next Paused is past = absurd is
  status_next (Verdict v) is past = absurd is
  status_next (RetentionPassed earliest) is past = map_script source (IsReadTooOld query moment earliest) (λ db. Unit {0}) (λ db h. tt) is
  status_next (Refused refusal) is past = map_script source (IsReadRefused query moment refusal) (λ db. Unit {0}) (λ db h. tt) is
  status_next LinkFault is past = absurd is
  status_next (Breach breach) is past = absurd is
  status_next (Stalled token count) is past = absurd is
  status_next JournalFault is past = absurd is
  status_next OutputFault is past = absurd is
  status_next SourceFault is past = absurd past
  status_next ConsoleFault is past = absurd is
  status_next (BadWords place) is past = absurd is
  status_next (BadScript line cause) is past = absurd past
  status_next (OtherJournal other) is past = absurd is
  status_next (BadJournal gate) is past = absurd is
  status_next (Full length) is past = absurd is
  status_next (OutputNotEmpty count) is past = absurd is
  status_next (BadOutput line) is past = absurd is
  status_next Memory is past = absurd past

  pub shown_next : (said : Said) → IsShown source before now query moment said → IsPastScript (status_said said) → OnScript source (λ db. Unit {0})
  shown_next (Line status) is past = status_next status is past
  shown_next (Text text) is past = absurd is
  shown_next (Steps steps) is past = map_script source _ (λ db. Unit {0}) (λ db are. tt) is
