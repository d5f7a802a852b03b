-- What show says of a query, this project's own.
use Rattle.std.specs.Prelude.{◌≡◌, ◌<◌, ℕ, List, ◌++◌, length, take, Option, None, Some, IfSome, ⊤}
use Rattle.cs_ddl.specs.declared.tree.ReadQuery.{ReadQuery}
use Rattle.cs_device.specs.Causes.{Rose}
use Rattle.cs_link.specs.declared.reading.Step.{Step}
use Rattle.cs_link.specs.declared.refusal.ReadRefusal.{ReadRefusal}
use Rattle.cs_script.specs.Database.{Database}
use Rattle.cs_read.specs.Answers.{read_refusal, answer_steps}
use Rattle.cs_show.specs.Lines.{lines_text}
use Rattle.cs_tool.specs.Database.{OnScript, IsBadScript}
use Rattle.cs_tool.specs.Status.{status_line}
use Rattle.cs_tool.specs.declared.status.Status.{Status}
use Rattle.cs_tool.specs.declared.status.Status.TheVariants.{Ended, RetentionPassed, Refused, SourceFault, BadScript, Memory}

-- a refusal other than that of a start before what the stream keeps
abbrev pub IsNotTooOld : ReadRefusal → Type 0
IsNotTooOld (ReadRefusal.StartTooOld earliest) = ⊥
IsNotTooOld _ = ⊤

-- the READ of a query at a moment is not refused
abbrev pub IsRead : ReadQuery → ℕ → Database → Type 0
IsRead query moment db = read_refusal db query moment ≡ None

-- it starts before the earliest moment that the stream keeps, which is this
abbrev pub IsReadTooOld : ReadQuery → ℕ → ℕ → Database → Type 0
IsReadTooOld query moment earliest db = read_refusal db query moment ≡ Some (ReadRefusal.StartTooOld earliest)

-- it is refused in another way
abbrev pub IsReadRefused : ReadQuery → ℕ → ReadRefusal → Database → Type 0
IsReadRefused query moment refusal db = (read_refusal db query moment ≡ Some refusal) × IsNotTooOld refusal

-- all that is written of an answer: a line for each step, and the last line
abbrev pub shown_text : List Step → List ℕ
shown_text steps = lines_text steps ++ status_line Ended

-- what is written of it where memory is wanting: the lines of the first steps, not of all, and the last line
pub record IsCutOff (steps : List Step) (text : List ℕ) : Type 0 where
  pub count : ℕ
  pub few : count < length steps
  pub text_is : text ≡ lines_text (take count steps) ++ status_line Memory

-- why no step was shown
abbrev pub IsShowFault : Option (List ℕ) → ℕ → ℕ → ReadQuery → ℕ → Status → Type 0
IsShowFault source before now query moment SourceFault = Rose before now
IsShowFault source before now query moment (BadScript line cause) = IfSome source (IsBadScript line cause)
IsShowFault source before now query moment (RetentionPassed earliest) = OnScript source (IsReadTooOld query moment earliest)
IsShowFault source before now query moment (Refused refusal) = OnScript source (IsReadRefused query moment refusal)
IsShowFault source before now query moment Memory = ⊤
IsShowFault source before now query moment _ = ⊥

-- the same over the database that a script makes
abbrev pub IsReadFault : Database → ReadQuery → ℕ → Status → Type 0
IsReadFault db query moment (RetentionPassed earliest) = IsReadTooOld query moment earliest db
IsReadFault db query moment (Refused refusal) = IsReadRefused query moment refusal db
IsReadFault db query moment Memory = ⊤
IsReadFault db query moment _ = ⊥

-- the status of a refusal
abbrev pub IsStatusOf : ReadRefusal → Status → Type 0
IsStatusOf refusal (RetentionPassed earliest) = refusal ≡ ReadRefusal.StartTooOld earliest
IsStatusOf refusal (Refused told) = (refusal ≡ told) × IsNotTooOld told
IsStatusOf refusal _ = ⊥

-- the steps are those of the READ, which is not refused
abbrev pub AreShown : ReadQuery → ℕ → List Step → Database → Type 0
AreShown query moment steps db = IsRead query moment db × (steps ≡ answer_steps db query moment)
