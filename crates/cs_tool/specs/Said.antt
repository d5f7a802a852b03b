-- What a run has to say before it is written, this project's own.
use Rattle.std.specs.Prelude.{◌≡◌, ℕ, List, Bool, true, false, Option, string_bytes}
use Rattle.cs_generator.specs.Generated.{script_text}
use Rattle.cs_ddl.specs.declared.tree.ReadQuery.{ReadQuery}
use Rattle.cs_tool.specs.Database.{OnScript}
use Rattle.cs_tool.specs.Run.{OnCommand, IsSaid}
use Rattle.cs_tool.specs.Gen.{IsSummary, IsGenStatus}
use Rattle.cs_tool.specs.Show.{AreShown, IsShowFault, IsCutOff, shown_text}
use Rattle.cs_tool.specs.Status.{status_line}
use Rattle.cs_words.specs.declared.command.Command.{Command}
use Rattle.cs_words.specs.declared.command.Command.TheVariants.{Show}
use Rattle.cs_link.specs.declared.reading.Step.{Step}
use Rattle.cs_tool.specs.declared.status.Status.{Status}
use Rattle.cs_tool.specs.declared.status.Status.TheVariants.{Ended, Memory}
use Rattle.cs_tool.specs.declared.top.Said.{Said}
use Rattle.cs_tool.specs.declared.top.Said.TheVariants.{Line, Text, Steps}

-- the status: Ended where a text or steps stand for it
abbrev pub status_said : Said → Status
status_said (Line status) = status
status_said (Text text) = Ended
status_said (Steps steps) = Ended

-- the text: that of the status where no other stands for it; of steps their lines, and then the last line
abbrev pub text_said : Said → List ℕ
text_said (Line status) = status_line status
text_said (Text text) = string_bytes text
text_said (Steps steps) = shown_text steps

-- what is written of it where memory is wanting
abbrev pub IsWritten : Said → List ℕ → Type 0
IsWritten (Steps steps) text = IsCutOff steps text
IsWritten _ text = text ≡ status_line Memory

-- the only answer of the script's text that is none
abbrev pub IsMemory : Status → Type 0
IsMemory status = status ≡ Memory

-- what gen has to say
abbrev pub IsPrinted : ℕ → Bool → Said → Type 0
IsPrinted commits true (Text text) = string_bytes text ≡ script_text commits
IsPrinted commits true (Line status) = IsMemory status
IsPrinted commits true (Steps steps) = ⊥
IsPrinted commits false (Text text) = IsSummary commits (string_bytes text)
IsPrinted commits false (Line status) = IsGenStatus commits status
IsPrinted commits false (Steps steps) = ⊥

-- what show has to say
abbrev pub IsShown : Option (List ℕ) → ℕ → ℕ → ReadQuery → ℕ → Said → Type 0
IsShown source before now query moment (Steps steps) = OnScript source (AreShown query moment steps)
IsShown source before now query moment (Line status) = IsShowFault source before now query moment status
IsShown source before now query moment (Text text) = ⊥

-- the steps are those that a command asks for
abbrev pub AreStepsOf : Option (List ℕ) → List Step → Command → Type 0
AreStepsOf source steps (Show script moment query) = OnScript source (AreShown query moment steps)
AreStepsOf source steps _ = ⊥

-- what there is to say is what the words ask for
abbrev pub IsDue : Option (List ℕ) → List (List ℕ) → Said → Type 0
IsDue source words (Line status) = IsSaid source words (status_line status) status
IsDue source words (Text text) = IsSaid source words (string_bytes text) Ended
IsDue source words (Steps steps) = OnCommand words (AreStepsOf source steps)
