-- What stands on the console behind what there was to say.
use Rattle.std.proofs.Common.{◌≡◌, ◌≢◌, ◌⊎◌, ℕ, List, ◌++◌, take, Option, None, Some, refl, sym, ap, subst, inl, inr, ◌∙◌, append_assoc}
use Rattle.std.specs.Io.KnownBytes.{Appends}
use Rattle.cs_link.specs.declared.reading.Step.{Step}
use Rattle.cs_show.specs.Lines.{lines_text}
use Rattle.cs_show.specs.Written.{IsCut}
use Rattle.cs_words.specs.declared.command.Command.{Command}
use Rattle.cs_words.specs.declared.command.Command.TheVariants.{Replay, Check, Show, Gen}
use Rattle.cs_tool.specs.Run.{SaidAtEnd, SaidInPart, IsSaid}
use Rattle.cs_tool.specs.Said.{status_said, text_said, IsWritten, AreStepsOf, IsDue}
use Rattle.cs_tool.specs.Show.{IsCutOff, shown_text}
use Rattle.cs_tool.specs.Status.{status_line}
use Rattle.cs_tool.specs.declared.status.Status.{Status}
use Rattle.cs_tool.specs.declared.status.Status.TheVariants.{Ended, Paused, Verdict, RetentionPassed, Refused, LinkFault, Breach, Stalled, JournalFault, OutputFault, SourceFault, ConsoleFault, BadWords, BadScript, OtherJournal, BadJournal, Full, OutputNotEmpty, BadOutput, Memory}
use Rattle.cs_tool.specs.declared.top.Said.{Said}
use Rattle.cs_tool.specs.declared.top.Said.TheVariants.{Line, Text, Steps}

is_memory : (s : Status) → (s ≡ Memory) ⊎ (s ≢ Memory)
is_memory Ended = inr (λ h. cc)
is_memory Paused = inr (λ h. cc)
is_memory (Verdict v) = inr (λ h. cc)
is_memory (RetentionPassed earliest) = inr (λ h. cc)
is_memory (Refused refusal) = inr (λ h. cc)
is_memory LinkFault = inr (λ h. cc)
is_memory (Breach breach) = inr (λ h. cc)
is_memory (Stalled token count) = inr (λ h. cc)
is_memory JournalFault = inr (λ h. cc)
is_memory OutputFault = inr (λ h. cc)
is_memory SourceFault = inr (λ h. cc)
is_memory ConsoleFault = inr (λ h. cc)
is_memory (BadWords place) = inr (λ h. cc)
is_memory (BadScript line cause) = inr (λ h. cc)
is_memory (OtherJournal other) = inr (λ h. cc)
is_memory (BadJournal gate) = inr (λ h. cc)
is_memory (Full length) = inr (λ h. cc)
is_memory (OutputNotEmpty count) = inr (λ h. cc)
is_memory (BadOutput line) = inr (λ h. cc)
is_memory Memory = inl refl

appends_then : (u v w : Option (List ℕ)) (a b : List ℕ) → Appends u v a → Appends v w b → Appends u w (a ++ b)
appends_then None v w a b x y = tt
appends_then (Some xs) None w a b x y = absurd x
appends_then (Some xs) (Some ys) None a b x y = absurd y
appends_then (Some xs) (Some ys) (Some zs) a b x y = y ∙ ap (λ (t : List ℕ). t ++ b) x ∙ append_assoc xs a b

-- behind the lines of the first steps stands that memory was wanting
pub cut_off : (steps : List Step) (u v w : Option (List ℕ)) → IsCut steps u v → Appends v w (status_line Memory) → (text : List ℕ) × Appends u w text × IsCutOff steps text
cut_off steps u v w cut last = (
  lines_text (take cut.count steps) ++ status_line Memory,
  appends_then u v w (lines_text (take cut.count steps)) (status_line Memory) cut.lines last,
  record { count = cut.count; few = cut.few; text_is = refl },
)

-- the steps that a command asks for are said, all of them or the first
all_said : (source : Option (List ℕ)) (steps : List Step) (command : Command) → AreStepsOf source steps command → SaidAtEnd source (shown_text steps) command
all_said source steps (Replay script journal output stream start end options) are = absurd are
all_said source steps (Check script output stream start end) are = absurd are
all_said None steps (Show script moment query) are = tt
all_said (Some bytes) steps (Show script moment query) (db, made, are) = (db, made, (are.0, ap shown_text are.1))
all_said source steps (Gen commits text) are = absurd are

some_said : (source : Option (List ℕ)) (steps : List Step) (text : List ℕ) (command : Command) → IsCutOff steps text → AreStepsOf source steps command → SaidInPart source text command
some_said source steps text (Replay script journal output stream start end options) cut are = absurd are
some_said source steps text (Check script output stream start end) cut are = absurd are
some_said None steps text (Show script moment query) cut are = tt
some_said (Some bytes) steps text (Show script moment query) cut (db, made, are) = (db, made, (are.0, subst (λ (l : List Step). IsCutOff l text) are.1 cut))
some_said source steps text (Gen commits print) cut are = absurd are

module _ (source : Option (List ℕ)) (words : List (List ℕ)) where
  whole_said : (said : Said) → IsDue source words said → IsSaid source words (text_said said) (status_said said)
  whole_said (Line status) due = due
  whole_said (Text text) due = due
  whole_said (Steps steps) (command, is, are) = (command, is, all_said source steps command are)

  cut_said : (said : Said) (text : List ℕ) → IsDue source words said → IsWritten said text → IsSaid source words text Memory
  cut_said (Line status) text due written = inl written
  cut_said (Text string) text due written = inl written
  cut_said (Steps steps) text (command, is, are) written = inr (command, is, some_said source steps text command written are)

  pub said_text : (old new : Option (List ℕ)) (result : Status) (said : Said) → (result ≢ ConsoleFault → result ≢ Memory → result ≡ status_said said)
      → (result ≢ ConsoleFault → result ≢ Memory → Appends old new (text_said said)) → (result ≡ Memory → (text : List ℕ) × Appends old new text × IsWritten said text)
      → IsDue source words said → result ≢ ConsoleFault → (text : List ℕ) × Appends old new text × IsSaid source words text result
  said_text old new result said same ended memory due calm = at (is_memory result)
    where
      at : (result ≡ Memory) ⊎ (result ≢ Memory) → (text : List ℕ) × Appends old new text × IsSaid source words text result
      at (inl e) =
          let (text, taken, written) = memory e in
          (text, taken, subst (λ (s : Status). IsSaid source words text s) (sym e) (cut_said said text due written))
      at (inr n) = (text_said said, ended calm n, subst (λ (s : Status). IsSaid source words (text_said said) s) (sym (same calm n)) (whole_said said due))
