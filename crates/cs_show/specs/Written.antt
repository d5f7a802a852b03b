-- Lines that can be written, and what stands on a console where not all of them were, this project's own.
use Rattle.std.specs.Prelude.{◌≡◌, ◌<◌, ℕ, List, All, length, take, Option}
use Rattle.std.specs.Io.KnownBytes.{Appends}
use Rattle.cs_device.specs.Causes.{Rose}
use Rattle.cs_link.specs.declared.reading.Step.{Step}
use Rattle.cs_answer_lines.specs.StepLine.{CanStandAs}
use Rattle.cs_show.specs.Lines.{lines_text}
use Rattle.cs_show.specs.declared.shown.ShowFault.{ShowFault}
use Rattle.cs_show.specs.declared.shown.ShowFault.TheVariants.{Console, Memory}

-- a line can stand for each of the steps
abbrev pub CanStandAll : List Step → Type 0
CanStandAll steps = All CanStandAs steps

-- the lines of the first steps, not of all
pub record IsCut (steps : List Step) (old new : Option (List ℕ)) : Type 0 where
  pub count : ℕ
  pub few : count < length steps
  pub lines : Appends old new (lines_text (take count steps))

-- why not all was written: the console failed, or memory was wanting behind the lines of the first steps
abbrev pub IsUnwritten : List Step → Option (List ℕ) → Option (List ℕ) → ℕ → ℕ → ShowFault → Type 0
IsUnwritten steps old new before now Console = Rose before now
IsUnwritten steps old new before now Memory = (now ≡ before) × IsCut steps old new

-- why the line of a step was not written: the console failed, or memory was wanting before it was touched
abbrev pub IsStepFault : Option (List ℕ) → Option (List ℕ) → ℕ → ℕ → ShowFault → Type 0
IsStepFault old new before now Console = Rose before now
IsStepFault old new before now Memory = (now ≡ before) × (new ≡ old)
