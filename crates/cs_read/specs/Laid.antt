-- The steps of an answer, all laid out by their places.
use Rattle.std.specs.Prelude.{◌≡◌, List, [], ◌∷◌, ◌++◌, ⊤}
use Rattle.cs_link.specs.declared.reading.Closing.{Closing}
use Rattle.cs_link.specs.declared.reading.Step.{Step}
use Rattle.cs_steps.specs.declared.cursor.Cursor.{Cursor}
use Rattle.cs_steps.specs.declared.cursor.StepPlace.{StepPlace}
use Rattle.cs_steps.specs.Cursor.{Source, IsStep, IsCursor, steps_left}
use Rattle.cs_read.specs.declared.laying.LaidStep.{LaidStep}

-- the place that is meant
abbrev pub place_of : LaidStep → StepPlace
place_of (LaidStep.Record place) = StepPlace.Record place
place_of (LaidStep.Heartbeat at) = StepPlace.Heartbeat at
place_of (LaidStep.Children place) = StepPlace.Children place
place_of LaidStep.Finished = StepPlace.Closing Closing.Finished
place_of (LaidStep.CaughtUp moment) = StepPlace.Closing (Closing.CaughtUp moment)
place_of LaidStep.Cut = StepPlace.Closing Closing.Cut

-- at each place stands the step of this list
abbrev pub AreSteps : Source → List LaidStep → List Step → Type 0
AreSteps s [] [] = ⊤
AreSteps s [] (x ∷ xs) = ⊥
AreSteps s (p ∷ ps) [] = ⊥
AreSteps s (p ∷ ps) (x ∷ xs) = IsStep s (place_of p) x × AreSteps s ps xs

-- of all steps some were laid out, and the others are left
pub record LaidOut (s : Source) (all : List Step) (c : Cursor) (laid : List LaidStep) : Type 0 where
  pub given : List Step
  pub are : AreSteps s laid given
  pub all_is : given ++ steps_left s c ≡ all
  pub cursor : IsCursor s c
