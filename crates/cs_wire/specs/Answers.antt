-- What a server that tells the truth of a feed answers to a READ.
use Rattle.std.specs.Prelude.{◌≡◌, ◌≤◌, ◌⊎◌, ℕ, List, [], ◌∷◌, ◌++◌, length, Option, Some, None, Ok, ⊤}
use Rattle.cs_link.specs.declared.feed.Feed.{Feed}
use Rattle.cs_link.specs.declared.reading.Closing.{Closing}
use Rattle.cs_link.specs.declared.reading.ReadArgs.{ReadArgs}
use Rattle.cs_link.specs.declared.reading.Step.{Step}
use Rattle.cs_link.specs.declared.refusal.ReadRefusal.{ReadRefusal}
use Rattle.cs_link.specs.Reading.{Read}
use Rattle.cs_link.specs.Refusal.{IsRefusedBy}
use Rattle.cs_link.specs.Honest.{IsHonest}
use Rattle.cs_types.specs.Texts.{HasNoEnd}
use Rattle.cs_http.specs.Refusal.{answer_head_text, refusal_text}
use Rattle.cs_http.specs.Line.{line_step}
use Rattle.cs_http.specs.RefusalLine.{line_refusal}

-- lines, each with its end
abbrev pub lines_text : List (List ℕ) → List ℕ
lines_text [] = []
lines_text (line ∷ lines) = line ++ 10 ∷ lines_text lines

-- a line has no end in it, and is not too long
abbrev pub IsLine : List ℕ → Type 0
IsLine line = HasNoEnd line × (length line ≤ 8388608)

-- each line stands for the step at its place
abbrev pub StandFor : List (List ℕ) → List Step → Type 0
StandFor [] [] = ⊤
StandFor [] (step ∷ steps) = ⊥
StandFor (line ∷ lines) [] = ⊥
StandFor (line ∷ lines) (step ∷ steps) = IsLine line × (line_step line ≡ Ok step) × StandFor lines steps

-- a READ that was taken, with these steps
abbrev pub taken_with : ReadArgs → ℕ → List Step → Read
taken_with args moment steps = record { args = args; moment = moment; opened = Ok tt; steps = steps; bad_line = None }

-- a connection tells what was read from it and written to it, and where nothing was read, the answer to what was written is left
abbrev pub HasAnswer : (List ℕ → List ℕ) → Option (List ℕ) → Option (List ℕ) → Option (List ℕ) → Type 0
HasAnswer answer None written left = ⊥
HasAnswer answer (Some gone) None left = ⊥
HasAnswer answer (Some gone) (Some written) left = gone ≡ [] → left ≡ Some (answer written)

module _ (f : Feed) (args : ReadArgs) (moment : ℕ) (bytes : List ℕ) where
  -- the READ is taken, and its steps are honest
  pub record GivesSteps : Type 0 where
    pub lines : List (List ℕ)
    pub steps : List Step
    pub text : bytes ≡ answer_head_text ++ lines_text lines
    pub stand : StandFor lines steps
    -- the last of them is a closing
    pub before : List Step
    pub closing : Closing
    pub closes : steps ≡ before ++ Step.Closing closing ∷ []
    pub honest : IsHonest f (taken_with args moment steps)

  -- the READ is refused, by a refusal whose condition holds
  pub record Refuses : Type 0 where
    pub refusal : ReadRefusal
    pub line : List ℕ
    pub text : bytes ≡ refusal_text 400 line
    pub is_line : IsLine line
    pub stands : line_refusal line ≡ Some refusal
    pub holds : IsRefusedBy f args moment refusal

  -- an honest answer
  abbrev pub IsHonestAnswerText : Type 0
  IsHonestAnswerText = GivesSteps ⊎ Refuses
