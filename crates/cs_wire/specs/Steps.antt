-- The lines of a text, each ended by LF, and the steps for which they stand.
use Rattle.std.specs.Prelude.{ℕ, List, [], ◌∷◌, ◌++◌, cond, ◌==◌, ◌||◌, Bool, false, Result, Ok, Err}
use Rattle.cs_records.specs.declared.faults.LineFault.{LineFault}
use Rattle.cs_link.specs.declared.reading.Step.{Step}
use Rattle.cs_link.specs.Reading.{is_closing}
use Rattle.cs_http.specs.Line.{line_step}

-- the lines that end in a text, where `line` stands before it
abbrev pub lines_behind : List ℕ → List ℕ → List (List ℕ)
lines_behind line [] = []
lines_behind line (b ∷ text) = cond (b == 10) (line ∷ lines_behind [] text) (lines_behind (line ++ b ∷ []) text)

-- the lines that end in a text
abbrev pub lines_in : List ℕ → List (List ℕ)
lines_in text = lines_behind [] text

-- what stands behind the last line that ends, where `line` stands before the text
abbrev pub last_behind : List ℕ → List ℕ → List ℕ
last_behind line [] = line
last_behind line (b ∷ text) = cond (b == 10) (last_behind [] text) (last_behind (line ++ b ∷ []) text)

-- what stands behind the last line that ends
abbrev pub last_in : List ℕ → List ℕ
last_in text = last_behind [] text

-- a step before others, where there is one
abbrev pub step_before : Result Step LineFault → List Step → List Step
step_before (Ok step) steps = step ∷ steps
step_before (Err fault) steps = steps

-- the steps for which lines stand; a line that stands for none has none
abbrev pub steps_of : List (List ℕ) → List Step
steps_of [] = []
steps_of (line ∷ lines) = step_before (line_step line) (steps_of lines)

-- the steps for which the lines of a text stand
abbrev pub steps_in : List ℕ → List Step
steps_in text = steps_of (lines_in text)

-- whether one of the steps is a closing
abbrev pub has_closing : List Step → Bool
has_closing [] = false
has_closing (step ∷ steps) = is_closing step || has_closing steps
