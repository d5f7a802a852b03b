-- The lines of an answer, this project's own.
use Rattle.std.specs.Prelude.{ℕ, List, [], ◌∷◌, ◌++◌, codes}
use Rattle.cs_ddl.specs.declared.tree.ReadQuery.{ReadQuery}
use Rattle.cs_link.specs.declared.reading.Step.{Step}
use Rattle.cs_script.specs.Database.{Database}
use Rattle.cs_answer_lines.specs.StepLine.{step_text}
use Rattle.cs_read.specs.Answers.{answer_steps}

-- the line of a step, with its end
abbrev pub line_text : Step → List ℕ
line_text step = step_text step ++ codes "\n"

-- the lines of steps, in their order
abbrev pub lines_text : List Step → List ℕ
lines_text [] = []
lines_text (step ∷ steps) = line_text step ++ lines_text steps

-- the lines of the steps that answer a query at a moment
abbrev pub answer_text : Database → ReadQuery → ℕ → List ℕ
answer_text db query moment = lines_text (answer_steps db query moment)
