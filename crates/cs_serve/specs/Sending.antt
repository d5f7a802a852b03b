-- What of an answer was written to a connection, and what is held to be written.
use Rattle.std.specs.Prelude.{◌≡◌, ℕ, List, ◌++◌, Option, All}
use Rattle.std.specs.Io.KnownBytes.{Appends}
use Rattle.cs_link.specs.declared.reading.Step.{Step}
use Rattle.cs_answer_lines.specs.StepLine.{CanStandAs}
use Rattle.cs_serve.specs.Answer.{lines_text}

-- what was written, what is held and the lines of the steps that are left are the lines of all
pub record Sends (before now : Option (List ℕ)) (held : List ℕ) (all left : List Step) : Type 0 where
  pub sent : List ℕ
  pub written : Appends before now sent
  pub text : (sent ++ held) ++ lines_text left ≡ lines_text all

-- a front of what was held was written, and the rest is held
pub record SendsPart (before now : Option (List ℕ)) (held now_held : List ℕ) : Type 0 where
  pub sent : List ℕ
  pub written : Appends before now sent
  pub parts : held ≡ sent ++ now_held

-- a line can stand for each of the steps
abbrev pub CanStandAll : List Step → Type 0
CanStandAll steps = All CanStandAs steps
