-- The line of a step of an answer: that of its record, or one that closes the answer (the lines are this project's own).
use Rattle.std.specs.Prelude.{ℕ, List, ◌++◌, codes, ⊤}
use Rattle.cs_types.specs.Stamp.{stamp_text}
use Rattle.cs_link.specs.declared.reading.Closing.{Closing}
use Rattle.cs_link.specs.declared.reading.Step.{Step}
use Rattle.cs_json_reading.specs.Standing.{CanStand}
use Rattle.cs_json.specs.Written.{record_line}

-- the line that closes an answer, without its end
abbrev pub closing_text : Closing → List ℕ
closing_text Closing.Finished = codes "{\"closing\":\"FINISHED\"}"
closing_text (Closing.CaughtUp moment) = codes "{\"closing\":\"CAUGHT_UP\",\"moment\":\"" ++ (stamp_text moment ++ codes "\"}")
closing_text Closing.Cut = codes "{\"closing\":\"CUT\"}"

-- the line of a step, without its end
abbrev pub step_text : Step → List ℕ
step_text (Step.Record item) = record_line item
step_text (Step.Closing closing) = closing_text closing

-- a line can stand for the step
abbrev pub CanStandAs : Step → Type 0
CanStandAs (Step.Record item) = CanStand item
CanStandAs (Step.Closing closing) = ⊤
