-- The lines of an answer: records, and one closing line as the last. The closing lines are this project's own.
use Rattle.std.specs.Prelude.{◌≡◌, ℕ, ◌+◌, ◌-◌, nat_le, ◌&&◌, if◌then◌else◌, List, ◌++◌, length, take, drop, Option, Some, None, Result, Ok, Err, codes, ⊤}
use Rattle.std.specs.Option.{option_map}
use Rattle.std.specs.Str.{bytes_eq}
use Rattle.cs_records.specs.declared.records.Record.{Record}
use Rattle.cs_types.specs.Stamp.{IsStamp, Spells, stamp_reading, stamp_text}
use Rattle.cs_records.specs.declared.faults.LineFault.{LineFault}
use Rattle.cs_json_reading.specs.Line.{line_reading}
use Rattle.cs_json_reading.specs.Standing.{CanStand}
use Rattle.cs_json.specs.Written.{record_line}
use Rattle.cs_link.specs.declared.reading.Closing.{Closing}
use Rattle.cs_link.specs.declared.reading.Step.{Step}

-- the closing lines without a moment
abbrev pub finished_line : List ℕ
finished_line = codes "{\"closing\":\"FINISHED\"}"

abbrev pub cut_line : List ℕ
cut_line = codes "{\"closing\":\"CUT\"}"

-- what stands before and behind the moment of the other closing line
abbrev pub moment_front : List ℕ
moment_front = codes "{\"closing\":\"CAUGHT_UP\",\"moment\":\""

abbrev pub moment_back : List ℕ
moment_back = codes "\"}"

-- a line is this text between these
abbrev pub IsBetween : List ℕ → List ℕ → List ℕ → List ℕ → Type 0
IsBetween front back line text = line ≡ front ++ text ++ back

-- the closing line that caught up with a moment, by any text of the moment
pub record IsCaughtUp (at : ℕ) (line : List ℕ) : Type 0 where
  pub text : List ℕ
  pub stands : IsBetween moment_front moment_back line text
  pub spelled : Spells text at

-- the closing line of an ending
abbrev pub closing_text : Closing → List ℕ
closing_text Closing.Finished = finished_line
closing_text (Closing.CaughtUp at) = moment_front ++ stamp_text at ++ moment_back
closing_text Closing.Cut = cut_line

-- what a text is read as, where there is one
abbrev pub and_then : {A B : Type 0} → (A → Option B) → Option A → Option B
and_then f None = None
and_then f (Some a) = f a

-- what stands between these, where a line is made so
abbrev pub text_between : List ℕ → List ℕ → List ℕ → Option (List ℕ)
text_between front back line =
    if nat_le (length front + length back) (length line) && (bytes_eq (take (length front) line) front && bytes_eq (drop (length line - length back) line) back)
    then Some (take (length line - length back - length front) (drop (length front) line)) else None

-- the moment of the closing line that caught up with it
abbrev pub caught_reading : List ℕ → Option ℕ
caught_reading line = and_then stamp_reading (text_between moment_front moment_back line)

-- the ending of which a line is the closing line
unfoldable pub closing_reading : List ℕ → Option Closing
closing_reading line =
    if bytes_eq line finished_line then Some Closing.Finished
    else (if bytes_eq line cut_line then Some Closing.Cut else option_map (λ at. Closing.CaughtUp at) (caught_reading line))

-- the record that was read is a step
abbrev pub record_step : Result Record LineFault → Result Step LineFault
record_step (Ok item) = Ok (Step.Record item)
record_step (Err fault) = Err fault

-- the ending where there is one, else the record
abbrev pub step_or : Option Closing → Result Record LineFault → Result Step LineFault
step_or (Some closing) reading = Ok (Step.Closing closing)
step_or None reading = record_step reading

-- the step for which a line stands, or why it stands for none
unfoldable pub line_step : List ℕ → Result Step LineFault
line_step line = step_or (closing_reading line) (line_reading line)

-- a line is the closing line of this ending
abbrev pub IsClosing : Closing → List ℕ → Type 0
IsClosing Closing.Finished line = line ≡ finished_line
IsClosing (Closing.CaughtUp at) line = IsCaughtUp at line
IsClosing Closing.Cut line = line ≡ cut_line

-- the line that is written for a step, without its end
abbrev pub step_text : Step → List ℕ
step_text (Step.Record item) = record_line item
step_text (Step.Closing closing) = closing_text closing

-- a line can stand for the step
abbrev pub CanStandAs : Step → Type 0
CanStandAs (Step.Record item) = CanStand item
CanStandAs (Step.Closing closing) = ⊤

-- what is so of each step, by the types of its parts, as far as its closing line speaks of it
abbrev pub IsKeptStep : Step → Type 0
IsKeptStep (Step.Record item) = ⊤
IsKeptStep (Step.Closing Closing.Finished) = ⊤
IsKeptStep (Step.Closing (Closing.CaughtUp at)) = IsStamp at
IsKeptStep (Step.Closing Closing.Cut) = ⊤
