-- What is written for an entry, as it is made. This project's own.
use Rattle.std.specs.Prelude.{◌≡◌, ℕ, suc, List, [], ◌∷◌, ◌++◌, Option, None, Some, nat_lt, if◌then◌else◌}
use Rattle.cs_output.specs.Output.{Line, of_watermark}
use Rattle.cs_schedule.specs.declared.entry.Entry.{Entry}
use Rattle.cs_schedule.specs.Board.{Shown}
use Rattle.cs_schedule.specs.Follows.{IsBoardOf}
use Rattle.cs_schedule.specs.Rows.{rows_of, low_watermark}
use Rattle.cs_types.specs.declared.names.Window.{Window}
use Rattle.cs_text.specs.Output.{output_of, marked_of, added_by}

-- the line of a watermark that is at or above a moment
abbrev pub mark_lines : ℕ → Option ℕ → List Line
mark_lines marked None = []
mark_lines marked (Some at) = if nat_lt at marked then [] else of_watermark at ∷ []

-- the first moment behind the last watermark then
abbrev pub mark_now : ℕ → Option ℕ → ℕ
mark_now marked None = marked
mark_now marked (Some at) = if nat_lt at marked then marked else suc at

-- the board, the last watermark and the lines are those of the entries
pub record Tells (board : Shown) (marked : ℕ) (text : List ℕ) (es : List Entry) : Type 0 where
  pub rows : IsBoardOf es board
  pub mark : marked ≡ marked_of board.window es
  pub lines : text ≡ output_of board.window es

-- over entries of which these are the mark and, with the entry, the low watermark, the text is what the entry adds to their output, and this is the mark behind it
abbrev pub AreAdded : Entry → ℕ → Option ℕ → List ℕ → ℕ → Type 0
AreAdded e marked mark text now = (w : Window) (es : List Entry) → marked ≡ marked_of w es → mark ≡ low_watermark w.end (rows_of w.start (es ++ e ∷ [])) → (text ≡ added_by w es e) × (now ≡ marked_of w (es ++ e ∷ []))
