-- What an output says of the entries of a journal. This project's own.
use Rattle.std.specs.Prelude.{◌≡◌, ◌≤◌, ℕ, true, List, [], ◌∷◌, ◌++◌, map, Option, Contains}
use Rattle.cs_types.specs.Change.{wanted_changes}
use Rattle.cs_types.specs.declared.names.Window.{Window}
use Rattle.cs_link.specs.declared.feed.Feed.{Feed}
use Rattle.cs_link.specs.Feed.{IsFeed}
use Rattle.cs_output.specs.Output.{Line, of_change, of_watermark, text_of_lines, IsGood, IsComplete}
use Rattle.cs_schedule.specs.declared.entry.Entry.{Entry}
use Rattle.cs_schedule.specs.declared.row.Row.{Row}
use Rattle.cs_schedule.specs.Consistent.{IsConsistent}
use Rattle.cs_schedule.specs.Outline.{Event, Changed, Watermark, Step, risen, last_after, steps_behind, events_of}
use Rattle.cs_schedule.specs.Rows.{changes_in, rows_of, first_open}

-- the line of an event
abbrev pub line_of_event : Event → Line
line_of_event (Changed c) = of_change c
line_of_event (Watermark at) = of_watermark at

-- Entry by entry the lines of its changes, and behind them that of the low watermark of the rows so far, where it is
-- above the last one written. Before the first one, that counts as the moment before the window's start.
abbrev pub lines_of : Window → List Entry → List Line
lines_of w es = map line_of_event (events_of w es)

abbrev pub output_of : Window → List Entry → List ℕ
output_of w es = text_of_lines (lines_of w es)

-- ---- entry by entry

-- the first moment behind the last watermark of these steps
abbrev pub marked_behind : ℕ → ℕ → List Step → ℕ
marked_behind e last [] = last
marked_behind e last (x ∷ steps) = marked_behind e (last_after last (first_open e x.rows)) steps

-- the first moment behind the last watermark of an output of these entries; the window's start where it has none
abbrev pub marked_of : Window → List Entry → ℕ
marked_of w es = marked_behind w.end w.start (steps_behind w.start [] es)

-- the first moment that is not complete over the rows of these entries and one more
abbrev pub open_with : Window → List Entry → Entry → Option ℕ
open_with w es e = first_open w.end (rows_of w.start (es ++ e ∷ []))

abbrev pub mark_with : Window → List Entry → Entry → ℕ
mark_with w es e = last_after (marked_of w es) (open_with w es e)

-- what one entry more adds: the lines of its changes, and of the watermark where it has risen
abbrev pub added_by : Window → List Entry → Entry → List ℕ
added_by w es e = text_of_lines (map line_of_event (map Changed (changes_in e) ++ risen (marked_of w es) (open_with w es e)))

-- ---- what is proved of it

-- the output of consistent entries is good
abbrev pub ConsistentTextIsGood : Type 0
ConsistentTextIsGood = (f : Feed) (w : Window) (es : List Entry) → IsFeed f → f.created ≤ w.start → w.start ≤ w.end → IsConsistent f w es → IsGood (output_of w es) (wanted_changes w.start w.end f.wanted) w.end

-- and complete where they have rows and all are finished
abbrev pub FinishedTextIsComplete : Type 0
FinishedTextIsComplete = (f : Feed) (w : Window) (es : List Entry) (r : Row) → IsFeed f → f.created ≤ w.start → w.start ≤ w.end → IsConsistent f w es → Contains (rows_of w.start es) r → ((a : Row) → Contains (rows_of w.start es) a → a.finished ≡ true) → IsComplete (output_of w es) (wanted_changes w.start w.end f.wanted) w.end
