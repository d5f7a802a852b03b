-- How far the rows of a follower are that pauses, and how its turns bring them there. This project's own.
use Rattle.std.specs.Prelude.{◌≡◌, ◌≢◌, ◌⊎◌, ◌≤◌, ◌+◌, ℕ, suc, Bool, true, false, List, [], ◌∷◌, length, filter, Option, Some, Ok, Contains, nat_le, if◌then◌else◌, ⊤}
use Rattle.cs_types.specs.declared.names.Window.{Window}
use Rattle.cs_link.specs.declared.batch.Batch.{Batch}
use Rattle.cs_link.specs.declared.feed.Feed.{Feed}
use Rattle.cs_link.specs.Honest.{IsHonestFor}
use Rattle.cs_link.specs.Reading.{Read}
use Rattle.cs_schedule.specs.declared.entry.Entry.{Entry}
use Rattle.cs_schedule.specs.declared.row.Row.{Row}
use Rattle.cs_schedule.specs.Board.{Shown}
use Rattle.cs_schedule.specs.Consistent.{IsReady}
use Rattle.cs_schedule.specs.Follows.{IsFollowed}
use Rattle.cs_schedule.specs.Rows.{low_watermark}
use Rattle.cs_schedule.specs.Update.{PlansOf, applied}
use Rattle.cs_book.specs.declared.lease.Lease.{Lease}
use Rattle.cs_book.specs.Book.{BookState, AreEntriesOf, rows_back}
use Rattle.cs_book.specs.Planned.{is_caught_up}
use Rattle.cs_follow.specs.Own.{AreFollowing}
use Rattle.cs_follow.specs.declared.turn.Turn.{Turn}
use Rattle.cs_follow.specs.declared.turn.Turn.TheVariants as turns

-- how many rows are complete up to a moment
abbrev pub reached : ℕ → List Row → ℕ
reached moment rows = length (filter (λ r. nat_le moment r.through) rows)

-- there is a low watermark of the rows, in a window that ends at e, and it is not below a moment
abbrev pub IsMarked : ℕ → ℕ → List Row → Type 0
IsMarked e moment rows = (mark : ℕ) × (low_watermark e rows ≡ Some mark) × (moment ≤ mark)

-- the low watermark has come to a moment, or at least so many rows have
abbrev pub HasComeTo : ℕ → ℕ → ℕ → List Row → Type 0
HasComeTo e moment turns rows = IsMarked e moment rows ⊎ (turns ≤ reached moment rows)

-- ---- turn by turn

-- one for a row that was tried, in the sum over all
abbrev pub was_tried : Row → ℕ
was_tried r = if nat_le 1 r.tries then 1 else 0

abbrev pub count_tried : List Row → ℕ
count_tried [] = 0
count_tried (r ∷ rows) = was_tried r + count_tried rows

-- there are rows, and each that is not finished is complete up to a moment
pub record AreUpTo (moment : ℕ) (rows : List Row) : Type 0 where
  pub some : rows ≢ []
  pub each : (r : Row) → Contains rows r → r.finished ≡ false → moment ≤ r.through

-- each row that was tried is complete up to a moment; and so are all that are not finished, or so many were tried
pub record IsGettingOn (moment count : ℕ) (rows : List Row) : Type 0 where
  pub reach : (r : Row) → Contains rows r → 1 ≤ r.tries → moment ≤ r.through
  pub enough : AreUpTo moment rows ⊎ (count ≤ count_tried rows)

-- one more where a READ caught up
abbrev pub GetsOn : ℕ → ℕ → Turn → List Row → Type 0
GetsOn moment count (turns.Stops outcome) rows = ⊤
GetsOn moment count turns.CaughtUp rows = IsGettingOn moment (suc count) rows
GetsOn moment count turns.On rows = IsGettingOn moment count rows

-- no row that may be read was tried less often than that of a token
abbrev pub IsFewest : Option (List ℕ) → List Row → Type 0
IsFewest token rows = (t : List ℕ) (r : Row) → token ≡ Some t → Contains rows r → r.token ≡ t → (y : Row) → IsReady rows y → r.tries ≤ y.tries

-- what holds where the link is honest for the stream of the window, and the entries of the book follow its feed
abbrev pub OverHonest : {J O : Type 0} (seen : J → Option (List ℕ)) (text : O → Option (List ℕ)) → Window → Option Feed → Option (Option Read) → BookState J O → Type 0 → Type 0
OverHonest seen text w told present book holds = (f : Feed) (es : List Entry) → IsFollowed f w → told ≡ Some f → IsHonestFor w.stream told present → AreEntriesOf seen text book es → AreFollowing f w es → holds

-- ---- what a batch makes of the rows, tries and all

-- the rows with the entry that is planned, where it makes one, and with the lease given back
pub record IsMovedBy (b : Shown) (lease : Lease) (x : Batch) (caught_up : Bool) (rows : List Row) : Type 0 where
  pub planned : Option Entry
  pub plans : PlansOf b.rows x x.token (Ok planned)
  pub is : rows ≡ rows_back lease.args.token caught_up (applied b.window.start b.rows planned)
  pub ending : is_caught_up x.ending ≡ caught_up

abbrev pub Moves : Shown → Lease → Batch → Turn → List Row → Type 0
Moves b lease x (turns.Stops outcome) rows = ⊤
Moves b lease x turns.CaughtUp rows = IsMovedBy b lease x true rows
Moves b lease x turns.On rows = IsMovedBy b lease x false rows
