-- What holds of the room of a follower's journal: it is enough, each entry lowers what is expected by its own bytes, and no READ starts below the least start. This project's own.
use Rattle.std.specs.Prelude.{◌≡◌, ◌⊎◌, ℕ, ◌+◌, ◌≤◌, false, ⊤, List, [], ◌∷◌, ◌++◌, length, Option, Some, None, Ok, Contains}
use Rattle.cs_types.specs.declared.change.Change.{Change}
use Rattle.cs_types.specs.declared.names.Window.{Window}
use Rattle.cs_link.specs.declared.batch.Batch.{Batch}
use Rattle.cs_link.specs.declared.batch.Ending.{Ending}
use Rattle.cs_link.specs.declared.feed.Feed.{Feed}
use Rattle.cs_link.specs.Batch.{IsFaithful}
use Rattle.cs_link.specs.Pace.{BringsOn}
use Rattle.cs_schedule.specs.declared.entry.Entry.{Entry}
use Rattle.cs_schedule.specs.declared.entry.Entry.TheVariants.{Finished}
use Rattle.cs_schedule.specs.declared.row.Row.{Row}
use Rattle.cs_schedule.specs.Board.{Shown, row_of}
use Rattle.cs_schedule.specs.Consistent.{IsConsistent, known_by, news}
use Rattle.cs_schedule.specs.Follows.{IsBoardOf, IsFollowed, MayCome}
use Rattle.cs_schedule.specs.Rows.{rows_of}
use Rattle.cs_schedule.specs.Spelling.{IsInFormat, payload}
use Rattle.cs_schedule.specs.Update.{PlansOf}
use Rattle.cs_room.specs.Room.{pace, entry_frame, room, expected_of, lease_start, low}

-- a batch brings a row on: it ends it, has a change that the row has not, or so much more is complete with it
abbrev pub BringsRowOn : Row → Batch → Type 0
BringsRowOn r b = (b.ending ≡ Ending.Finished) ⊎ (((c : Change) × Contains (news r b) c) ⊎ (r.through + pace ≤ b.through))

-- the batch of the parts at the window's start always does, another one where it brings its row on
abbrev pub BringsRowsOnOf : List Row → Batch → Option (List ℕ) → Type 0
BringsRowsOnOf rows b None = ⊤
BringsRowsOnOf rows b (Some t) = (r : Row) × (row_of rows t ≡ Some r) × BringsRowOn r b

abbrev pub BringsRowsOn : List Row → Batch → Type 0
BringsRowsOn rows b = BringsRowsOnOf rows b b.token

-- the batch may come over a board of consistent entries
pub record IsComing (f : Feed) (es : List Entry) (b : Shown) (x : Batch) : Type 0 where
  pub followed : IsFollowed f b.window
  pub board : IsBoardOf es b
  pub consistent : IsConsistent f b.window es
  pub comes : MayCome f b x

-- the entry is the one that is planned of such a batch
pub record IsPlanned (f : Feed) (es : List Entry) (b : Shown) (x : Batch) (e : Entry) : Type 0 where
  pub coming : IsComing f es b x
  pub plans : PlansOf b.rows x x.token (Ok (Some e))
  pub in_format : IsInFormat e

-- ---- the room

-- no more is expected behind consistent entries than there is room for
abbrev pub RoomIsEnough : Type 0
RoomIsEnough = (f : Feed) (w : Window) (es : List Entry) → IsFollowed f w → IsConsistent f w es → expected_of f w es ≤ room f w

-- the frame is that of an end whose token is as long as one may be
abbrev pub FrameIsExact : Type 0
FrameIsExact = (t : List ℕ) (n : ℕ) → length t ≡ 1024 → 5 + length (payload (Finished t n [] [])) ≡ entry_frame

-- ---- an entry more

-- a faithful batch for one who knows what a row knows brings the row on where it brings its part on by the pace
abbrev pub ReadBringsOn : Type 0
ReadBringsOn = (f : Feed) (rows : List Row) (e : ℕ) (r : Row) (t : List ℕ) (x : Batch) → x.token ≡ Some t → row_of rows t ≡ Some r → IsFaithful f e (known_by r) x → BringsOn pace (known_by r) x → BringsRowsOn rows x

-- and so does the batch of the parts at the window's start
abbrev pub FirstBringsOn : Type 0
FirstBringsOn = (rows : List Row) (x : Batch) → x.token ≡ None → BringsRowsOn rows x

-- a batch that brings rows on always makes an entry, where it is not refused
abbrev pub SomethingIsPlanned : Type 0
SomethingIsPlanned = (rows : List Row) (x : Batch) → BringsRowsOn rows x → PlansOf rows x x.token (Ok None) → ⊥

-- the planned entry of a batch that brings rows on lowers what is expected by what it takes in the journal: its length, its gate and its payload
abbrev pub EntryLowers : Type 0
EntryLowers = (f : Feed) (es : List Entry) (b : Shown) (x : Batch) (e : Entry) → IsPlanned f es b x e → BringsRowsOn b.rows x → expected_of f b.window (es ++ e ∷ []) + (5 + length (payload e)) ≤ expected_of f b.window es

-- in a journal of at most so many bytes, with its closed gate at this place: the entry fits in, with the gate that closes it, and what is expected then fits in behind it
pub record IsCarried (f : Feed) (w : Window) (es : List Entry) (e : Entry) (gate limit : ℕ) : Type 0 where
  pub fits : gate + (6 + length (payload e)) ≤ limit
  pub goes_on : (gate + (5 + length (payload e))) + expected_of f w (es ++ e ∷ []) ≤ limit

-- where what is expected fits in behind the closed gate, the planned entry of a batch that brings rows on does, and it stays so
abbrev pub EntryIsCarried : Type 0
EntryIsCarried = (f : Feed) (es : List Entry) (b : Shown) (x : Batch) (e : Entry) (gate limit : ℕ) → IsPlanned f es b x e → BringsRowsOn b.rows x → gate + expected_of f b.window es ≤ limit → IsCarried f b.window es e gate limit

-- ---- the least start

-- the least start of a board's rows is that of the rows of its entries
abbrev pub LowIsOfEntries : Type 0
LowIsOfEntries = (es : List Entry) (b : Shown) → IsBoardOf es b → low b.window b.rows ≡ low b.window (rows_of b.window.start es)

-- it never falls with the planned entry of a batch
abbrev pub LowStays : Type 0
LowStays = (f : Feed) (es : List Entry) (b : Shown) (x : Batch) (e : Entry) → IsPlanned f es b x e → low b.window (rows_of b.window.start es) ≤ low b.window (rows_of b.window.start (es ++ e ∷ []))

-- a READ of a row that is not finished starts at it, or above
abbrev pub DueIsAtLow : Type 0
DueIsAtLow = (w : Window) (rows : List Row) (r : Row) → Contains rows r → r.finished ≡ false → low w rows ≤ lease_start r
