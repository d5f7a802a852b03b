-- What holds of the rows of the board and of the changes so far while a feed is followed rightly. This project's own.
use Rattle.std.specs.Prelude.{◌≡◌, ◌≢◌, ◌⊎◌, ◌↔◌, ℕ, suc, ◌-◌, ◌<◌, ◌≤◌, max, Bool, true, false, not, ◌||◌, List, [], ◌∷◌, ◌++◌, map, Some, ◌==◌, nat_le, if◌then◌else◌, bytes_eq, filter, Contains}
use Rattle.std.specs.Ordering.{nat_cmp, is_lt}
use Rattle.std.specs.Cmp.Lexicographic.{slice_cmp}
use Rattle.cs_types.specs.declared.change.Change.{Change}
use Rattle.cs_types.specs.declared.names.Window.{Window}
use Rattle.cs_types.specs.Members.{Pairwise}
use Rattle.cs_place.specs.declared.part.Part.{Part}
use Rattle.cs_place.specs.Part.{Holds, IsBefore}
use Rattle.cs_link.specs.declared.batch.Batch.{Batch}
use Rattle.cs_link.specs.declared.batch.Ending.{Ending}
use Rattle.cs_link.specs.declared.batch.Ending.TheVariants as endings
use Rattle.cs_link.specs.declared.batch.Known.{Known}
use Rattle.cs_link.specs.declared.batch.NewChild.{NewChild}
use Rattle.cs_link.specs.declared.batch.Seen.{Seen}
use Rattle.cs_link.specs.declared.feed.Feed.{Feed}
use Rattle.cs_link.specs.Batch.{limit, is_known, IsFaithfulPart, IsFaithfulFirst}
use Rattle.cs_link.specs.Feed.{place_of, IsFeed}
use Rattle.cs_schedule.specs.declared.entry.Entry.{Entry}
use Rattle.cs_schedule.specs.declared.entry.Entry.TheVariants.{Begin, Opened, Progress, Finished}
use Rattle.cs_schedule.specs.declared.row.Row.{Row}
use Rattle.cs_schedule.specs.Spelling.{IsInFormat}
use Rattle.cs_schedule.specs.Rows.{changes, changes_in, rows_of, Folds, next_of, seen_at}

-- what a row knows
abbrev pub known_by : Row → Known
known_by r = record { through = r.through; seen = r.seen }

-- the part as a row begins with it: from the window's start on and without parents where it is live then
abbrev pub birth_of : ℕ → Part → NewChild
birth_of s q = record { token = q.token; parents = if nat_le q.from s then [] else q.parents; start = max s q.from }

abbrev pub IsRowOf : ℕ → Part → Row → Type 0
IsRowOf s q r = (r.token ≡ q.token) × (r.parents ≡ (birth_of s q).parents) × (r.start ≡ max s q.from)

abbrev pub HasRow : List Row → List ℕ → Type 0
HasRow rows t = (r : Row) × Contains rows r × (r.token ≡ t)

abbrev pub HasEnded : List Row → List ℕ → Type 0
HasEnded rows t = (r : Row) × Contains rows r × (r.token ≡ t) × (r.finished ≡ true)

-- something of the row was read
abbrev pub HasBegun : Row → Type 0
HasBegun r = (r.finished ≡ true) ⊎ ((r.seen ≢ []) ⊎ (r.start < next_of r))

-- the changes of one row of the database stand in the order of their stamps, each once
abbrev pub InOrder : List Change → Type 0
InOrder cs = Pairwise (λ c d. c.row ≡ d.row → c.stamp < d.stamp) cs

-- rows and changes so far that follow the feed f in a window from s to e
pub record IsRight (f : Feed) (s e : ℕ) (rows : List Row) (done : List Change) : Type 0 where
  -- no token has two rows
  pub single : (a b : Row) → Contains rows a → Contains rows b → a.token ≡ b.token → a ≡ b
  -- each row is that of a part that meets the window
  pub known : (r : Row) → Contains rows r → (q : Part) × Contains f.parts q × (q.from ≤ e) × IsBefore s q.until × IsRowOf s q r
  -- where there is a row, each part that is live at the window's start has one
  pub opened : (r : Row) → Contains rows r → (q : Part) → Contains f.parts q → q.from ≤ s → IsBefore s q.until → HasRow rows q.token
  -- where a row is finished whose part ends in the window, each part that names it as a parent has one
  pub children : (q c : Part) (u : ℕ) → Contains f.parts q → HasEnded rows q.token → q.until ≡ Some u → u ≤ e → Contains f.parts c → Contains c.parents q.token → HasRow rows c.token
  -- where something of a row was read, its parents are finished
  pub parents : (r : Row) → Contains rows r → HasBegun r → (t : List ℕ) → Contains r.parents t → HasEnded rows t
  -- what is complete is neither past the part nor past the window, and of a finished row it is all of both
  pub bound : (r : Row) (q : Part) → Contains rows r → Contains f.parts q → r.token ≡ q.token → (r.start ≤ next_of r) × (next_of r ≤ limit e q.until) × (r.finished ≡ true → next_of r ≡ limit e q.until)
  -- the changes so far are those that the rows know
  pub order : InOrder done
  pub wanted : (c : Change) → Contains done c → (r : Row) × Contains rows r × ((q : Part) × Contains f.parts q × (r.token ≡ q.token) × Holds q (place_of c.row) c.stamp) × Contains f.wanted c × (r.start ≤ c.stamp) × (c.stamp ≤ e) × (is_known (known_by r) c ≡ true)
  pub whole : (r : Row) (q : Part) → Contains rows r → Contains f.parts q → r.token ≡ q.token → (c : Change) → Contains f.wanted c → Holds q (place_of c.row) c.stamp → r.start ≤ c.stamp → is_known (known_by r) c ≡ true → Contains done c

-- a journal's entries follow the feed: they fold, and the rows and the changes that they make are right
pub record IsConsistentNow (f : Feed) (w : Window) (es : List Entry) : Type 0 where
  pub folds : Folds w es
  pub right : IsRight f w.start w.end (rows_of w.start es) (changes es)

-- and so does each beginning of them
abbrev pub IsConsistent : Feed → Window → List Entry → Type 0
IsConsistent f w es = (xs ys : List Entry) → xs ++ ys ≡ es → IsConsistentNow f w xs

-- ---- a step

-- the row of a part that was not read
abbrev pub born : NewChild → Row
born b = record { token = b.token; parents = b.parents; start = b.start; through = b.start - 1; seen = []; finished = false; leased = false; tries = 0 }

-- the first has all of the second
abbrev pub Covers : Known → Known → Type 0
Covers a b = (b.through < a.through) ⊎ ((b.through ≡ a.through) × ((n : Seen) → Contains b.seen n → Contains a.seen n))

abbrev pub is_end : Ending → Bool
is_end endings.Finished = true
is_end (endings.CaughtUp at) = false
is_end endings.Cut = false
is_end endings.Full = false

-- what a batch has that the row has not
abbrev pub news : Row → Batch → List Change
news r b = filter (λ c. not (is_known (known_by r) c)) b.changes

abbrev pub through_by : Row → Batch → ℕ
through_by r b = max b.through r.through

-- the entry of a batch: what the row has is dropped
abbrev pub entry_by : Row → Batch → Entry
entry_by r b =
    if is_end b.ending
    then Finished r.token (through_by r b) (news r b) b.children
    else Progress r.token (through_by r b) (news r b)

-- a row after an entry of a token: the seen changes grow where the next moment stays, and are new where it rises
abbrev pub advanced : List ℕ → ℕ → List Change → Bool → Row → Row
advanced t n cs fin r =
    if bytes_eq t r.token
    then record { token = r.token; parents = r.parents; start = r.start; through = n; seen = (if next_of r == suc n then r.seen else []) ++ seen_at (suc n) cs; finished = r.finished || fin; leased = r.leased; tries = r.tries }
    else r

abbrev pub has_row : List ℕ → List Row → Bool
has_row t [] = false
has_row t (r ∷ rows) = bytes_eq r.token t || has_row t rows

-- the rows with one more, in the order of their tokens
abbrev pub put_row : Row → List Row → List Row
put_row r [] = r ∷ []
put_row r (a ∷ rows) = if is_lt (slice_cmp nat_cmp r.token a.token) then r ∷ a ∷ rows else a ∷ put_row r rows

abbrev pub put_rows : List Row → List Row → List Row
put_rows [] rows = rows
put_rows (r ∷ news) rows = put_rows news (put_row r rows)

-- the children that have no row
abbrev pub rowless : List Row → List NewChild → List NewChild
rowless rows xs = filter (λ x. not (has_row x.token rows)) xs

-- the rows after one more entry, in a window from s on
abbrev pub apply : ℕ → List Row → Entry → List Row
apply s rows (Begin w) = rows
apply s rows (Opened tokens) = put_rows (map (λ t. born (record { token = t; parents = []; start = s })) tokens) rows
apply s rows (Progress t n cs) = map (advanced t n cs false) rows
apply s rows (Finished t n cs xs) = put_rows (map born (rowless rows xs)) (map (advanced t n cs true) rows)

-- a faithful batch of a row that is not finished, whose parents are and which has what the batch was read with
pub record MayMove (f : Feed) (s e : ℕ) (rows : List Row) (r : Row) (q : Part) (k : Known) (b : Batch) : Type 0 where
  pub there : Contains rows r
  pub part : Contains f.parts q
  pub its : r.token ≡ q.token
  pub unfinished : r.finished ≡ false
  pub parents : (t : List ℕ) → Contains r.parents t → HasEnded rows t
  pub batch : IsFaithfulPart f e k q b
  pub covers : Covers (known_by r) k

-- a row may be read: it is not finished, and its parents are finished rows
pub record IsReady (rows : List Row) (r : Row) : Type 0 where
  pub there : Contains rows r
  pub unfinished : r.finished ≡ false
  pub parents : (t : List ℕ) → Contains r.parents t → HasEnded rows t

-- ---- what is proved of it

-- the entry of a faithful batch keeps rows and changes right
abbrev pub EntryKeepsRight : Type 0
EntryKeepsRight = (f : Feed) (s e : ℕ) (rows : List Row) (done : List Change) (r : Row) (q : Part) (k : Known) (b : Batch) → IsFeed f → 1 ≤ s → f.created ≤ s → s ≤ e → IsRight f s e rows done → MayMove f s e rows r q k b → IsRight f s e (apply s rows (entry_by r b)) (done ++ changes_in (entry_by r b))

-- while a row is not finished, one may be read
abbrev pub NoOrphan : Type 0
NoOrphan = (f : Feed) (s e : ℕ) (rows : List Row) (done : List Change) (r : Row) → IsFeed f → f.created ≤ s → IsRight f s e rows done → Contains rows r → r.finished ≡ false → (a : Row) × IsReady rows a

-- the list of no entry is consistent, and so is that of the window's Begin
abbrev pub BeginIsConsistent : Type 0
BeginIsConsistent = (f : Feed) (w : Window) → IsConsistent f w [] × IsConsistent f w (Begin w ∷ [])

-- the entry that opens a window with a faithful batch keeps a journal consistent that has no rows
abbrev pub OpeningKeepsConsistent : Type 0
OpeningKeepsConsistent = (f : Feed) (w : Window) (es : List Entry) (x : Entry) (b : Batch) → IsFeed f → 1 ≤ w.start → f.created ≤ w.start → w.start ≤ w.end → IsConsistent f w es → ((y : Entry) → Contains es y → IsInFormat y) → Contains es x → rows_of w.start es ≡ [] → IsFaithfulFirst f b → b.start ≡ w.start → (tokens : List (List ℕ)) → ((t : List ℕ) → Contains tokens t ↔ ((y : NewChild) × Contains b.children y × (y.token ≡ t))) → IsConsistent f w (es ++ Opened tokens ∷ [])

-- the planned entry of a faithful batch keeps a journal consistent
abbrev pub EntryKeepsConsistent : Type 0
EntryKeepsConsistent = (f : Feed) (w : Window) (es : List Entry) (r : Row) (q : Part) (k : Known) (b : Batch) → IsFeed f → 1 ≤ w.start → f.created ≤ w.start → w.start ≤ w.end → IsConsistent f w es → ((y : Entry) → Contains es y → IsInFormat y) → IsInFormat (entry_by r b) → MayMove f w.start w.end (rows_of w.start es) r q k b → IsConsistent f w (es ++ entry_by r b ∷ [])

-- the rows that are collected from a list of entries are those that the entries make one after another
abbrev pub RowsAreApplied : Type 0
RowsAreApplied = (w : Window) (es : List Entry) (x : Entry) → 1 ≤ w.start → Folds w (es ++ x ∷ []) → ((y : Entry) → Contains (es ++ x ∷ []) y → IsInFormat y) → (r : Row) → Contains (rows_of w.start (es ++ x ∷ [])) r ↔ Contains (apply w.start (rows_of w.start es) x) r
