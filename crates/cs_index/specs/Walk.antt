-- What is kept while the index of a stream is made by one walk over a history.
use Rattle.std.specs.Prelude.{◌≡◌, ◌≤◌, ◌<◌, ◌+◌, ℕ, Bool, true, false, nat_lt, List, [], ◌∷◌, ◌++◌, length, map, filter, sum_by, Option, None, Some, All, Contains, slice_index_or, slice_set, slice_get, option_copied, bytes_eq}
use Rattle.std.specs.Cmp.Lexicographic.{slice_cmp}
use Rattle.std.specs.List.Sorted.{IsPermutation, IsSortedByKey}
use Rattle.std.specs.Ordering.{nat_cmp}
use Rattle.cs_place.specs.declared.place.Place.{Place}
use Rattle.cs_place.specs.Part.{IsBelowHigh}
use Rattle.cs_partitions.specs.Views.{IsHolder}
use Rattle.cs_place.specs.declared.part.Part.{Part}
use Rattle.cs_records.specs.declared.captured.Captured.{Captured}
use Rattle.cs_schema.specs.declared.types.Stream.{Stream}
use Rattle.cs_schema.specs.declared.types.Table.{Table}
use Rattle.cs_txn.specs.declared.txn.Modification.{Modification}
use Rattle.cs_steps.specs.declared.places.RecordPlace.{RecordPlace}
use Rattle.cs_link.specs.Feed.{place_of}
use Rattle.cs_steps.specs.Captures.{captured_since, captured_items}
use Rattle.cs_steps.specs.Cursor.{IsAt}
use Rattle.cs_steps.specs.Cutting.{joined}
use Rattle.cs_steps.specs.Index.{is_end}
use Rattle.cs_steps.specs.Lines.{Line, IsLine, no_line, with_change, with_end}
use Rattle.cs_steps.specs.Records.{Count, records_of, transactions}
use Rattle.cs_index.specs.declared.line.Totals.{Totals}
use Rattle.cs_index.specs.declared.touched.Touched.{Touched}
use Rattle.cs_index.specs.declared.types.PartIndex.{PartIndex}
use Rattle.cs_index.specs.declared.walk.Walk.{Walk}
use Rattle.cs_index.specs.Index.{captured_at}

abbrev pub count_in : Totals → Count
count_in totals = record { records = totals.records; parts = totals.parts }

-- the place of a record when it is known what its transaction has
abbrev pub finished_at : Count → ℕ → Bool → RecordPlace → RecordPlace
finished_at count sequence last r = record { stamp = r.stamp; first = r.first; count = r.count; sequence = sequence; is_last = last; records_in_tx = count.records; parts_in_tx = count.parts }

-- the index of a part of which no transaction is under way
abbrev pub index_of : Line → PartIndex
index_of line = record { changes = line.changes; records = line.records }

-- the line of the part at an index
abbrev pub at_index : List Line → ℕ → Line
at_index lines k = slice_index_or lines k no_line

-- how many records of the transaction under way it has
abbrev pub opened_by : List Line → Touched → ℕ
opened_by lines t = length (at_index lines t.index).opened

-- the lines when these parts have ended the transaction, one behind another
abbrev pub ended_all : Count → ℕ → List Touched → List Line → List Line
ended_all count sequence [] lines = lines
ended_all count sequence (t ∷ ts) lines = ended_all count (sequence + opened_by lines t) ts (slice_set lines t.index (with_end (at_index lines t.index) count sequence))

-- a part more was touched
pub record IsAdded (parts : List Part) (index : ℕ) (old new : List Touched) : Type 0 where
  pub added : Touched
  pub at : added.index ≡ index
  pub part : IsAt parts index added.part.now
  pub behind : new ≡ old ++ added ∷ []

-- whether a modification goes on with a transaction that began with another
abbrev pub follows : Option Modification → Modification → Bool
follows None m = false
follows (Some first) m = bytes_eq first.tx m.tx

-- what is kept has a line for each part, and no other part was touched
pub record IsFit (walk : Walk) : Type 0 where
  pub count : length walk.lines.items ≡ length walk.parts.now
  pub inside : All (λ t. t.index < length walk.parts.now) walk.touched.items

-- the parts that were touched ended the transaction, in order of low
pub record AreEnded (touched : List Touched) (old new : List Line) : Type 0 where
  pub order : List Touched
  pub same : IsPermutation touched order
  pub rising : IsSortedByKey (λ t. t.part.now.range.low.bytes) (slice_cmp nat_cmp) order
  pub lines : new ≡ ended_all (record { records = sum_by (opened_by old) touched; parts = length touched }) 0 order old

-- the transaction under way ended, and this one began
pub record HasEnded (old : Walk) (begun : Option Modification) (new : Walk) : Type 0 where
  pub lines : AreEnded old.touched.items old.lines.items new.lines.items
  pub touched : new.touched.items ≡ []
  pub begun_is : option_copied new.begun ≡ begun
  pub parts : new.parts.now ≡ old.parts.now
  pub sources : new.sources ≡ old.sources

-- the part at an index took a change of the transaction under way
pub record IsGiven (old : Walk) (index source : ℕ) (c : Captured) (new : Walk) : Type 0 where
  pub lines : new.lines.items ≡ slice_set old.lines.items index (with_change (at_index old.lines.items index) (length old.sources) c)
  pub stays : is_end (at_index old.lines.items index).opened ≡ false → new.touched.items ≡ old.touched.items
  pub added : is_end (at_index old.lines.items index).opened ≡ true → IsAdded old.parts.now index old.touched.items new.touched.items
  pub begun : option_copied new.begun ≡ option_copied old.begun
  pub parts : new.parts.now ≡ old.parts.now
  pub sources : new.sources ≡ old.sources ++ source ∷ []

-- whether a part has a record of a transaction
abbrev pub has_record : List Captured → Part → Bool
has_record tx part = nat_lt 0 (records_of tx part)

-- the lines of all parts, when some transactions are whole and another is under way
pub record AreLines (parts : List Part) (whole : List (List Captured)) (now : List Captured) (lines : List Line) : Type 0 where
  pub count : length lines ≡ length parts
  pub line : (k : ℕ) (part : Part) (line : Line) → IsAt parts k part → IsAt lines k line → IsLine parts part (joined whole ++ now) whole now line

-- the parts that have a record of the transaction under way, each once
pub record AreTouched (parts : List Part) (now : List Captured) (touched : List Touched) : Type 0 where
  pub each : All (λ t. IsAt parts t.index t.part.now) touched
  pub all : IsPermutation (filter (has_record now) parts) (map (λ t. t.part.now) touched)

-- a captured change is of a modification
pub record IsOf (m : Modification) (c : Captured) : Type 0 where
  pub stamp : c.change.stamp ≡ m.stamp
  pub tx : c.change.tx ≡ m.tx
  pub row : c.change.row ≡ m.row

-- the first change of a transaction is of a modification of this id
abbrev pub Begins : List Captured → Modification → Type 0
Begins [] m = ⊥
Begins (c ∷ cs) m = c.change.tx ≡ m.tx

-- the transaction under way has one stamp, and began with this modification, where there is one
abbrev pub IsUnderWay : List Modification → ℕ → List Captured → Option Modification → Type 0
IsUnderWay ms created now None = now ≡ []
IsUnderWay ms created now (Some m) = Contains ms m × Begins now m × All (λ c. c.change.stamp ≡ m.stamp) now × (created ≤ m.stamp)

-- a transaction, where it has a change
abbrev pub rest : List Captured → List (List Captured)
rest [] = []
rest (c ∷ cs) = (c ∷ cs) ∷ []

-- what is kept when so many modifications of a history were taken
pub record IsWalk (tables : List Table) (stream : Stream) (ms front : List Modification) (walk : Walk) : Type 0 where
  pub whole : List (List Captured)
  pub now : List Captured
  pub fresh : now ≡ [] → whole ≡ []
  pub split : joined whole ++ now ≡ captured_items tables stream front
  pub cut : transactions (joined whole ++ now) ≡ whole ++ rest now
  pub lines : AreLines walk.parts.now whole now walk.lines.items
  pub touched : AreTouched walk.parts.now now walk.touched.items
  pub begun : IsUnderWay ms stream.created now (option_copied walk.begun)
  pub sources : map (captured_at tables stream ms) walk.sources ≡ map Some (captured_items tables stream front)

-- from a moment on no place is in two parts, and each part has its low
pub record AreApart (from : ℕ) (parts : List Part) : Type 0 where
  pub one : (place : Place) (moment i j : ℕ) → from ≤ moment → IsHolder parts place moment i → IsHolder parts place moment j → i ≡ j
  pub ranges : (part : Part) → Contains parts part → IsBelowHigh part.range.low part.range.high

-- the modifications of a transaction have one stamp
abbrev pub HaveOneStamp : List Modification → Type 0
HaveOneStamp ms = (a b : Modification) → Contains ms a → Contains ms b → a.tx ≡ b.tx → a.stamp ≡ b.stamp

-- what a walk rests on: the layout, and the history
pub record HasRules (created : ℕ) (parts : List Part) (ms : List Modification) : Type 0 where
  pub apart : AreApart created parts
  pub stamps : HaveOneStamp ms

-- a modification stands at a place of a history
abbrev pub IsAtPlace : List Modification → ℕ → Modification → Type 0
IsAtPlace ms place m = slice_get ms place ≡ Some m

-- the next modification that a stream captures, with its place in the history and the index of the part that holds it
pub record IsNext (tables : List Table) (stream : Stream) (ms : List Modification) (parts : List Part) (index source : ℕ) (m : Modification) (c : Captured) : Type 0 where
  pub rules : HasRules stream.created parts ms
  pub place : IsAtPlace ms source m
  pub captured : captured_since tables stream m ≡ Some c
  pub holder : IsHolder parts (place_of m.row) m.stamp index
