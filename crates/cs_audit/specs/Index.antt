-- What is kept of the wanted changes and of the lines so far, by the changes' places; for private clauses.
use Rattle.std.specs.Prelude.{◌≡◌, ◌≢◌, ◌≤◌, ◌<◌, ℕ, List, length, All, Contains, Bool, true, false, Option, None, Some, slice_index_or}
use Rattle.std.specs.List.{AllPairs}
use Rattle.std.specs.List.Sorted.{IsNonDecreasingBy}
use Rattle.std.specs.declared.cmp.Ordering.{Ordering}
use Rattle.std.specs.Ordering.{nat_cmp, ordering_then}
use Rattle.std.specs.Cmp.Lexicographic.{slice_cmp}
use Rattle.std.specs.BTreeMap.{BTreeMap, get}
use Rattle.cs_types.specs.Row.{row_cmp}
use Rattle.cs_types.specs.declared.change.Change.{Change}
use Rattle.cs_types.specs.declared.change.RowName.{RowName}
use Rattle.cs_output.specs.Line.{change_line}
use Rattle.cs_output.specs.declared.reading.Line.{Line}
use Rattle.cs_audit.specs.Audit.{Stands, HasNoOffence, IsExtra, IsOutOfOrder, IsEarly, IsBack, last_watermark}
use Rattle.cs_audit.specs.declared.verdict.Verdict.{Verdict}
use Rattle.cs_audit.specs.declared.verdict.Verdict.TheVariants as verdict
use Rattle.cs_audit.specs.declared.conditions.Name.{Name}
use Rattle.cs_audit.specs.declared.index.Index.{Index}
use Rattle.cs_audit.specs.declared.seen.Seen.{Seen}
use Rattle.cs_audit.specs.declared.seen.Offence.{Offence}
use Rattle.cs_audit.specs.declared.seen.Offence.TheVariants.{Extra, OutOfOrder, WatermarkEarly, WatermarkBack}

-- no two changes have one key
abbrev pub DifferBy : {K : Type 0} → (Change → K) → List Change → Type 0
DifferBy key wanted = AllPairs (λ c d. key c ≢ key d) wanted

-- no two changes have one line
abbrev pub DifferInLines : List Change → Type 0
DifferInLines wanted = DifferBy change_line wanted

-- the map has the place of the key of each of the first n changes, and no other key
pub record ArePlacesBy {K : Type 0} (cmp : K → K → Ordering) (key : Change → K) (places : BTreeMap K ℕ) (wanted : List Change) (n : ℕ) : Type 0 where
  pub has : (p : ℕ) (d : Change) → p < n → get cmp places (key (slice_index_or wanted p d)) ≡ Some p
  pub only : (k : K) (p : ℕ) → get cmp places k ≡ Some p → (p < n) × ((d : Change) → k ≡ key (slice_index_or wanted p d))

-- the map has the place of the line of each of the first n changes
abbrev pub ArePlaces : BTreeMap (List ℕ) ℕ → List Change → ℕ → Type 0
ArePlaces places wanted n = ArePlacesBy (slice_cmp nat_cmp) change_line places wanted n

-- the row and the transaction of a change
abbrev pub name_of : Change → Name
name_of c = record { row = c.row; tx = c.tx }

-- by row, and then by transaction
abbrev pub name_cmp : Name → Name → Ordering
name_cmp a b = ordering_then (row_cmp a.row b.row) (slice_cmp nat_cmp a.tx b.tx)

-- the place of the last of the first n changes that has this row
abbrev pub IsLatest : List Change → ℕ → RowName → Option ℕ → Type 0
IsLatest wanted n row None = (q : ℕ) (d : Change) → q < n → (slice_index_or wanted q d).row ≢ row
IsLatest wanted n row (Some q) =
    (q < n) × ((d : Change) → (slice_index_or wanted q d).row ≡ row) × ((r : ℕ) (d : Change) → q < r → r < n → (slice_index_or wanted r d).row ≢ row)

-- the list has, for the place of each of the first n changes, the place before it of a change of its row
pub record ArePrevious (previous : List (Option ℕ)) (wanted : List Change) (n : ℕ) : Type 0 where
  pub count : length previous ≡ n
  pub each : (p : ℕ) (d : Change) → p < n → IsLatest wanted p (slice_index_or wanted p d).row (slice_index_or previous p None)

-- the entries are the stamps and places of the first n changes
pub record AreEntries (entries : List (ℕ × ℕ)) (wanted : List Change) (n : ℕ) : Type 0 where
  pub within : All (λ e. e.1 < n) entries
  pub all : (p : ℕ) (d : Change) → p < n → Contains entries ((slice_index_or wanted p d).stamp, p)

-- what is looked up of the wanted changes
pub record IsIndex (index : Index) (wanted : List Change) : Type 0 where
  pub places : ArePlaces index.places wanted (length wanted)
  pub previous : ArePrevious index.previous.items wanted (length wanted)
  pub entries : AreEntries index.by_stamp.items wanted (length wanted)
  pub in_order : IsNonDecreasingBy (λ (e : ℕ × ℕ). e.0) index.by_stamp.items

-- the flags say which changes stand
pub record AreStanding (stands : List Bool) (before : List Line) (wanted : List Change) : Type 0 where
  pub count : length stands ≡ length wanted
  pub there : (p : ℕ) (d : Change) → p < length wanted → slice_index_or stands p false ≡ true → Stands before (slice_index_or wanted p d)
  pub known : (p : ℕ) (d : Change) → p < length wanted → Stands before (slice_index_or wanted p d) → slice_index_or stands p false ≡ true

-- the first so many entries are those of changes that stand
abbrev pub AreCovered : List Bool → List (ℕ × ℕ) → ℕ → Type 0
AreCovered stands entries n = (k : ℕ) (d : ℕ × ℕ) → k < n → slice_index_or stands (slice_index_or entries k d).1 false ≡ true

-- what is kept of lines without offence
pub record IsKept (seen : Seen) (index : Index) (before : List Line) (wanted : List Change) (end : ℕ) : Type 0 where
  pub right : HasNoOffence before wanted end
  pub standing : AreStanding seen.stands.items before wanted
  pub covered : AreCovered seen.stands.items index.by_stamp.items seen.covered
  pub last : seen.last ≡ last_watermark before

-- the line is an offence of this kind
abbrev pub IsOffence : Offence → List Line → List Change → ℕ → Line → Type 0
IsOffence Extra before wanted end line = IsExtra before wanted end line
IsOffence OutOfOrder before wanted end line = IsOutOfOrder before wanted end line
IsOffence (WatermarkEarly p) before wanted end line = (p < length wanted) × ((d : Change) → IsEarly (slice_index_or wanted p d) before wanted end line)
IsOffence WatermarkBack before wanted end line = IsBack before wanted end line

-- the place is the first of a change up to a moment that does not stand
pub record IsFirstAbsent (stands : List Bool) (wanted : List Change) (at p : ℕ) : Type 0 where
  pub within : p < length wanted
  pub absent : slice_index_or stands p false ≡ false
  pub up_to : (d : Change) → (slice_index_or wanted p d).stamp ≤ at
  pub first : (q : ℕ) (d : Change) → q < p → (slice_index_or wanted q d).stamp ≤ at → slice_index_or stands q false ≡ true

-- each change up to a moment stands
abbrev pub NoneIsAbsent : List Bool → List Change → ℕ → Type 0
NoneIsAbsent stands wanted at = (p : ℕ) (d : Change) → p < length wanted → (slice_index_or wanted p d).stamp ≤ at → slice_index_or stands p false ≡ true

-- the change at a place does not stand, and the one before it of its row, where there is one, does
abbrev pub IsFree : List Bool → ℕ → Option ℕ → Type 0
IsFree stands p None = slice_index_or stands p false ≡ false
IsFree stands p (Some q) = (slice_index_or stands p false ≡ false) × (slice_index_or stands q false ≡ true)

-- the offence can be told: a missing change is one of the wanted
abbrev pub IsTellable : Offence → List Change → Type 0
IsTellable (WatermarkEarly p) wanted = p < length wanted
IsTellable Extra wanted = Unit {0}
IsTellable OutOfOrder wanted = Unit {0}
IsTellable WatermarkBack wanted = Unit {0}

-- the verdict of an offence at the line with a number
abbrev pub Tells : Offence → List Change → ℕ → Verdict → Type 0
Tells Extra wanted number v = v ≡ verdict.Extra number
Tells OutOfOrder wanted number v = v ≡ verdict.OutOfOrder number
Tells (WatermarkEarly p) wanted number v = (d : Change) → v ≡ verdict.WatermarkEarly number (slice_index_or wanted p d)
Tells WatermarkBack wanted number v = v ≡ verdict.WatermarkBack number
