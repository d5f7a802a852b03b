-- How the index of a part grows while it is made: by one change after another, and by the end of a transaction.
use Rattle.std.specs.Prelude.{◌≡◌, ℕ, suc, Bool, true, false, ◌&&◌, cond, nat_lt, List, [], ◌∷◌, ◌++◌, length, Option, None, Some}
use Rattle.cs_place.specs.declared.part.Part.{Part}
use Rattle.cs_records.specs.declared.captured.Captured.{Captured}
use Rattle.cs_steps.specs.declared.places.RecordPlace.{RecordPlace}
use Rattle.cs_place.specs.Part.{is_held}
use Rattle.cs_link.specs.Feed.{place_of}
use Rattle.std.specs.Str.{bytes_eq}
use Rattle.cs_steps.specs.Cutting.{first_is, joined}
use Rattle.cs_steps.specs.Index.{places_held, draft_of, drafts, finished, record_places, IsIndexOf}
use Rattle.cs_steps.specs.Records.{held, transactions, is_alike, groups, Count, count_of, first_sequence}

abbrev pub last_count : List RecordPlace → ℕ
last_count [] = 0
last_count (r ∷ []) = r.count
last_count (r ∷ s ∷ rs) = last_count (s ∷ rs)

-- the last place with one change more
abbrev pub one_more : List RecordPlace → List RecordPlace
one_more [] = []
one_more (r ∷ []) = record { stamp = r.stamp; first = r.first; count = suc r.count; sequence = r.sequence; is_last = r.is_last; records_in_tx = r.records_in_tx; parts_in_tx = r.parts_in_tx } ∷ []
one_more (r ∷ s ∷ rs) = r ∷ one_more (s ∷ rs)

-- whether a change joins the last record, of which the first change is given
abbrev pub goes_on : Option Captured → List RecordPlace → Captured → Bool
goes_on None records c = false
goes_on (Some first) records c = is_alike first c && nat_lt (last_count records) 32

-- the records with one change more, which has this place among those of the part
abbrev pub grown : Bool → List RecordPlace → ℕ → Captured → List RecordPlace
grown joins records n c = cond joins (one_more records) (records ++ draft_of n (c ∷ []))

-- and the first change of the last record then
abbrev pub first_behind : Bool → Option Captured → Captured → Option Captured
first_behind joins first c = cond joins first (Some c)

-- the first change of the last group is this, where there is a group
abbrev pub Opens : List (List Captured) → Option Captured → Type 0
Opens gs None = gs ≡ []
Opens gs (Some c) = (front : List (List Captured)) × (more : List Captured) × (gs ≡ front ++ (c ∷ more) ∷ [])

-- what an index has of a part while it is made: the places of its changes, those of the records of the transactions that are whole, those of the one that is not, and the first change of the last one of these
pub record Line : Type 0 where
  pub changes : List ℕ
  pub records : List RecordPlace
  pub opened : List RecordPlace
  pub first : Option Captured

-- this of a part, when some transactions are whole and another is not
pub record IsLine (parts : List Part) (part : Part) (items : List Captured) (done : List (List Captured)) (now : List Captured) (line : Line) : Type 0 where
  pub changes : line.changes ≡ places_held part 0 items
  pub records : line.records ≡ record_places parts part 0 done
  pub opened : line.opened ≡ drafts (length (held part (joined done))) (groups (held part now))
  pub first : Opens (groups (held part now)) line.first

abbrev pub no_line : Line
no_line = record { changes = []; records = []; opened = []; first = None }

-- with a change that the part has, which is the next that was captured
abbrev pub with_change : Line → ℕ → Captured → Line
with_change line place c = record {
  changes = line.changes ++ place ∷ [];
  records = line.records;
  opened = grown (goes_on line.first line.opened c) line.opened (length line.changes) c;
  first = first_behind (goes_on line.first line.opened c) line.first c;
}

-- with the transaction whole, of which the totals and the part's first sequence are given
abbrev pub with_end : Line → Count → ℕ → Line
with_end line count sequence = record { changes = line.changes; records = line.records ++ finished count sequence line.opened; opened = []; first = None }

-- nothing is the index of each part before the first change
abbrev pub StartsEmpty : Type 0
StartsEmpty = (parts : List Part) (part : Part) → IsLine parts part [] [] [] no_line

-- a change more: the part that holds it takes it, the others stay as they are
abbrev pub TakesHeld : Type 0
TakesHeld = (parts : List Part) (part : Part) (done : List (List Captured)) (now : List Captured) (c : Captured) (line : Line) → IsLine parts part (joined done ++ now) done now line
    → is_held part (place_of c.change.row) c.change.stamp ≡ true → IsLine parts part ((joined done ++ now) ++ c ∷ []) done (now ++ c ∷ []) (with_change line (length (joined done ++ now)) c)

abbrev pub PassesOther : Type 0
PassesOther = (parts : List Part) (part : Part) (done : List (List Captured)) (now : List Captured) (c : Captured) (line : Line) → IsLine parts part (joined done ++ now) done now line
    → is_held part (place_of c.change.row) c.change.stamp ≡ false → IsLine parts part ((joined done ++ now) ++ c ∷ []) done (now ++ c ∷ []) line

-- the end of a transaction
abbrev pub EndsWhole : Type 0
EndsWhole = (parts : List Part) (part : Part) (done : List (List Captured)) (now : List Captured) (line : Line) → IsLine parts part (joined done ++ now) done now line
    → IsLine parts part (joined done ++ now) (done ++ now ∷ []) [] (with_end line (count_of parts now) (first_sequence parts now part))

-- what a change more does to the list of transactions: it goes on with the last one where it has its id, and else begins another
abbrev pub goes_on_with : List Captured → Captured → Bool
goes_on_with tx c = first_is (λ a. bytes_eq a.change.tx c.change.tx) tx

abbrev pub CutsTransactions : Type 0
CutsTransactions = (items : List Captured) (done : List (List Captured)) (now : List Captured) (c : Captured) → transactions items ≡ done ++ now ∷ [] → transactions (items ++ c ∷ []) ≡ done ++ cond (goes_on_with now c) ((now ++ c ∷ []) ∷ []) (now ∷ (c ∷ []) ∷ [])

-- when all transactions are whole it is the index of the part
abbrev pub IsWhole : Type 0
IsWhole = (parts : List Part) (part : Part) (items : List Captured) (line : Line) → IsLine parts part items (transactions items) [] line → IsIndexOf parts part items line.changes line.records
