-- The index of a stream: for each part the places of its changes among what the stream captured, and of its data records among these.
use Rattle.std.specs.Prelude.{◌≡◌, ℕ, suc, ◌+◌, ◌<◌, ◌≤◌, Bool, true, false, cond, List, [], ◌∷◌, ◌++◌, length, flat_map, All}
use Rattle.cs_place.specs.declared.part.Part.{Part}
use Rattle.cs_place.specs.Part.{is_held}
use Rattle.cs_records.specs.declared.captured.Captured.{Captured}
use Rattle.cs_link.specs.Feed.{place_of}
use Rattle.cs_steps.specs.declared.places.RecordPlace.{RecordPlace}
use Rattle.cs_steps.specs.Places.{record_at}
use Rattle.cs_steps.specs.Records.{held, groups, Count, count_of, first_sequence, data_records}

-- the places of the changes that a part holds, where the first change has this place
abbrev pub places_held : Part → ℕ → List Captured → List ℕ
places_held part k [] = []
places_held part k (c ∷ cs) = cond (is_held part (place_of c.change.row) c.change.stamp) (k ∷ places_held part (suc k) cs) (places_held part (suc k) cs)

-- the place of the record of a group, before it is known what its transaction has
abbrev pub draft_of : ℕ → List Captured → List RecordPlace
draft_of first [] = []
draft_of first (c ∷ cs) = record { stamp = c.change.stamp; first = first; count = length (c ∷ cs); sequence = 0; is_last = false; records_in_tx = 0; parts_in_tx = 0 } ∷ []

abbrev pub drafts : ℕ → List (List Captured) → List RecordPlace
drafts first [] = []
drafts first (g ∷ gs) = draft_of first g ++ drafts (first + length g) gs

abbrev pub is_end : List RecordPlace → Bool
is_end [] = true
is_end (r ∷ rs) = false

-- the same when that is known: sequences go up by one, and the last is marked
abbrev pub finished : Count → ℕ → List RecordPlace → List RecordPlace
finished count sequence [] = []
finished count sequence (r ∷ rs) = record { stamp = r.stamp; first = r.first; count = r.count; sequence = sequence; is_last = is_end rs; records_in_tx = count.records; parts_in_tx = count.parts } ∷ finished count (suc sequence) rs

-- the places of the records of a transaction in a part
abbrev pub tx_places : List Part → Part → ℕ → List Captured → List RecordPlace
tx_places parts part first tx = finished (count_of parts tx) (first_sequence parts tx part) (drafts first (groups (held part tx)))

-- and of transactions, one behind another
abbrev pub record_places : List Part → Part → ℕ → List (List Captured) → List RecordPlace
record_places parts part first [] = []
record_places parts part first (tx ∷ txs) = tx_places parts part first tx ++ record_places parts part (first + length (held part tx)) txs

-- places of changes and of records are those of a part: the records at these places are its data records
pub record IsIndexOf (parts : List Part) (part : Part) (items : List Captured) (changes : List ℕ) (places : List RecordPlace) : Type 0 where
  pub records : flat_map (record_at items changes) places ≡ data_records parts part items
  -- each record has a change, among those of the part
  pub some : All (λ p. 0 < p.count) places
  pub within : All (λ p. p.first + p.count ≤ length changes) places
  -- and these stand among what was captured
  pub there : All (λ k. k < length items) changes
