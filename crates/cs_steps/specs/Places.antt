-- Data records by the places of their changes among what a stream captured.
use Rattle.std.specs.Prelude.{◌≡◌, ℕ, ◌+◌, ◌<◌, ◌≤◌, List, length, take, drop, flat_map, All}
use Rattle.cs_records.specs.declared.captured.Captured.{Captured}
use Rattle.cs_records.specs.declared.records.Child.{Child}
use Rattle.cs_records.specs.declared.records.DataRecord.{DataRecord}
use Rattle.cs_steps.specs.declared.places.RecordPlace.{RecordPlace}
use Rattle.cs_steps.specs.Records.{told_as}
use Rattle.cs_steps.specs.Cursor.{Source}

-- what stands at places of a list, in the order of the places
abbrev pub taken_at : {A : Type 0} → List A → List ℕ → List A
taken_at items places = flat_map (λ k. take 1 (drop k items)) places

-- the places of a record's changes, of those of its part
abbrev pub places_of : List ℕ → RecordPlace → List ℕ
places_of changes p = take p.count (drop p.first changes)

-- the record at a place
abbrev pub record_at : List Captured → List ℕ → RecordPlace → List DataRecord
record_at items changes p = told_as (record { records = p.records_in_tx; parts = p.parts_in_tx }) p.sequence p.is_last (taken_at items (places_of changes p))

-- places of data records and of their changes, and children, that stand for what an answer speaks of
pub record StandFor (s : Source) (items : List Captured) (changes : List ℕ) (places : List RecordPlace) (start : ℕ) (children : List Child) : Type 0 where
  pub records : flat_map (record_at items changes) places ≡ s.records
  -- each record has a change, among those of the part
  pub some : All (λ p. 0 < p.count) places
  pub within : All (λ p. p.first + p.count ≤ length changes) places
  -- and these stand among what was captured
  pub there : All (λ k. k < length items) changes
  pub start_is : s.start ≡ start
  pub children_are : s.children ≡ children
  pub few : length children ≤ 65536
