-- What READs of a stream speak of, and how a READ is answered step by step from the stream's index.
use Rattle.std.specs.Prelude.{◌≡◌, ℕ, ◌+◌, ◌<◌, ◌≤◌, List, [], ◌∷◌, length, flat_map, All, Option, None, Some, Result, Ok, Err, slice_get, IfSome, ⊤}
use Rattle.std.specs.List.Sorted.{IsNonDecreasingBy}
use Rattle.cs_place.specs.declared.part.Part.{Part}
use Rattle.cs_records.specs.declared.captured.Captured.{Captured}
use Rattle.cs_records.specs.declared.records.DataRecord.{DataRecord}
use Rattle.cs_link.specs.declared.reading.Step.{Step}
use Rattle.cs_steps.specs.declared.places.RecordPlace.{RecordPlace}
use Rattle.cs_steps.specs.Cursor.{Source, IsCursor, HaveStamps, steps_left}
use Rattle.cs_steps.specs.Places.{record_at}
use Rattle.cs_steps.specs.Records.{data_records}
use Rattle.cs_read.specs.declared.reading.Reading.{Reading}

-- a stream as READs of it see it: its parts, what it captured, its creation, and for how long its changes are kept
pub record Content : Type 0 where
  pub parts : List Part
  pub items : List Captured
  pub created : ℕ
  pub retention_us : ℕ

-- the data records of a part; none without a part
abbrev pub records_in : Content → Option Part → List DataRecord
records_in c None = []
records_in c (Some part) = data_records c.parts part c.items

abbrev pub part_at : List Part → Option ℕ → Option Part
part_at parts None = None
part_at parts (Some place) = slice_get parts place

-- places of data records, and of their changes, stand for the records
pub record AreRecords (items : List Captured) (all : List DataRecord) (changes : List ℕ) (places : List RecordPlace) : Type 0 where
  pub records : flat_map (record_at items changes) places ≡ all
  pub some : All (λ p. 0 < p.count) places
  pub within : All (λ p. p.first + p.count ≤ length changes) places
  pub there : All (λ k. k < length items) changes
  pub stamps : HaveStamps places all
  pub order : IsNonDecreasingBy (λ p. p.stamp) places

-- what the steps of a READ speak of
abbrev pub source_read : Content → Reading → Source
source_read c r = record { records = records_in c (part_at c.parts r.part); start = r.start; children = r.children }

-- a READ of the stream, as far as it was answered
pub record IsReading (c : Content) (r : Reading) : Type 0 where
  pub part : IfSome r.part (λ place. place < length c.parts)
  pub children : length r.children ≤ 65536
  pub cursor : IsCursor (source_read c r) r.cursor

-- the steps that it is to give still
abbrev pub steps_ahead : Content → Reading → List Step
steps_ahead c r = steps_left (source_read c r) r.cursor

-- what gives the next step: the first of those that were left, or nothing where none was; after want of memory as many are left as before
abbrev pub GivesNext : {E : Type 0} → Result (Option Step) E → List Step → List Step → Type 0
GivesNext (Ok None) before after = (before ≡ []) × (after ≡ [])
GivesNext (Ok (Some step)) before after = before ≡ step ∷ after
GivesNext (Err e) before after = after ≡ before
