-- The index of a change stream over the history of its database: places and numbers alone.
use Rattle.std.specs.Prelude.{◌≡◌, ℕ, List, length, map, Option, None, Some, slice_get}
use Rattle.std.specs.List.Sorted.{IsNonDecreasingBy}
use Rattle.cs_place.specs.declared.part.Part.{Part}
use Rattle.cs_records.specs.declared.captured.Captured.{Captured}
use Rattle.cs_schema.specs.declared.types.Stream.{Stream}
use Rattle.cs_schema.specs.declared.types.Table.{Table}
use Rattle.cs_txn.specs.declared.txn.Modification.{Modification}
use Rattle.cs_steps.specs.Captures.{captured_since, captured_items}
use Rattle.cs_steps.specs.Cursor.{IsAt, HaveStamps}
use Rattle.cs_steps.specs.Index.{IsIndexOf}
use Rattle.cs_steps.specs.Records.{data_records}
use Rattle.cs_index.specs.declared.types.PartIndex.{PartIndex}
use Rattle.cs_index.specs.declared.types.StreamIndex.{StreamIndex}

-- what a stream captures of a modification, where there is one
abbrev pub captured_of : List Table → Stream → Option Modification → Option Captured
captured_of tables stream None = None
captured_of tables stream (Some m) = captured_since tables stream m

-- what it captures of the modification at a place of a history
abbrev pub captured_at : List Table → Stream → List Modification → ℕ → Option Captured
captured_at tables stream ms place = captured_of tables stream (slice_get ms place)

-- the index of a part: its records stand at their places, with their stamps, which do not fall
pub record IsPartIndex (parts : List Part) (part : Part) (items : List Captured) (index : PartIndex) : Type 0 where
  pub places : IsIndexOf parts part items index.changes index.records
  pub stamps : HaveStamps index.records (data_records parts part items)
  pub order : IsNonDecreasingBy (λ p. p.stamp) index.records

-- the index of a stream: the modifications that it captures of a history from its creation on, by their places and in their order, and the index of each part, in the order of the parts
pub record IsStreamIndex (tables : List Table) (stream : Stream) (parts : List Part) (ms : List Modification) (index : StreamIndex) : Type 0 where
  pub captured : map (captured_at tables stream ms) index.sources ≡ map Some (captured_items tables stream ms)
  pub count : length index.parts ≡ length parts
  pub part : (k : ℕ) (part : Part) (line : PartIndex) → IsAt parts k part → IsAt index.parts k line → IsPartIndex parts part (captured_items tables stream ms) line
