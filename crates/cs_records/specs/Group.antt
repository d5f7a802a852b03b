-- How the captured changes of a transaction form data records, as this project groups them: neighbours that tell of the same columns share one, 32 at most.
use Rattle.std.specs.Prelude.{◌≡◌, ◌↔◌, ◌+◌, ◌<◌, ◌≤◌, ℕ, suc, List, [], ◌∷◌, ◌++◌, map, length, get_or, Bool, true, false, ◌||◌, IsTrue, All}
use Rattle.std.specs.List.{IsDistinct, flat_map}
use Rattle.std.specs.List.Sorted.{IsStrictlyIncreasing}
use Rattle.cs_types.specs.Names.{columns_of, is_among}
use Rattle.cs_types.specs.Row.{same_row}
use Rattle.cs_records.specs.Told.{change_of}
use Rattle.cs_records.specs.declared.captured.Captured.{Captured}
use Rattle.cs_records.specs.declared.records.DataRecord.{DataRecord}
use Rattle.cs_records.specs.declared.records.Mod.{Mod}

-- two captured changes are of one transaction, are captured in one way, and tell the same of what they share
pub record Agree (a b : Captured) : Type 0 where
  pub stamp : a.change.stamp ≡ b.change.stamp
  pub tx : a.change.tx ≡ b.change.tx
  pub capture : a.capture ≡ b.capture
  pub tag : a.tag ≡ b.tag
  pub system : a.system ≡ b.system
  -- of one table they have the same key columns
  pub key : a.change.row.table ≡ b.change.row.table → columns_of a.change.row.key ≡ columns_of b.change.row.key
  -- of one column of one table they say the same
  pub columns : a.change.row.table ≡ b.change.row.table → All (λ x. All (λ y. x.name ≡ y.name → x ≡ y) b.columns) a.columns

-- the columns of a captured change are those that its change tells of
pub record HasItsColumns (c : Captured) : Type 0 where
  -- those of the key and those of the new and the old cells
  pub each : (name : List ℕ) → is_among name (map (λ x. x.name) c.columns) ≡ (is_among name (columns_of c.change.row.key) || (is_among name (columns_of c.change.new) || is_among name (columns_of c.change.old)))
  -- those of the key alone are marked as key
  pub marked : All (λ x. x.is_key ≡ is_among x.name (columns_of c.change.row.key)) c.columns
  -- their ordinals rise
  pub rising : IsStrictlyIncreasing (map (λ x. x.ordinal) c.columns)

-- changes that may share a record: of one table and kind, with the same columns in their new and in their old cells
pub record IsAlike (a b : Captured) : Type 0 where
  pub table : a.change.row.table ≡ b.change.row.table
  pub kind : a.change.kind ≡ b.change.kind
  pub new : columns_of a.change.new ≡ columns_of b.change.new
  pub old : columns_of a.change.old ≡ columns_of b.change.old

-- captured changes of one transaction, no two of one row, each with its columns, which are all alike: they may share a record
pub record IsRun (first : Captured) (more : List Captured) : Type 0 where
  pub agree : All (λ a. All (λ b. Agree a b) (first ∷ more)) (first ∷ more)
  pub rows : IsDistinct same_row (map (λ c. c.change.row) (first ∷ more))
  pub columns : All HasItsColumns (first ∷ more)
  pub alike : All (IsAlike first) more

-- the captured change that a record tells by one of its mods
abbrev pub item_of : DataRecord → Mod → Captured
item_of r m = record { change = change_of r m; columns = r.columns; capture = r.capture; tag = r.tag; system = r.system }

-- one for each mod, in their order
abbrev pub items_of : DataRecord → List Captured
items_of r = map (item_of r) r.mods

-- a record of 1 to 32 changes that are alike, with the counts that stand until the caller sets them
pub record IsGroup (r : DataRecord) : Type 0 where
  pub some : 0 < length r.mods
  pub few : length r.mods ≤ 32
  pub alike : All (λ a. All (λ b. IsAlike a b) (items_of r)) (items_of r)
  pub records : r.records_in_tx ≡ 1
  pub parts : r.parts_in_tx ≡ 1

-- the records of captured changes, with sequences from a first one on
pub record AreRecordsOf (items : List Captured) (first : ℕ) (records : List DataRecord) : Type 0 where
  -- what the records tell, mod by mod, is what was captured, in its order
  pub told : flat_map items_of records ≡ items
  pub groups : All IsGroup records
  -- a record of fewer than 32 changes ends where the next change is not like its own
  pub full : (k : ℕ) (d : DataRecord) → suc k < length records → length (get_or records k d).mods < 32
      → All (λ a. All (λ b. ¬ (IsAlike a b)) (items_of (get_or records (suc k) d))) (items_of (get_or records k d))
  -- sequences go up by one
  pub sequences : (k : ℕ) (d : DataRecord) → k < length records → (get_or records k d).sequence ≡ first + k
  -- the last record alone is marked as the last
  pub last : (k : ℕ) (d : DataRecord) → k < length records → IsTrue (get_or records k d).is_last ↔ (suc k ≡ length records)

-- what a record holds of a captured change
abbrev pub mod_of : Captured → Mod
mod_of c = record { keys = c.change.row.key; new = c.change.new; old = c.change.old }

abbrev pub is_nil : List Captured → Bool
is_nil [] = true
is_nil (c ∷ cs) = false

-- the record of captured changes, the first of which is given, that stand before others
abbrev pub record_of : ℕ → Captured → List Captured → List Captured → DataRecord
record_of sequence first group after = record {
  stamp = first.change.stamp;
  sequence = sequence;
  tx = first.change.tx;
  is_last = is_nil after;
  table = first.change.row.table;
  columns = first.columns;
  mods = map mod_of group;
  kind = first.change.kind;
  capture = first.capture;
  records_in_tx = 1;
  parts_in_tx = 1;
  tag = first.tag;
  system = first.system;
}

-- a record takes as many items from the front as are alike, 32 at most, and leaves the others
pub record IsNext (sequence : ℕ) (items after : List Captured) (r : DataRecord) : Type 0 where
  pub first : Captured
  pub more : List Captured
  pub split : items ≡ first ∷ (more ++ after)
  pub is : r ≡ record_of sequence first (first ∷ more) after
  pub alike : All (IsAlike first) more
  pub few : length more ≤ 31
  pub ends : length more < 31 → (next : Captured) (later : List Captured) → after ≡ next ∷ later → ¬ (IsAlike first next)

-- records that take all items, one after another
abbrev pub AreCut : ℕ → List Captured → List DataRecord → Type 0
AreCut sequence items [] = items ≡ []
AreCut sequence items (r ∷ records) = (after : List Captured) × IsNext sequence items after r × AreCut (sequence + 1) after records
