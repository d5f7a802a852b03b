-- What a data record tells, as this project reads it: a change for each mod, where the mods have the keys that its columns name and no two are of one row.
use Rattle.std.specs.Prelude.{ℕ, List, [], ◌∷◌, ◌++◌, map, Some, None, cond, Bool, ⊤}
use Rattle.std.specs.declared.option.Option.{Option}
use Rattle.std.specs.Ordering.{is_eq}
use Rattle.std.specs.List.{list_any}
use Rattle.std.specs.Option.{option_map, option_or}
use Rattle.cs_types.specs.Order.{cells_cmp}
use Rattle.cs_types.specs.declared.cells.Cell.{Cell}
use Rattle.cs_types.specs.declared.change.Change.{Change}
use Rattle.cs_types.specs.declared.change.RowName.{RowName}
use Rattle.cs_types.specs.Names.{columns_of}
use Rattle.cs_records.specs.Columns.{key_columns, first_beyond}
use Rattle.cs_records.specs.declared.faults.RecordFault.{RecordFault}
use Rattle.cs_records.specs.declared.faults.RecordFault.TheVariants.{KeyMissing, KeyTwice, Memory}
use Rattle.cs_records.specs.declared.records.DataRecord.{DataRecord}
use Rattle.cs_records.specs.declared.records.Mod.{Mod}

-- the row of a data record's table with this key
abbrev pub row_of : DataRecord → List Cell → RowName
row_of r key = record { table = r.table; key = key }

-- the change that a data record tells by one of its mods
abbrev pub change_of : DataRecord → Mod → Change
change_of r m = record { stamp = r.stamp; tx = r.tx; row = row_of r m.keys; kind = r.kind; new = m.new; old = m.old }

-- one change for each mod, in their order
abbrev pub changes_told : DataRecord → List Change
changes_told r = map (change_of r) r.mods

-- of the key columns and the columns of a key: the first key column that the key lacks, or else its first column that is no key column
abbrev pub key_fault : List (List ℕ) → List (List ℕ) → Option (List ℕ)
key_fault columns key = option_or (first_beyond key columns) (first_beyond columns key)

-- that of the first mod that has one
abbrev pub first_key_fault : List (List ℕ) → List Mod → Option (List ℕ)
first_key_fault columns [] = None
first_key_fault columns (m ∷ ms) = option_or (key_fault columns (columns_of m.keys)) (first_key_fault columns ms)

-- whether a key stands in a list of keys
abbrev pub has_key : List (List Cell) → List Cell → Bool
has_key keys key = list_any (λ k. is_eq (cells_cmp key k)) keys

-- the keys of mods, in their order
abbrev pub keys_of : List Mod → List (List Cell)
keys_of mods = map (λ m. m.keys) mods

-- the first key of a list that stands among the earlier ones
abbrev pub first_key_again : List (List Cell) → List (List Cell) → Option (List Cell)
first_key_again earlier [] = None
first_key_again earlier (k ∷ ks) = cond (has_key earlier k) (Some k) (first_key_again (earlier ++ k ∷ []) ks)

-- why a data record's mods are no changes: a mod without the right key, and else a key that an earlier mod has
abbrev pub record_fault : DataRecord → Option RecordFault
record_fault r = option_or (option_map KeyMissing (first_key_fault (key_columns r.columns) r.mods)) (option_map (λ key. KeyTwice (row_of r key)) (first_key_again [] (keys_of r.mods)))

-- whether a fault is one of the two, and not want of memory
abbrev pub not_memory : RecordFault → Type 0
not_memory (KeyMissing column) = ⊤
not_memory (KeyTwice row) = ⊤
not_memory Memory = ⊥
