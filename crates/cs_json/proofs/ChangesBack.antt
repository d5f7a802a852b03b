-- The tree that is written for a data change record reads as it.
use Rattle.std.proofs.Common.{◌≡◌, ◌≢◌, ◌<◌, ◌^◌, List, [], ◌∷◌, map, All, nat_lt, true, None, Some, Ok, refl, rules}
use Rattle.serde_json.specs.View.{items_of}
use Rattle.cs_types.specs.declared.change.Kind.{Kind}
use Rattle.cs_types.specs.declared.change.Kind.TheVariants.{Insert, Update, Delete}
use Rattle.cs_types.specs.declared.names.CaptureType.{CaptureType}
use Rattle.cs_types.specs.declared.names.CaptureType.TheVariants.{OldAndNewValues, NewValues, NewRow, NewRowAndOldValues}
use Rattle.cs_types.specs.Stamp.{IsStamp}
use Rattle.cs_records.specs.declared.captured.ColumnInfo.{ColumnInfo}
use Rattle.cs_records.specs.declared.records.DataRecord.{DataRecord}
use Rattle.cs_records.specs.declared.records.Mod.{Mod}
use Rattle.cs_records.specs.declared.records.Record.TheVariants.{Change}
use Rattle.cs_json_reading.specs.Texts.{kind_reading, capture_reading, capture_text}
use Rattle.cs_types.specs.Texts.{kind_text}
use Rattle.cs_json_reading.specs.Missing.{missing_in_change}
use Rattle.cs_json_reading.specs.Columns.{columns_reading}
use Rattle.cs_json_reading.specs.Cells.{some_mods, mods_reading}
use Rattle.cs_json_reading.specs.Changes.{place_reading, rows_reading, facts_reading, change_reading}
use Rattle.cs_json_reading.specs.Standing.{CanStandFor, IsListedMod}
use Rattle.cs_json.specs.Written.{mod_data, change_data, IsKeptMod}
use Rattle.cs_json.proofs.Resting.{Laws}
use Rattle.cs_json.proofs.EightDigits.{sequence_written}
use Rattle.cs_json.proofs.ColumnsBack.{columns_back, no_column_lacks, mods_back, no_mod_lacks}

kind_back : (k : Kind) → kind_reading (kind_text k) ≡ Some k
kind_back Insert = refl
kind_back Update = refl
kind_back Delete = refl

capture_back : (c : CaptureType) → capture_reading (capture_text c) ≡ Some c
capture_back OldAndNewValues = refl
capture_back NewValues = refl
capture_back NewRow = refl
capture_back NewRowAndOldValues = refl

place_back : Laws → (r : DataRecord) → IsStamp r.stamp → CanStandFor r
    → place_reading (change_data r) ≡ Ok (record { stamp = r.stamp; sequence = r.sequence; tx = r.tx; is_last = r.is_last; table = r.table })
unfolding place_reading
place_back laws r stamp can = rw (laws.stamps r.stamp stamp, sequence_written r.sequence can.sequence, can.transaction, can.table) refl

apart_back : (columns : List ColumnInfo) → All (λ c. c.ordinal < 2 ^ 32) columns → (r : DataRecord) → r.columns ≡ columns → CanStandFor r
    → columns_reading (change_data r) ≡ Ok r.columns
unfolding columns_reading
apart_back columns kept r e can = rw (columns_back r.columns (rw e kept), can.apart) refl

some_back : Laws → (columns : List ColumnInfo) (ms : List Mod) → ms ≢ [] → All (IsListedMod columns) ms → All IsKeptMod ms → some_mods columns (Ok (items_of (map mod_data ms))) ≡ Ok ms
some_back laws columns [] some listed kept = absurd (some refl)
some_back laws columns (m ∷ ms) some listed kept = mods_back laws columns (m ∷ ms) listed kept

written_mods : Laws → (r : DataRecord) → CanStandFor r → All IsKeptMod r.mods → mods_reading r.columns (change_data r) ≡ Ok r.mods
unfolding mods_reading
written_mods laws r can kept = some_back laws r.columns r.mods can.mods can.cells kept

rows_back : Laws → (r : DataRecord) → CanStandFor r → All (λ c. c.ordinal < 2 ^ 32) r.columns → All IsKeptMod r.mods
    → rows_reading (change_data r) ≡ Ok (record { columns = r.columns; mods = r.mods })
unfolding rows_reading
rows_back laws r can columns mods = rw (apart_back r.columns columns r refl can, written_mods laws r can mods) refl

facts_back : (r : DataRecord) → CanStandFor r
    → facts_reading (change_data r) ≡ Ok (record { kind = r.kind; capture = r.capture; records_in_tx = r.records_in_tx; parts_in_tx = r.parts_in_tx; tag = r.tag; system = r.system })
unfolding facts_reading
facts_back r can =
    let records : nat_lt r.records_in_tx (2 ^ 63) ≡ true = (let small = can.records_in_tx in search (rules, small)) in
    let parts : nat_lt r.parts_in_tx (2 ^ 63) ≡ true = (let small = can.parts_in_tx in search (rules, small)) in
    rw (kind_back r.kind, capture_back r.capture, records, parts) refl

pub change_back : Laws → (r : DataRecord) → IsStamp r.stamp → All (λ c. c.ordinal < 2 ^ 32) r.columns → All IsKeptMod r.mods → CanStandFor r → change_reading (change_data r) ≡ Ok (Change r)
unfolding change_reading
change_back laws r stamp columns mods can = rw (place_back laws r stamp can, rows_back laws r can columns mods, facts_back r can) refl

pub change_lacks_nothing : (r : DataRecord) → missing_in_change (change_data r) ≡ None
change_lacks_nothing r = rw (no_column_lacks r.columns, no_mod_lacks r.mods) refl
