-- One mod or more.
use Rattle.std.proofs.Common.{◌≡◌, ◌<◌, List, [], ◌∷◌, length, Ok, refl, arith}
use Rattle.serde_json.specs.View.{items_view}
use Rattle.serde_json.specs.declared.value.Value.{Value}
use Rattle.cs_records.specs.declared.captured.ColumnInfo.{ColumnInfo}
use Rattle.cs_json_reading.specs.Reading.{each}
use Rattle.cs_json_reading.specs.Cells.{mod_reading, some_mods}

pub some_mods_are : (columns : List ColumnInfo) (xs : List Value) → 0 < length xs → some_mods columns (Ok (items_view xs)) ≡ each (mod_reading columns) (items_view xs)
some_mods_are columns [] h = absurd (omega (arith, h))
some_mods_are columns (x ∷ xs) h = refl
