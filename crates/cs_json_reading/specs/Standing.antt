-- The records for which a line can stand (the limits are this project's own).
use Rattle.std.specs.Prelude.{◌≡◌, ◌^◌, ◌<◌, ◌≢◌, List, [], All, true, None, Some, Option, ⊤}
use Rattle.cs_types.specs.declared.cells.Cell.{Cell}
use Rattle.cs_types.specs.declared.column_type.ColumnType.{ColumnType}
use Rattle.cs_types.specs.declared.value.Value.{Value}
use Rattle.cs_types.specs.Names.{first_again}
use Rattle.cs_types.specs.Value.{IsOfType}
use Rattle.cs_records.specs.declared.captured.ColumnInfo.{ColumnInfo}
use Rattle.cs_records.specs.declared.records.Mod.{Mod}
use Rattle.cs_records.specs.declared.records.DataRecord.{DataRecord}
use Rattle.cs_records.specs.declared.records.Record.{Record}
use Rattle.cs_records.specs.declared.records.Record.TheVariants.{Change, Heartbeat, Children}
use Rattle.cs_json_reading.specs.Texts.{is_transaction, is_name}
use Rattle.cs_json_reading.specs.Columns.{column_type, names_of}

-- the value is NULL or of the type, where there is one
abbrev pub OfColumn : Option ColumnType → Value → Type 0
OfColumn None v = ⊥
OfColumn (Some ty) v = IsOfType ty v

-- the cell is of a listed column, and NULL or of the column's type
abbrev pub IsListed : List ColumnInfo → Cell → Type 0
IsListed columns c = OfColumn (column_type c.column columns) c.value

-- each cell of the mod is one of a listed column
pub record IsListedMod (columns : List ColumnInfo) (m : Mod) : Type 0 where
  pub keys : All (IsListed columns) m.keys
  pub new : All (IsListed columns) m.new
  pub old : All (IsListed columns) m.old

-- a line can stand for the data change record
pub record CanStandFor (r : DataRecord) : Type 0 where
  pub sequence : r.sequence < 100000000
  pub transaction : is_transaction r.tx ≡ true
  pub table : is_name r.table ≡ true
  -- no two columns have one name
  pub apart : first_again [] (names_of r.columns) ≡ None
  pub mods : r.mods ≢ []
  pub cells : All (IsListedMod r.columns) r.mods
  pub records_in_tx : r.records_in_tx < 2 ^ 63
  pub parts_in_tx : r.parts_in_tx < 2 ^ 63

-- a line can stand for the record
abbrev pub CanStand : Record → Type 0
CanStand (Heartbeat at) = ⊤
CanStand (Children c) = c.sequence < 100000000
CanStand (Change r) = CanStandFor r
