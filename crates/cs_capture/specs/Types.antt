-- The cells of a captured change, and the types that are told of its columns (Spanner's page 'Change streams partitions, records, and queries').
use Rattle.std.specs.Prelude.{◌≡◌, ◌≢◌, List, All, AllPairs}
use Rattle.cs_types.specs.declared.cells.Cell.{Cell}
use Rattle.cs_types.specs.Value.{IsOfType}
use Rattle.cs_records.specs.declared.captured.Captured.{Captured}
use Rattle.cs_records.specs.declared.captured.ColumnInfo.{ColumnInfo}

-- the cell's value is NULL or of the type that is told of its column
abbrev pub HasItsType : List ColumnInfo → Cell → Type 0
HasItsType columns cell = All (λ (x : ColumnInfo). x.name ≡ cell.column → IsOfType x.ty cell.value) columns

-- each cell of the captured change is so, and no two columns have one name
pub record AreOfTheirTypes (c : Captured) : Type 0 where
  pub apart : AllPairs (λ (x y : ColumnInfo). x.name ≢ y.name) c.columns
  pub key : All (HasItsType c.columns) c.change.row.key
  pub new : All (HasItsType c.columns) c.change.new
  pub old : All (HasItsType c.columns) c.change.old
