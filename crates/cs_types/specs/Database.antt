-- What rows and changes of one database have in common: the rows of a table have the same key columns, and a column has values of one type, as GoogleSQL's tables have.
use Rattle.std.specs.Prelude.{◌≡◌, ℕ, ◌<◌, List, map, All}
use Rattle.cs_types.specs.declared.cells.Cell.{Cell}
use Rattle.cs_types.specs.declared.change.Change.{Change}
use Rattle.cs_types.specs.declared.change.RowName.{RowName}
use Rattle.cs_types.specs.declared.column_type.ColumnType.{ColumnType}
use Rattle.cs_types.specs.declared.value.Value.{Value}
use Rattle.cs_types.specs.Stamp.{IsStamp}
use Rattle.cs_types.specs.Value.{IsInRange, IsOfType}

-- the columns of cells, in their order
abbrev pub columns : List Cell → List (List ℕ)
columns cells = map (λ c. c.column) cells

-- a table's name has no byte 00
abbrev pub IsName : List ℕ → Type 0
IsName table = All (λ b. 0 < b) table

-- each value is one that its type has
abbrev pub AreInRange : List Cell → Type 0
AreInRange cells = All (λ c. IsInRange c.value) cells

-- each is NULL or a value of one type
abbrev pub AreOfOneType : Value → Value → Type 0
AreOfOneType a b = (ty : ColumnType) × IsOfType ty a × IsOfType ty b

-- where both have a column, its values are of one type
abbrev pub AgreeInTypes : List Cell → List Cell → Type 0
AgreeInTypes a b = All (λ c. All (λ d. c.column ≡ d.column → AreOfOneType c.value d.value) b) a

-- two rows whose keys have the same columns where their table is the same
pub record HaveOneLayout (a b : RowName) : Type 0 where
  -- their tables have names
  pub names : IsName a.table × IsName b.table
  -- rows of one table have the same key columns
  pub columns_of_one_table : a.table ≡ b.table → columns a.key ≡ columns b.key
  -- each value is one that its type has
  pub values : AreInRange a.key × AreInRange b.key

-- two rows as one database has them
pub record AreOfOneDatabase (a b : RowName) : Type 0 where
  -- they have a layout in common
  pub layout : HaveOneLayout a b
  -- in rows of one table a key column has values of one type
  pub types_of_one_table : a.table ≡ b.table → AgreeInTypes a.key b.key

-- two changes as one database has them
pub record AreChangesOfOneDatabase (a b : Change) : Type 0 where
  -- they are of rows of one database
  pub rows : AreOfOneDatabase a.row b.row
  -- their moments are stamps
  pub stamps : IsStamp a.stamp × IsStamp b.stamp
  -- each value is one that its type has
  pub values : AreInRange a.new × AreInRange a.old × AreInRange b.new × AreInRange b.old
  -- in changes of one table a column has values of one type
  pub types_of_one_table : a.row.table ≡ b.row.table → AgreeInTypes a.new b.new × AgreeInTypes a.old b.old
