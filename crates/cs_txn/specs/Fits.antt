-- What a committed modification has of its catalog: cells of just its table's columns, with values of their types (tables, columns and types as Spanner's data definition language has them; a column that is added later stands behind those that were there).
use Rattle.std.specs.Prelude.{◌≡◌, ◌≤◌, ℕ, List, [], ◌∷◌, ◌++◌, ⊤, Some, Bool, true, All, is_some, not, ◌&&◌, ◌||◌, length, take}
use Rattle.cs_types.specs.declared.value.Value.{Value}
use Rattle.cs_types.specs.declared.cells.Cell.{Cell}
use Rattle.cs_types.specs.declared.change.Kind.{Kind}
use Rattle.cs_types.specs.declared.change.Kind.TheVariants.{Insert, Update, Delete}
use Rattle.cs_types.specs.Cells.{AreCells}
use Rattle.cs_types.specs.Database.{IsName, AgreeInTypes}
use Rattle.cs_types.specs.Names.{is_among, columns_of}
use Rattle.cs_schema.specs.declared.types.Column.{Column}
use Rattle.cs_schema.specs.declared.types.Table.{Table}
use Rattle.cs_schema.specs.Tables.{table_named}
use Rattle.cs_txn.specs.declared.txn.Modification.{Modification}
use Rattle.cs_txn.specs.Columns.{column_named, is_of, is_null}
use Rattle.cs_txn.specs.History.{state_before}
use Rattle.cs_txn.specs.Left.{cells_or_none}

-- NULL, or a value of the column's type and of no greater length than it takes
abbrev pub may_have : Column → Value → Bool
may_have c v = is_null v || is_of c.ty c.limit v

-- a cell of a column that is there, with a value that the column may have
pub record FitsColumn (columns : List Column) (cell : Cell) : Type 0 where
  pub column : Column
  pub there : column_named cell.column columns ≡ Some column
  pub value : may_have column cell.value ≡ true

-- whether a name is that of a column which is no key column
abbrev pub is_free : List (List ℕ) → List Column → List ℕ → Bool
is_free key columns name = is_some (column_named name columns) && not (is_among name key)

-- the key of a row of the table
pub record IsKeyOf (t : Table) (key : List Cell) : Type 0 where
  -- the columns rise, and each value is one that its type has
  pub are_cells : AreCells key
  -- a cell for each key column and for no other
  pub columns : (name : List ℕ) → is_among name (columns_of key) ≡ is_among name t.key
  -- each fits its column
  pub values : All (FitsColumn t.columns) key

-- the other cells of a row of the table, when it had so many columns
pub record IsRowOf (t : Table) (count : ℕ) (cells : List Cell) : Type 0 where
  -- the columns rise, and each value is one that its type has
  pub are_cells : AreCells cells
  -- a cell for each of the columns that is no key column, and for no other
  pub columns : (name : List ℕ) → is_among name (columns_of cells) ≡ is_free t.key (take count t.columns) name
  -- each fits its column
  pub values : All (FitsColumn t.columns) cells

-- an INSERT has cells after it, an UPDATE before and after it, a DELETE before it
abbrev pub HasRows : Table → ℕ → Kind → List Cell → List Cell → Type 0
HasRows t count Insert before after = (before ≡ []) × IsRowOf t count after
HasRows t count Update before after = IsRowOf t count before × IsRowOf t count after
HasRows t count Delete before after = IsRowOf t count before × (after ≡ [])

-- an INSERT has no row before it
abbrev pub StandsBefore : Kind → List Cell → Type 0
StandsBefore Insert before = ⊤
StandsBefore Update before = AreCells before
StandsBefore Delete before = AreCells before

-- a DELETE has none after it
abbrev pub StandsAfter : Kind → List Cell → Type 0
StandsAfter Insert after = AreCells after
StandsAfter Update after = AreCells after
StandsAfter Delete after = ⊤

-- in the row's key and in what stands before and after it the columns rise, and each value is one that its type has
pub record HasCells (m : Modification) : Type 0 where
  pub key : AreCells m.row.key
  pub before : StandsBefore m.kind m.before
  pub after : StandsAfter m.kind m.after

-- a modification of a row of the table
pub record FitsTable (t : Table) (m : Modification) : Type 0 where
  pub key : IsKeyOf t m.row.key
  -- so many columns the table had when it was committed
  pub count : ℕ
  pub within : count ≤ length t.columns
  -- what it named are some of these, and no key columns
  pub named : All (λ name. is_free t.key (take count t.columns) name ≡ true) m.named
  -- and before and after it the row had a cell for each of these that is no key column, where it was there
  pub rows : HasRows t count m.kind m.before m.after

-- a modification of a row of a table that is there
pub record FitsCatalog (tables : List Table) (m : Modification) : Type 0 where
  pub table : Table
  pub there : table_named m.row.table tables ≡ Some table
  pub fits : FitsTable table m

-- each column of the row stands among these cells
abbrev pub HasAllOf : List Cell → List Cell → Type 0
HasAllOf row cells = (name : List ℕ) → is_among name (columns_of row) ≡ true → is_among name (columns_of cells) ≡ true

-- a modification that fits, and that found each cell of its row
pub record FitsBehind (tables : List Table) (earlier : List Modification) (m : Modification) : Type 0 where
  pub fits : FitsCatalog tables m
  pub found : HasAllOf (cells_or_none (state_before earlier m.row)) m.before

abbrev pub EachFits : List Table → List Modification → List Modification → Type 0
EachFits tables earlier [] = Unit {0}
EachFits tables earlier (m ∷ ms) = FitsBehind tables earlier m × EachFits tables (earlier ++ m ∷ []) ms

-- the modifications are of rows of this catalog, and none loses a cell of its row
abbrev pub IsHistoryOf : List Table → List Modification → Type 0
IsHistoryOf tables ms = EachFits tables [] ms

-- no table has a name with a byte 00
abbrev pub HaveNames : List Table → Type 0
HaveNames tables = All (λ (t : Table). IsName t.name) tables

-- in each column the cells of two modifications have values of one type
pub record TypesAgree (a b : Modification) : Type 0 where
  pub before : AgreeInTypes a.before b.before
  pub after : AgreeInTypes a.after b.after
  pub across : AgreeInTypes a.before b.after
