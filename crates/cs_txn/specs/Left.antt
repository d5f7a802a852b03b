-- The cells that a write leaves in its row: an INSERT puts NULL in columns that it does not name and an UPDATE keeps them (Spanner's pages on mutations and on DML).
use Rattle.std.specs.Prelude.{◌≡◌, ℕ, List, [], ◌∷◌, Some, None, cond}
use Rattle.std.specs.declared.option.Option.{Option}
use Rattle.std.specs.Ordering.{nat_cmp}
use Rattle.std.specs.Cmp.Lexicographic.{slice_cmp}
use Rattle.std.specs.BTreeSet.{insert_key}
use Rattle.cs_types.specs.declared.value.Value.{Value}
use Rattle.cs_types.specs.declared.value.Value.TheVariants.{Null}
use Rattle.cs_types.specs.declared.cells.Cell.{Cell}
use Rattle.cs_types.specs.declared.change.Kind.{Kind}
use Rattle.cs_types.specs.declared.change.Kind.TheVariants.{Insert, Update, Delete}
use Rattle.cs_schema.specs.declared.types.Column.{Column}
use Rattle.cs_schema.specs.declared.types.Table.{Table}
use Rattle.cs_types.specs.Names.{is_same, is_among}
use Rattle.cs_schema.specs.Tables.{table_named}
use Rattle.cs_txn.specs.declared.free.Free.{Free}

-- these names, and those of the columns that are no key columns, each once and in byte order
abbrev pub free_names : List (List ℕ) → List (List ℕ) → List Column → List (List ℕ)
free_names names key [] = names
free_names names key (c ∷ cs) = free_names (cond (is_among c.name key) names (insert_key (slice_cmp nat_cmp) names c.name)) key cs

abbrev pub free_columns : Option Table → List (List ℕ)
free_columns None = []
free_columns (Some t) = free_names [] t.key t.columns

-- the names of a table's columns that are no key columns, in byte order; none where there is no table
abbrev pub free_columns_of : List ℕ → List Table → List (List ℕ)
free_columns_of name tables = free_columns (table_named name tables)

-- the columns that are kept, if any, are those of their table
abbrev pub AreFree : List Table → Option Free → Type 0
AreFree tables None = Unit {0}
AreFree tables (Some f) = f.columns.keys ≡ free_columns_of f.table tables

-- the value of a column, where there is a cell of it
abbrev pub found_in : List ℕ → List Cell → Option Value
found_in column [] = None
found_in column (c ∷ cs) = cond (is_same c.column column) (Some c.value) (found_in column cs)

abbrev pub or_null : Option Value → Value
or_null None = Null
or_null (Some v) = v

abbrev pub or_under : Option Value → Option Value → Value
or_under None under = or_null under
or_under (Some v) under = v

-- the value that was set, else the one under it, else NULL
abbrev pub value_over : List ℕ → List Cell → List Cell → Value
value_over column set under = or_under (found_in column set) (found_in column under)

-- a cell for each of the columns
abbrev pub cells_for : List (List ℕ) → List Cell → List Cell → List Cell
cells_for [] set under = []
cells_for (c ∷ cs) set under = record { column = c; value = value_over c set under } ∷ cells_for cs set under

-- a row's cells, none where it is absent
abbrev pub cells_or_none : Option (List Cell) → List Cell
cells_or_none None = []
cells_or_none (Some cells) = cells

-- a row as it stands: a cell for each of the columns, NULL where the row never received one; none where it is absent
abbrev pub row_cells : List (List ℕ) → Option (List Cell) → List Cell
row_cells columns None = []
row_cells columns (Some cells) = cells_for columns [] cells

-- an INSERT leaves NULL in columns that it does not name, an UPDATE what stood there, a DELETE nothing
abbrev pub cells_left : List (List ℕ) → Kind → List Cell → Option (List Cell) → List Cell
cells_left columns Insert set state = cells_for columns set []
cells_left columns Update set state = cells_for columns set (cells_or_none state)
cells_left columns Delete set state = []
