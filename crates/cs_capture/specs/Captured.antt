-- What a change stream captures of a modification: a watched column is one that the stream watches and that is no key column, and a modified one is a watched one that the write names (Spanner's page 'Change streams overview').
use Rattle.std.specs.Prelude.{ℕ, List, [], ◌∷◌, ◌++◌, Some, None, cond, Bool, true, false, ◌&&◌, not, ◌+◌}
use Rattle.std.specs.List.{filter, list_any}
use Rattle.std.specs.declared.option.Option.{Option}
use Rattle.cs_types.specs.declared.cells.Cell.{Cell}
use Rattle.cs_types.specs.declared.change.Change.{Change}
use Rattle.cs_types.specs.declared.change.Kind.{Kind}
use Rattle.cs_types.specs.declared.change.Kind.TheVariants.{Insert, Update, Delete}
use Rattle.cs_records.specs.declared.captured.ColumnInfo.{ColumnInfo}
use Rattle.cs_records.specs.declared.captured.Captured.{Captured}
use Rattle.cs_schema.specs.declared.types.Column.{Column}
use Rattle.cs_schema.specs.declared.types.Table.{Table}
use Rattle.cs_schema.specs.declared.types.Watch.{Watch}
use Rattle.cs_schema.specs.declared.types.Stream.{Stream}
use Rattle.cs_types.specs.Names.{is_among, columns_of}
use Rattle.cs_schema.specs.Tables.{table_named}
use Rattle.cs_schema.specs.Watching.{watches_table, watches_column, key_of}
use Rattle.cs_txn.specs.declared.txn.Modification.{Modification}
use Rattle.cs_capture.specs.declared.table.Told.{Told}
use Rattle.cs_capture.specs.declared.table.Told.TheVariants.{Nothing, Watched, Modified}
use Rattle.cs_capture.specs.Table.{told_by}

-- whether a column is watched and no key column
abbrev pub is_watched : Watch → List (List ℕ) → Modification → List ℕ → Bool
is_watched watch key m column = watches_column watch m.row.table column && not (is_among column key)

-- the same in the catalog that has these tables
abbrev pub is_watched_in : List Table → Stream → Modification → List ℕ → Bool
is_watched_in tables stream m column = is_watched stream.watch (key_of (table_named m.row.table tables)) m column

-- whether a write sets a column: an INSERT all of them, another those that it names
abbrev pub is_set : Kind → List (List ℕ) → List ℕ → Bool
is_set Insert named column = true
is_set Update named column = is_among column named
is_set Delete named column = is_among column named

-- whether the cell of a column is among those that are told
abbrev pub is_told : Told → Watch → List (List ℕ) → Modification → Cell → Bool
is_told Nothing watch key m c = false
is_told Watched watch key m c = is_watched watch key m c.column
is_told Modified watch key m c = is_watched watch key m c.column && is_set m.kind m.named c.column

-- the cells that are told
abbrev pub told_cells : Told → Watch → List (List ℕ) → Modification → List Cell → List Cell
told_cells told watch key m cells = filter (is_told told watch key m) cells

-- an UPDATE needs one of these cells, another write none
abbrev pub touches : Kind → (Cell → Bool) → List Cell → Bool
touches Insert modified cells = true
touches Update modified cells = list_any modified cells
touches Delete modified cells = true

-- whether the write is no UPDATE, or modifies a watched column of its row as it is or as it was
abbrev pub is_touched : Watch → List (List ℕ) → Modification → Bool
is_touched watch key m = touches m.kind (is_told Modified watch key m) (m.after ++ m.before)

-- whether there is a change
abbrev pub is_captured : Stream → List (List ℕ) → Modification → Bool
is_captured stream key m = watches_table stream.watch m.row.table && is_touched stream.watch key m

-- the change, with the cells that the capture table gives
abbrev pub change_of : Stream → List (List ℕ) → Modification → Change
change_of stream key m = record {
  stamp = m.stamp;
  tx = m.tx;
  row = m.row;
  kind = m.kind;
  new = told_cells (told_by stream.capture m.kind).new stream.watch key m m.after;
  old = told_cells (told_by stream.capture m.kind).old stream.watch key m m.before;
}

-- the key columns and the columns of the change's cells
abbrev pub told_columns : List (List ℕ) → Change → List (List ℕ)
told_columns key c = key ++ columns_of c.new ++ columns_of c.old

abbrev pub column_info : List (List ℕ) → ℕ → Column → ColumnInfo
column_info key ordinal c = record { name = c.name; ty = c.ty; is_key = is_among c.name key; ordinal = ordinal }

-- of the columns of a table, the first of which has this ordinal, those with one of these names
abbrev pub infos_from : ℕ → List (List ℕ) → List (List ℕ) → List Column → List ColumnInfo
infos_from ordinal key names [] = []
infos_from ordinal key names (c ∷ cs) = cond (is_among c.name names) (column_info key ordinal c ∷ infos_from (ordinal + 1) key names cs) (infos_from (ordinal + 1) key names cs)

-- a table's columns; none where there is no table
abbrev pub columns_in : Option Table → List Column
columns_in None = []
columns_in (Some t) = t.columns

-- ordinals count from 1
abbrev pub infos_of : Option Table → List (List ℕ) → List ColumnInfo
infos_of table names = infos_from 1 (key_of table) names (columns_in table)

-- the change where this holds
abbrev pub change_if : Bool → Stream → List (List ℕ) → Modification → Option Change
change_if false stream key m = None
change_if true stream key m = Some (change_of stream key m)

-- the captured change, where there is one
abbrev pub captured_change : List Table → Stream → Modification → Option Change
captured_change tables stream m = change_if (is_captured stream (key_of (table_named m.row.table tables)) m) stream (key_of (table_named m.row.table tables)) m

-- a change beside what is told of its columns
abbrev pub with_columns : Option Table → Stream → Modification → Option Change → Option Captured
with_columns table stream m None = None
with_columns table stream m (Some change) = Some (record {
  change = change;
  columns = infos_of table (told_columns (key_of table) change);
  capture = stream.capture;
  tag = m.tag;
  system = false;
})

-- what a stream captures of a modification
abbrev pub captured : List Table → Stream → Modification → Option Captured
captured tables stream m = with_columns (table_named m.row.table tables) stream m (captured_change tables stream m)
