-- What the catalog refuses in a write: values that do not fit, keys that are set, tables and columns that are not there (types and NOT NULL as Spanner's data definition language has them; the order is this project's own).
use Rattle.std.specs.Prelude.{ℕ, List, [], ◌∷◌, Some, None, cond, Bool, true, false, is_some, not, ◌&&◌, nat_le, length, ◌+◌}
use Rattle.std.specs.declared.option.Option.{Option}
use Rattle.std.specs.Fmt.{is_char_start}
use Rattle.cs_types.specs.declared.value.Value.{Value}
use Rattle.cs_types.specs.declared.value.Value.TheVariants.{Null, Bool as Boolean, Int64, Numeric, Text, Bytes, Date, Timestamp}
use Rattle.cs_types.specs.declared.column_type.ColumnType.{ColumnType}
use Rattle.cs_types.specs.declared.column_type.ColumnType.TheVariants.{Bool as bool_type, Int64 as int64_type, Numeric as numeric_type, Text as text_type, Bytes as bytes_type, Date as date_type, Timestamp as timestamp_type}
use Rattle.cs_types.specs.declared.cells.Cell.{Cell}
use Rattle.cs_types.specs.declared.change.Kind.{Kind}
use Rattle.cs_types.specs.declared.change.Kind.TheVariants.{Insert, Update, Delete}
use Rattle.cs_schema.specs.declared.types.Column.{Column}
use Rattle.cs_schema.specs.declared.types.Table.{Table}
use Rattle.std.specs.Option.{option_or}
use Rattle.cs_types.specs.Firsts.{first_of}
use Rattle.cs_types.specs.Names.{is_same, is_among}
use Rattle.cs_schema.specs.Tables.{table_named}
use Rattle.cs_txn.specs.declared.txn.Write.{Write}
use Rattle.cs_txn.specs.declared.fault.TxnFault.{TxnFault}
use Rattle.cs_txn.specs.declared.fault.TxnFault.TheVariants.{BadValue, KeyColumnSet, NoTable, NoColumn}
use Rattle.cs_txn.specs.declared.test.Test.{Test}
use Rattle.cs_txn.specs.declared.test.Test.TheVariants.{Values, Set, Tables, Columns}
use Rattle.cs_txn.specs.Left.{found_in}

-- the column of a name
abbrev pub column_named : List ℕ → List Column → Option Column
column_named name [] = None
column_named name (c ∷ cs) = cond (is_same c.name name) (Some c) (column_named name cs)

-- how many characters a text of UTF-8 has (RFC 3629): the bytes that are the first of one
abbrev pub char_length : List ℕ → ℕ
char_length [] = 0
char_length (b ∷ text) = cond (is_char_start b) 1 0 + char_length text

-- no limit, or a length up to it
abbrev pub is_within : Option ℕ → ℕ → Bool
is_within None n = true
is_within (Some limit) n = nat_le n limit

-- a value of a type, a STRING with at most so many characters and BYTES with at most so many bytes
abbrev pub is_of : ColumnType → Option ℕ → Value → Bool
is_of bool_type limit (Boolean b) = true
is_of int64_type limit (Int64 n) = true
is_of numeric_type limit (Numeric n) = true
is_of text_type limit (Text t) = is_within limit (char_length t)
is_of bytes_type limit (Bytes b) = is_within limit (length b)
is_of date_type limit (Date d) = true
is_of timestamp_type limit (Timestamp t) = true
is_of _ limit _ = false

abbrev pub is_null : Value → Bool
is_null Null = true
is_null _ = false

-- a value that may stand in a column
abbrev pub fits : Column → Value → Bool
fits c v = cond (is_null v) (not c.not_null) (is_of c.ty c.limit v)

abbrev pub misfit : Option Column → Cell → Option TxnFault
misfit None cell = None
misfit (Some column) cell = cond (fits column cell.value) None (Some (BadValue cell.column))

-- a cell whose value may not stand in its column
abbrev pub value_fault : List Column → Cell → Option TxnFault
value_fault columns cell = misfit (column_named cell.column columns) cell

-- a column that is NOT NULL, is no key column and has no cell
abbrev pub is_due : Column → List (List ℕ) → List Cell → Bool
is_due c key set = c.not_null && not (is_among c.name key) && not (is_some (found_in c.name set))

-- the first such column
abbrev pub unset : List (List ℕ) → List Cell → List Column → Option TxnFault
unset key set [] = None
unset key set (c ∷ cs) = cond (is_due c key set) (Some (BadValue c.name)) (unset key set cs)

-- an INSERT puts NULL in columns that it does not name
abbrev pub unset_by : Kind → Table → List Cell → Option TxnFault
unset_by Insert t set = unset t.key set t.columns
unset_by Update t set = None
unset_by Delete t set = None

-- a write with a value that may not stand in its column: of its key, then of the cells that it sets, then the NULL of one that an INSERT does not name
abbrev pub bad_value : Table → Write → Option TxnFault
bad_value t w = option_or (first_of (value_fault t.columns) w.row.key) (option_or (first_of (value_fault t.columns) w.set) (unset_by w.kind t w.set))

abbrev pub key_cell : List (List ℕ) → Cell → Option TxnFault
key_cell key c = cond (is_among c.column key) (Some (KeyColumnSet c.column)) None

-- a write that sets a key column
abbrev pub key_set : Table → Write → Option TxnFault
key_set t w = first_of (key_cell t.key) w.set

abbrev pub no_such : List Column → Cell → Option TxnFault
no_such columns c = cond (is_some (column_named c.column columns)) None (Some (NoColumn c.column))

abbrev pub no_key : List (List ℕ) → Cell → Option TxnFault
no_key key c = cond (is_among c.column key) None (Some (NoColumn c.column))

-- the first key column that has no cell
abbrev pub key_without : List Cell → List (List ℕ) → Option TxnFault
key_without cells [] = None
key_without cells (k ∷ ks) = cond (is_some (found_in k cells)) (key_without cells ks) (Some (NoColumn k))

-- a write that sets what is no column, or whose row has not just the table's key columns
abbrev pub no_column : Table → Write → Option TxnFault
no_column t w = option_or (first_of (no_such t.columns) w.set) (option_or (first_of (no_key t.key) w.row.key) (key_without w.row.key t.key))

-- what a test finds in a write whose table is there
abbrev pub fault_in : Test → Table → Write → Option TxnFault
fault_in Values t w = bad_value t w
fault_in Set t w = key_set t w
fault_in Tables t w = None
fault_in Columns t w = no_column t w

-- and in one whose table is not there
abbrev pub fault_without : Test → Write → Option TxnFault
fault_without Values w = None
fault_without Set w = None
fault_without Tables w = Some (NoTable w.row.table)
fault_without Columns w = None

abbrev pub fault_at : Test → Option Table → Write → Option TxnFault
fault_at test None w = fault_without test w
fault_at test (Some t) w = fault_in test t w

-- what a test finds in a write
abbrev pub fault_by : Test → List Table → Write → Option TxnFault
fault_by test tables w = fault_at test (table_named w.row.table tables) w
