-- What holds of every catalog that statements have made: names differ, keys and watches name what is there, and numbers keep within their limits (Spanner's pages 'Data types', 'Change streams overview' and on its limits; the limits of 10 streams and of 3 streams a column are this project's own).
use Rattle.std.specs.Prelude.{◌≡◌, ◌≢◌, ℕ, ◌≤◌, List, None, true, false, length, map, All, AllPairs}
use Rattle.std.specs.declared.option.Option.{Option}
use Rattle.std.specs.Option.{IsSomeAnd}
use Rattle.cs_types.specs.declared.column_type.ColumnType.{ColumnType}
use Rattle.cs_types.specs.declared.column_type.ColumnType.TheVariants.{Bool, Int64, Numeric, Text, Bytes, Date, Timestamp}
use Rattle.cs_types.specs.Names.{is_among}
use Rattle.cs_schema.specs.declared.types.Column.{Column}
use Rattle.cs_schema.specs.declared.types.Table.{Table}
use Rattle.cs_schema.specs.declared.types.Watched.{Watched}
use Rattle.cs_schema.specs.declared.types.Watch.{Watch}
use Rattle.cs_schema.specs.declared.types.Stream.{Stream}
use Rattle.cs_schema.specs.Tables.{table_named, column_names}
use Rattle.cs_schema.specs.Streaming.{items_of, listed, tables_of}
use Rattle.cs_schema.specs.Watching.{watchers}

-- no two of these names are the same
abbrev pub AreDifferent : List (List ℕ) → Type 0
AreDifferent names = AllPairs (λ a b. a ≢ b) names

abbrev pub table_names : List Table → List (List ℕ)
table_names tables = map (λ (t : Table). t.name) tables

abbrev pub stream_names : List Stream → List (List ℕ)
stream_names streams = map (λ (s : Stream). s.name) streams

-- a length from 1 to the most
abbrev pub IsLengthTo : ℕ → Option ℕ → Type 0
IsLengthTo most limit = IsSomeAnd limit (λ n. (1 ≤ n) × (n ≤ most))

-- STRING and BYTES have a length in their range, other types have none
abbrev pub IsLimitOf : ColumnType → Option ℕ → Type 0
IsLimitOf Bool limit = limit ≡ None
IsLimitOf Int64 limit = limit ≡ None
IsLimitOf Numeric limit = limit ≡ None
IsLimitOf Text limit = IsLengthTo 2621440 limit
IsLimitOf Bytes limit = IsLengthTo 10485760 limit
IsLimitOf Date limit = limit ≡ None
IsLimitOf Timestamp limit = limit ≡ None

-- a table whose columns and key go together
pub record IsSoundTable (t : Table) : Type 0 where
  -- it has at most 1,024 columns
  pub width : length t.columns ≤ 1024
  -- no two of its columns have one name
  pub columns_differ : AreDifferent (column_names t.columns)
  -- its key names no column twice
  pub key_differs : AreDifferent t.key
  -- its key names columns of it
  pub key_there : All (λ name. is_among name (column_names t.columns) ≡ true) t.key
  -- each column has a limit where its type has one
  pub limits : All (λ (c : Column). IsLimitOf c.ty c.limit) t.columns

-- columns of a table that a watch may list
pub record IsSoundList (t : Table) (columns : List (List ℕ)) : Type 0 where
  -- each is a column of the table
  pub there : All (λ name. is_among name (column_names t.columns) ≡ true) columns
  -- none is a key column
  pub no_key : All (λ name. is_among name t.key ≡ false) columns
  -- none stands twice
  pub differ : AreDifferent columns

-- a watch whose items name tables that are there, each once, and list columns of them
pub record IsSoundWatch (tables : List Table) (watch : Watch) : Type 0 where
  -- no table stands twice
  pub tables_differ : AreDifferent (tables_of (items_of watch))
  -- each table is there, and has the columns that are listed of it
  pub items : All (λ (w : Watched). IsSomeAnd (table_named w.table tables) (λ t. IsSoundList t (listed w.columns))) (items_of watch)

-- tables and streams that stand together in one database
pub record IsSoundCatalog (tables : List Table) (streams : List Stream) : Type 0 where
  -- no two tables have one name
  pub tables_differ : AreDifferent (table_names tables)
  -- each table is sound
  pub each_table : All IsSoundTable tables
  -- no two streams have one name
  pub streams_differ : AreDifferent (stream_names streams)
  -- there are at most 10 streams
  pub most_streams : length streams ≤ 10
  -- each stream watches what is there
  pub each_watch : All (λ (s : Stream). IsSoundWatch tables s.watch) streams
  -- at most 3 streams watch a column that is no key column
  pub most_watchers : All (λ (t : Table). All (λ (c : Column). is_among c.name t.key ≡ false → watchers streams t.name c.name ≤ 3) t.columns) tables
