-- What a statement does to a catalog, and when it is refused (Spanner's data definition language; the order of the refusals is this project's own).
use Rattle.std.specs.Prelude.{List, [], ◌∷◌, ◌++◌, Some, false}
use Rattle.std.specs.declared.option.Option.{Option}
use Rattle.std.specs.Str.Lossy.{utf8_lossy}
use Rattle.cs_ddl.specs.declared.tree.Statement.{Statement}
use Rattle.cs_ddl.specs.declared.tree.Statement.TheVariants.{CreateTable, AddColumn, CreateStream, SetWatch, DropWatch, SetOptions, DropStream}
use Rattle.cs_types.specs.declared.stamp.Stamp.{Stamp}
use Rattle.cs_schema.specs.declared.types.Table.{Table}
use Rattle.cs_schema.specs.declared.types.Stream.{Stream}
use Rattle.cs_schema.specs.declared.fault.SchemaFault.{SchemaFault}
use Rattle.cs_schema.specs.declared.fault.SchemaFault.TheVariants.{NotBuilt}
use Rattle.cs_schema.specs.Schema.{Schema}
use Rattle.cs_schema.specs.Tables.{with_column}
use Rattle.cs_schema.specs.Lengths.{column_made}
use Rattle.cs_schema.specs.Making.{table_made, table_fault, column_fault}
use Rattle.cs_schema.specs.Streaming.{watch_made, stream_made, stream_fault}

-- why a catalog refuses a statement: the first condition that holds, in their order
abbrev pub first_fault : Schema → Statement → Option SchemaFault
first_fault c (CreateTable name columns key) = table_fault c.tables c.streams (table_made name columns key) columns
first_fault c (AddColumn table name ty) = column_fault c.tables c.streams (utf8_lossy table) (utf8_lossy name) ty
first_fault c (CreateStream name watch options) = stream_fault c.tables c.streams (utf8_lossy name) (watch_made watch) options
first_fault c (SetWatch name watch) = Some NotBuilt
first_fault c (DropWatch name) = Some NotBuilt
first_fault c (SetOptions name options) = Some NotBuilt
first_fault c (DropStream name) = Some NotBuilt

-- a catalog with other tables
abbrev pub with_tables : Schema → List Table → Schema
with_tables c tables = record { tables = tables; streams = c.streams }

-- a catalog with other streams
abbrev pub with_streams : Schema → List Stream → Schema
with_streams c streams = record { tables = c.tables; streams = streams }

-- the catalog behind a statement: a table more, a column more in its table, or a stream more
abbrev pub applied : Schema → Stamp → Statement → Schema
applied c at (CreateTable name columns key) = with_tables c (c.tables ++ table_made name columns key ∷ [])
applied c at (AddColumn table name ty) = with_tables c (with_column (utf8_lossy table) (column_made name ty false) c.tables)
applied c at (CreateStream name watch options) = with_streams c (c.streams ++ stream_made at name watch options ∷ [])
applied c at (SetWatch name watch) = c
applied c at (DropWatch name) = c
applied c at (SetOptions name options) = c
applied c at (DropStream name) = c
