use Rattle.std.proofs.Common.{false}
use Rattle.std.specs.Str.Lossy.{utf8_lossy}
use Rattle.cs_schema.specs.Lengths.{column_made}
use Rattle.cs_schema.specs.Making.{table_made}
use Rattle.cs_schema.proofs.SoundTables.{table_grows, column_grows, stream_grows}
use Rattle.cs_schema.proofs.catalog.Catalog.apply.Goals as goal

pub returns-in-CreateTable-clause-grows : goal.returns-in-CreateTable-clause-grows
returns-in-CreateTable-clause-grows c =
    table_grows c.create_table.result c.args.self.now.tables c.args.self.now.streams (table_made c.in-CreateTable.name c.as_slice.result.now c.as_slice-in-CreateTable.result.now) c.as_slice.result.now c.create_table.new.self.tables c.create_table.ensures.refused c.create_table.ensures.ok

pub returns-in-AddColumn-clause-grows : goal.returns-in-AddColumn-clause-grows
returns-in-AddColumn-clause-grows c =
    column_grows c.add_column.result c.args.self.now.tables (utf8_lossy c.in-AddColumn.table) (column_made c.in-AddColumn.name c.in-AddColumn.ty false) c.add_column.new.self.tables c.add_column.ensures.ok

pub returns-in-CreateStream-clause-grows : goal.returns-in-CreateStream-clause-grows
returns-in-CreateStream-clause-grows c = stream_grows c.create_stream.result c.args.self.now.tables c.create_stream.new.self.tables c.create_stream.ensures.tables
