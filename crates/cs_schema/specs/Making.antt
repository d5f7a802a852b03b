-- When CREATE TABLE and ADD COLUMN are refused (Spanner's page on its data definition language and its limits; the order and the numbers are this project's own).
use Rattle.std.specs.Prelude.{ℕ, List, Some, None, cond, is_some, length, nat_le, nat_lt}
use Rattle.std.specs.declared.option.Option.{Option}
use Rattle.std.specs.Str.Lossy.{utf8_lossy}
use Rattle.cs_ddl.specs.declared.tree.ColumnTree.{ColumnTree}
use Rattle.cs_ddl.specs.declared.tree.TypeTree.{TypeTree}
use Rattle.cs_schema.specs.declared.types.Column.{Column}
use Rattle.cs_schema.specs.declared.types.Table.{Table}
use Rattle.cs_schema.specs.declared.types.Stream.{Stream}
use Rattle.cs_schema.specs.declared.fault.SchemaFault.{SchemaFault}
use Rattle.cs_schema.specs.declared.fault.SchemaFault.TheVariants.{TableThere, NoTable, ColumnTwice, ColumnWatched, TooManyColumns}
use Rattle.cs_schema.specs.Names.{names_of}
use Rattle.std.specs.Option.{option_or}
use Rattle.cs_types.specs.Names.{is_among}
use Rattle.cs_schema.specs.Tables.{table_named}
pub use Rattle.cs_schema.specs.Tables.{column_names}
use Rattle.cs_schema.specs.Watching.{watchers}
use Rattle.cs_schema.specs.Lengths.{columns_made, length_fault}
use Rattle.cs_schema.specs.Faults.{no_column, twice_fault}
use Rattle.cs_types.specs.Firsts.{first_of}

-- the table that stands for a name, columns and a key
abbrev pub table_made : List ℕ → List ColumnTree → List (List ℕ) → Table
table_made name columns key = record { name = utf8_lossy name; columns = columns_made columns; key = names_of key }

abbrev pub there_fault : List Table → List ℕ → Option SchemaFault
there_fault tables name = cond (is_some (table_named name tables)) (Some TableThere) None

-- a column that is no key column and that so many streams or more watch
abbrev pub crowded : ℕ → List Stream → List ℕ → List (List ℕ) → List ℕ → Option SchemaFault
crowded least streams table key column = cond (is_among column key) None (cond (nat_le least (watchers streams table column)) (Some (ColumnWatched column 3)) None)

abbrev pub many_fault : ℕ → Option SchemaFault
many_fault columns = cond (nat_lt 1024 columns) (Some (TooManyColumns 1024)) None

abbrev pub tree_fault : ColumnTree → Option SchemaFault
tree_fault t = length_fault t.ty

-- why a table is not made
abbrev pub table_fault : List Table → List Stream → Table → List ColumnTree → Option SchemaFault
table_fault tables streams t trees =
    option_or (there_fault tables t.name)
    (option_or (first_of (no_column (column_names t.columns)) t.key)
    (option_or (twice_fault (column_names t.columns))
    (option_or (twice_fault t.key)
    (option_or (first_of (crowded 4 streams t.name t.key) (column_names t.columns))
    (option_or (many_fault (length t.columns))
    (first_of tree_fault trees))))))

abbrev pub again_fault : List Column → List ℕ → Option SchemaFault
again_fault columns name = cond (is_among name (column_names columns)) (Some (ColumnTwice name)) None

abbrev pub full_fault : List Column → Option SchemaFault
full_fault columns = cond (nat_le 1024 (length columns)) (Some (TooManyColumns 1024)) None

-- why a table gets no column of this name and type
abbrev pub added_fault : List Stream → Table → List ℕ → TypeTree → Option SchemaFault
added_fault streams t name ty =
    option_or (again_fault t.columns name)
    (option_or (crowded 4 streams t.name t.key name)
    (option_or (full_fault t.columns)
    (length_fault ty)))

abbrev pub added_to : Option Table → List Stream → List ℕ → List ℕ → TypeTree → Option SchemaFault
added_to None streams table name ty = Some (NoTable table)
added_to (Some t) streams table name ty = added_fault streams t name ty

-- why a column is not added
abbrev pub column_fault : List Table → List Stream → List ℕ → List ℕ → TypeTree → Option SchemaFault
column_fault tables streams table name ty = added_to (table_named table tables) streams table name ty
