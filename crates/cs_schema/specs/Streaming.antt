-- When CREATE CHANGE STREAM is refused, and what it makes (Spanner's page 'Manage change streams' and its limits of 10 streams and of 3 streams a column; the order and the numbers are this project's own).
use Rattle.std.specs.Prelude.{true, false, ℕ, List, [], ◌∷◌, Some, None, cond, Bool, is_some, length, nat_le}
use Rattle.std.specs.declared.option.Option.{Option}
use Rattle.std.specs.Str.Lossy.{utf8_lossy}
use Rattle.cs_ddl.specs.declared.tree.WatchTree.{WatchTree}
use Rattle.cs_ddl.specs.declared.tree.WatchTree.TheVariants.{All as all_tree, Tables as tables_tree}
use Rattle.cs_ddl.specs.declared.tree.WatchItem.{WatchItem}
use Rattle.cs_ddl.specs.declared.tree.OptionTree.{OptionTree}
use Rattle.cs_types.specs.declared.stamp.Stamp.{Stamp}
use Rattle.cs_types.specs.declared.names.CaptureType.TheVariants.{OldAndNewValues}
use Rattle.cs_schema.specs.declared.types.Table.{Table}
use Rattle.cs_schema.specs.declared.types.Watched.{Watched}
use Rattle.cs_schema.specs.declared.types.Watch.{Watch}
use Rattle.cs_schema.specs.declared.types.Watch.TheVariants.{Nothing, All, Tables}
use Rattle.cs_schema.specs.declared.types.Stream.{Stream}
use Rattle.cs_schema.specs.declared.fault.SchemaFault.{SchemaFault}
use Rattle.cs_schema.specs.declared.fault.SchemaFault.TheVariants.{NoTable, KeyListed, StreamThere, TooManyStreams, ItemTwice}
use Rattle.cs_schema.specs.Names.{names_of}
use Rattle.std.specs.Option.{option_or}
use Rattle.cs_types.specs.Names.{is_same, is_among, first_again}
use Rattle.cs_schema.specs.Tables.{table_named, column_names}
use Rattle.cs_schema.specs.Faults.{no_column, twice_fault}
use Rattle.cs_types.specs.Firsts.{first_of}
use Rattle.cs_schema.specs.Making.{crowded}
use Rattle.cs_schema.specs.Options.{option_fault, retention_fault, built_fault, capture_set, retention_set}

-- what a watch says

abbrev pub list_made : Option (List (List ℕ)) → Option (List (List ℕ))
list_made None = None
list_made (Some columns) = Some (names_of columns)

abbrev pub items_made : List WatchItem → List Watched
items_made [] = []
items_made (i ∷ is) = record { table = utf8_lossy i.table; columns = list_made i.columns } ∷ items_made is

abbrev pub tree_made : WatchTree → Watch
tree_made all_tree = All
tree_made (tables_tree items) = Tables (items_made items)

-- a stream without FOR watches nothing
abbrev pub watch_made : Option WatchTree → Watch
watch_made None = Nothing
watch_made (Some tree) = tree_made tree

-- the stream that a statement makes
abbrev pub stream_made : Stamp → List ℕ → Option WatchTree → List OptionTree → Stream
stream_made at name watch options = record {
  name = utf8_lossy name;
  watch = watch_made watch;
  capture = capture_set OldAndNewValues options;
  retention_us = retention_set 86400000000 options;
  created = at;
}

-- refusals of one item of a watch

abbrev pub no_table : List Table → Watched → Option SchemaFault
no_table tables w = cond (is_some (table_named w.table tables)) None (Some (NoTable w.table))

-- the columns of a list; none where there is no list
abbrev pub listed : Option (List (List ℕ)) → List (List ℕ)
listed None = []
listed (Some columns) = columns

abbrev pub unknown_in : Option Table → Watched → Option SchemaFault
unknown_in None w = None
unknown_in (Some t) w = first_of (no_column (column_names t.columns)) (listed w.columns)

-- a listed column that its table has not
abbrev pub unknown_listed : List Table → Watched → Option SchemaFault
unknown_listed tables w = unknown_in (table_named w.table tables) w

abbrev pub is_key : List (List ℕ) → List ℕ → Option SchemaFault
is_key key name = cond (is_among name key) (Some (KeyListed name)) None

abbrev pub key_in : Option Table → Watched → Option SchemaFault
key_in None w = None
key_in (Some t) w = first_of (is_key t.key) (listed w.columns)

-- a listed column of its table's key
abbrev pub key_listed : List Table → Watched → Option SchemaFault
key_listed tables w = key_in (table_named w.table tables) w

-- a list with a name twice
abbrev pub twice_listed : Watched → Option SchemaFault
twice_listed w = twice_fault (listed w.columns)

-- a table of which each column would be watched, with one that three streams watch already
abbrev pub crowded_table : List Stream → Table → Option SchemaFault
crowded_table streams t = first_of (crowded 3 streams t.name t.key) (column_names t.columns)

abbrev pub crowded_part : List Stream → Table → Option (List (List ℕ)) → Option SchemaFault
crowded_part streams t None = crowded_table streams t
crowded_part streams t (Some columns) = first_of (crowded 3 streams t.name t.key) columns

abbrev pub crowded_in : List Stream → Option Table → Watched → Option SchemaFault
crowded_in streams None w = None
crowded_in streams (Some t) w = crowded_part streams t w.columns

abbrev pub crowded_item : List Table → List Stream → Watched → Option SchemaFault
crowded_item tables streams w = crowded_in streams (table_named w.table tables) w

-- refusals of a watch

abbrev pub items_of : Watch → List Watched
items_of Nothing = []
items_of All = []
items_of (Tables ws) = ws

abbrev pub tables_of : List Watched → List (List ℕ)
tables_of [] = []
tables_of (w ∷ ws) = w.table ∷ tables_of ws

abbrev pub item_twice_if : Option (List ℕ) → Option SchemaFault
item_twice_if None = None
item_twice_if (Some name) = Some (ItemTwice name)

-- a table that stands for the second time
abbrev pub item_twice : List Watched → Option SchemaFault
item_twice ws = item_twice_if (first_again [] (tables_of ws))

-- a column that would be watched by more than three streams
abbrev pub crowded_watch : List Table → List Stream → Watch → Option SchemaFault
crowded_watch tables streams Nothing = None
crowded_watch tables streams All = first_of (crowded_table streams) tables
crowded_watch tables streams (Tables ws) = first_of (crowded_item tables streams) ws

abbrev pub is_stream : List ℕ → List Stream → Bool
is_stream name [] = false
is_stream name (s ∷ ss) = cond (is_same s.name name) true (is_stream name ss)

abbrev pub stream_there : List Stream → List ℕ → Option SchemaFault
stream_there streams name = cond (is_stream name streams) (Some StreamThere) None

abbrev pub many_streams : List Stream → Option SchemaFault
many_streams streams = cond (nat_le 10 (length streams)) (Some (TooManyStreams 10)) None

-- the refusals of the items one by one
abbrev pub items_fault : List Table → List Watched → Option SchemaFault
items_fault tables ws =
    option_or (first_of (no_table tables) ws)
    (option_or (first_of (unknown_listed tables) ws)
    (option_or (first_of (key_listed tables) ws)
    (first_of twice_listed ws)))

-- the refusals of the options and of a table that stands twice
abbrev pub options_fault : List Watched → List OptionTree → Option SchemaFault
options_fault ws options =
    option_or (option_fault [] options)
    (option_or (first_of retention_fault options)
    (option_or (first_of built_fault options)
    (item_twice ws)))

-- why a stream is not made
abbrev pub stream_fault : List Table → List Stream → List ℕ → Watch → List OptionTree → Option SchemaFault
stream_fault tables streams name watch options =
    option_or (items_fault tables (items_of watch))
    (option_or (stream_there streams name)
    (option_or (many_streams streams)
    (option_or (crowded_watch tables streams watch)
    (options_fault (items_of watch) options))))
