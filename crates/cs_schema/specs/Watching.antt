-- What a stream watches: the tables that it names or all, and of each the columns that it lists or all that are no key columns (Spanner's page 'Change streams overview').
use Rattle.std.specs.Prelude.{ℕ, List, [], ◌∷◌, Some, None, cond, Bool, true, false, ◌&&◌, not, suc, is_some}
use Rattle.std.specs.declared.option.Option.{Option}
use Rattle.cs_schema.specs.declared.types.Table.{Table}
use Rattle.cs_schema.specs.declared.types.Watched.{Watched}
use Rattle.cs_schema.specs.declared.types.Watch.{Watch}
use Rattle.cs_schema.specs.declared.types.Watch.TheVariants.{Nothing, All, Tables}
use Rattle.cs_schema.specs.declared.types.Stream.{Stream}
use Rattle.cs_types.specs.Names.{is_among}
use Rattle.cs_schema.specs.Tables.{table_named, column_names}
use Rattle.cs_schema.specs.WatchList.{item_of}

-- a list of columns has its own, no list has all
abbrev pub is_listed : Option (List (List ℕ)) → List ℕ → Bool
is_listed None column = true
is_listed (Some columns) column = is_among column columns

abbrev pub lists_column : Option Watched → List ℕ → Bool
lists_column None column = false
lists_column (Some w) column = is_listed w.columns column

-- a table is watched under ALL, or where an item names it
abbrev pub watches_table : Watch → List ℕ → Bool
watches_table Nothing table = false
watches_table All table = true
watches_table (Tables ws) table = is_some (item_of table ws)

-- a column is watched under ALL, where the item of its table has no list, or where the item lists it
abbrev pub watches_column : Watch → List ℕ → List ℕ → Bool
watches_column Nothing table column = false
watches_column All table column = true
watches_column (Tables ws) table column = lists_column (item_of table ws) column

-- the names of a table's key columns; none where there is no table
abbrev pub key_of : Option Table → List (List ℕ)
key_of None = []
key_of (Some t) = t.key

-- whether a name is that of a column of the table which is watched and no key column
abbrev pub is_watched_column : Watch → Table → List ℕ → Bool
is_watched_column watch t column = watches_column watch t.name column && is_among column (column_names t.columns) && not (is_among column t.key)

-- whether one of these columns is
abbrev pub watches_one : Watch → Table → List (List ℕ) → Bool
watches_one watch t [] = false
watches_one watch t (c ∷ cs) = cond (is_watched_column watch t c) true (watches_one watch t cs)

-- whether no column is named, or one that is
abbrev pub watches_named : Watch → Table → List (List ℕ) → Bool
watches_named watch t [] = true
watches_named watch t (c ∷ cs) = watches_one watch t (c ∷ cs)

abbrev pub watches_in : Watch → Option Table → List (List ℕ) → Bool
watches_in watch None columns = false
watches_in watch (Some t) columns = watches_table watch t.name && watches_named watch t columns

-- whether a stream watches a change of a table that is there and that names these columns
abbrev pub watches_change : List Table → Watch → List ℕ → List (List ℕ) → Bool
watches_change tables watch table columns = watches_in watch (table_named table tables) columns

-- how many of the streams watch a column, or will once the table has it
abbrev pub watchers : List Stream → List ℕ → List ℕ → ℕ
watchers [] table column = 0
watchers (s ∷ ss) table column = cond (watches_column s.watch table column) (suc (watchers ss table column)) (watchers ss table column)
