-- Lists of tables, looked up by name, and a table that gets one column more, as CREATE TABLE and ALTER TABLE .. ADD COLUMN have it (Spanner's pages on its data definition language).
use Rattle.std.specs.Prelude.{◌≡◌, ℕ, suc, List, [], ◌∷◌, ◌++◌, Some, None, cond, is_some}
use Rattle.std.specs.declared.option.Option.{Option}
use Rattle.std.specs.Ordering.{nat_cmp}
use Rattle.std.specs.Cmp.Lexicographic.{slice_cmp}
use Rattle.std.specs.BTreeMap.{BTreeMap, get}
use Rattle.cs_schema.specs.declared.types.Column.{Column}
use Rattle.cs_schema.specs.declared.types.Table.{Table}
use Rattle.std.specs.Option.{option_or}
use Rattle.cs_types.specs.Names.{is_same}

-- the names of columns, in their order
abbrev pub column_names : List Column → List (List ℕ)
column_names [] = []
column_names (c ∷ cs) = c.name ∷ column_names cs

-- the table of a name, of two the later
abbrev pub table_named : List ℕ → List Table → Option Table
table_named name [] = None
table_named name (t ∷ ts) = option_or (table_named name ts) (cond (is_same t.name name) (Some t) None)

-- a table with one column behind the others
abbrev pub grown : Table → Column → Table
grown t column = record { name = t.name; columns = t.columns ++ column ∷ []; key = t.key }

-- the tables, of which the one of this name has one column more
abbrev pub with_column : List ℕ → Column → List Table → List Table
with_column name column [] = []
with_column name column (t ∷ ts) = cond (is_some (table_named name ts)) (t ∷ with_column name column ts) (cond (is_same t.name name) (grown t column ∷ ts) (t ∷ ts))

-- the place of the table of a name
abbrev pub next_place : Option ℕ → Option ℕ
next_place None = None
next_place (Some i) = Some (suc i)

abbrev pub place_named : List ℕ → List Table → Option ℕ
place_named name [] = None
place_named name (t ∷ ts) = option_or (next_place (place_named name ts)) (cond (is_same t.name name) (Some 0) None)

abbrev pub flat : Option (Option ℕ) → Option ℕ
flat None = None
flat (Some o) = o

-- the map has of each name the place of its table; a name may stand in it with nothing
abbrev pub PlacesOf : List Table → BTreeMap (List ℕ) (Option ℕ) → Type 0
PlacesOf ts places = (name : List ℕ) → flat (get (slice_cmp nat_cmp) places name) ≡ place_named name ts
