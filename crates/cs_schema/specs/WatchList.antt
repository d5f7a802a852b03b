-- The items of a watch, each found by its table.
use Rattle.std.specs.Prelude.{◌≡◌, ℕ, List, [], ◌∷◌, Some, None, cond}
use Rattle.std.specs.declared.option.Option.{Option}
use Rattle.std.specs.Ordering.{nat_cmp}
use Rattle.std.specs.Cmp.Lexicographic.{slice_cmp}
use Rattle.std.specs.BTreeMap.{BTreeMap, get}
use Rattle.cs_schema.specs.declared.types.Watched.{Watched}
use Rattle.std.specs.Option.{option_or}
use Rattle.cs_types.specs.Names.{is_same}
use Rattle.cs_schema.specs.Tables.{next_place}

-- the item of a table, of two the later
abbrev pub item_of : List ℕ → List Watched → Option Watched
item_of table [] = None
item_of table (w ∷ ws) = option_or (item_of table ws) (cond (is_same w.table table) (Some w) None)

-- the place of the item of a table
abbrev pub place_of : List ℕ → List Watched → Option ℕ
place_of table [] = None
place_of table (w ∷ ws) = option_or (next_place (place_of table ws)) (cond (is_same w.table table) (Some 0) None)

-- the map has of each table the place of its item
abbrev pub ItemPlaces : List Watched → BTreeMap (List ℕ) ℕ → Type 0
ItemPlaces ws places = (table : List ℕ) → get (slice_cmp nat_cmp) places table ≡ place_of table ws
