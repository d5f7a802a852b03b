-- The data that a tree stands for.
use Rattle.std.specs.Prelude.{List, [], ◌∷◌, map}
use Rattle.serde_json.specs.Data.{Data, null, boolean, number, string, array, object, Items, Members, no_members, member}
use Rattle.serde_json.specs.View.{number_view, items_of}
use Rattle.cs_tree.specs.declared.entries.Entry.{Entry}
use Rattle.cs_tree.specs.Order.{Name}
use Rattle.cs_tree.specs.declared.tree.Tree.{Tree, fold-Tree}
use Rattle.cs_tree.specs.declared.tree.Tree.TheOpen.{Tree-F}

abbrev pub members_of : List (Entry Name Data) → Members
members_of [] = no_members
members_of (m ∷ ms) = member m.name.now m.tree (members_of ms)

-- one level, with each tree inside already seen as its data
abbrev pub view_step : Tree-F Data → Data
view_step Tree-F.Null = null
view_step (Tree-F.Bool b) = boolean b
view_step (Tree-F.Number x) = number (number_view x)
view_step (Tree-F.Text s) = string s.now
view_step (Tree-F.Array v) = array (items_of v.items)
view_step (Tree-F.Object m) = object (members_of m)

abbrev pub view : Tree → Data
view = fold-Tree Data view_step

abbrev pub items_view : List Tree → Items
items_view vs = items_of (map view vs)

abbrev pub members_view : List (Entry Name Tree) → Members
members_view ms = members_of (map (λ m. record { name = m.name; tree = view m.tree }) ms)
