-- What is kept while the cells of an object are read.
use Rattle.std.specs.Prelude.{◌≡◌, List, ◌++◌, map, All}
use Rattle.cs_tree.specs.declared.entries.Entry.{Entry}
use Rattle.cs_tree.specs.Order.{Name}
use Rattle.cs_tree.specs.declared.tree.Tree.{Tree}
use Rattle.cs_types.specs.declared.cells.Cell.{Cell}
use Rattle.cs_types.specs.Value.{IsInRange}

-- the cells and the members that are left have the names of all members, in their order, and each value is one that its type has
pub record HasNames (cells : List Cell) (left all : List (Entry Name Tree)) : Type 0 where
  pub names : map (λ (c : Cell). c.column) cells ++ map (λ (e : Entry Name Tree). e.name.now) left ≡ map (λ (e : Entry Name Tree). e.name.now) all
  pub in_range : All (λ (c : Cell). IsInRange c.value) cells
