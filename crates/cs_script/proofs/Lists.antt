-- Lists of trees.
use Rattle.std.proofs.Common.{◌≡◌, ◌<◌, List, [], ◌∷◌, length, Some, refl, arith}
use Rattle.cs_tree.specs.View.{items_view}
use Rattle.cs_tree.specs.declared.tree.Tree.{Tree}
use Rattle.cs_schema.specs.declared.types.Table.{Table}
use Rattle.cs_script.specs.Writes.{each_write, some_writes}

-- of one write or more each is read
pub some_are : (tables : List Table) (trees : List Tree) → 0 < length trees → each_write tables (items_view trees) ≡ some_writes tables (Some (items_view trees))
some_are tables [] more = absurd (omega (arith, more))
some_are tables (x ∷ xs) more = refl
