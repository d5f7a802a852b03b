use Rattle.std.proofs.Common.{◌≡◌, ◌++◌, All}
use Rattle.cs_types.specs.declared.cells.Cell.{Cell}
use Rattle.cs_types.specs.Value.{IsInRange}
use Rattle.cs_txn.specs.Left.{cells_for}
use Rattle.cs_txn.proofs.left.items_for.Given as goal

abbrev pub invariant-loop-column : goal.invariant-loop-column
invariant-loop-column l = record {
  cells : l.cells.items ++ cells_for l.column-iterator l.set l.under ≡ cells_for l.columns.keys l.set l.under;
  in_range : All (λ (c : Cell). IsInRange c.value) l.cells.items;
}
