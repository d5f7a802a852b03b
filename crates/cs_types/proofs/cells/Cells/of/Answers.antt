use Rattle.std.proofs.Common.{All}
use Rattle.std.proofs.lemmas.List.Sorted.{All-permutation}
use Rattle.cs_types.specs.declared.cells.Cell.{Cell}
use Rattle.cs_types.specs.Value.{IsInRange}
use Rattle.cs_types.specs.Cells.{AreApart}
use Rattle.cs_types.proofs.ApartCells.{rising_from_sorted}
use Rattle.cs_types.proofs.cells.Cells.of.Goals as goal

pub invariant_of-result : goal.invariant_of-result
invariant_of-result c =
    let apart : AreApart c.into_vec-cells.result.items = rw c.deref.ensures.value at c.in_ok-check_apart.ensures in
    let inside : All (λ (x : Cell). IsInRange x.value) c.into_vec-cells.result.items = rw c.deref-2.ensures.value at c.in_ok-check_range.ensures in
    rw c.from_vec.ensures (record {
      rising = rising_from_sorted _ _ apart c.in_ok-sort_by_column.ensures.same c.in_ok-sort_by_column.ensures.sorted;
      in_range = All-permutation (λ (x : Cell). IsInRange x.value) _ _ c.in_ok-sort_by_column.ensures.same inside;
    })
