-- The order of rows and the test of one row, which are this project's own.
use Rattle.std.specs.Prelude.{Bool}
use Rattle.std.specs.declared.cmp.Ordering.{Ordering}
use Rattle.std.specs.Ordering.{nat_cmp, ordering_then, is_eq}
use Rattle.std.specs.Cmp.{IsTotalOrder, on_total, then_total}
use Rattle.std.specs.Cmp.Lexicographic.{slice_cmp, nat_list_cmp_total}
use Rattle.cs_types.specs.Order.{cells_cmp, cells_total}
use Rattle.cs_types.specs.declared.change.RowName.{RowName}

-- by table, and then by key
abbrev pub row_cmp : RowName → RowName → Ordering
row_cmp a b = ordering_then (slice_cmp nat_cmp a.table b.table) (cells_cmp a.key b.key)

pub rows_total : IsTotalOrder row_cmp
rows_total = then_total (on_total (λ (r : RowName). r.table) nat_list_cmp_total) (on_total (λ (r : RowName). r.key) cells_total)

-- whether two names are of the same row; `RowName::is` says that this is equality
abbrev pub same_row : RowName → RowName → Bool
same_row a b = is_eq (row_cmp a b)
