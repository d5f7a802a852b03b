use Rattle.std.proofs.Common.{rules, is_lt, nat_cmp}
use Rattle.std.specs.Cmp.Lexicographic.{slice_cmp, nat_list_cmp_total}
use Rattle.std.proofs.lemmas.List.Sorted.{ranks_by, answers_always}
use Rattle.cs_types.specs.declared.cells.Cell.{Cell}
use Rattle.cs_types.proofs.cells.sort_by_column.Goals as goal

pub returns-clause-sorted : goal.returns-clause-sorted
returns-clause-sorted c =
    c.in_ok-sort_by.ensures.sorted (λ (x y : Cell). is_lt (slice_cmp nat_cmp x.column y.column)) (ranks_by nat_list_cmp_total (λ (x : Cell). x.column))
    (answers_always _ _ _ (λ f a r g h. search rules))
