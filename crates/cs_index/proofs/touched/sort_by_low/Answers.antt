use Rattle.std.proofs.Common.{rules, is_lt, nat_cmp}
use Rattle.std.specs.Cmp.Lexicographic.{slice_cmp, nat_list_cmp_total}
use Rattle.std.proofs.lemmas.List.Sorted.{ranks_by, answers_always}
use Rattle.cs_index.specs.declared.touched.Touched.{Touched}
use Rattle.cs_index.proofs.touched.sort_by_low.Goals as goal

pub returns-clause-sorted : goal.returns-clause-sorted
returns-clause-sorted c =
    c.in_ok-sort_by.ensures.sorted (λ (x y : Touched). is_lt (slice_cmp nat_cmp x.part.now.range.low.bytes y.part.now.range.low.bytes)) (ranks_by nat_list_cmp_total (λ (x : Touched). x.part.now.range.low.bytes))
    (answers_always _ _ _ (λ f a r g h. search rules))
