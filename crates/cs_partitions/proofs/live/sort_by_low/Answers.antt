use Rattle.std.proofs.Common.{rules, is_lt, nat_cmp}
use Rattle.std.specs.Cmp.Lexicographic.{slice_cmp, nat_list_cmp_total}
use Rattle.std.proofs.lemmas.List.Sorted.{ranks_by, answers_always}
use Rattle.cs_place.specs.declared.part.Part.{Part}
use Rattle.cs_partitions.proofs.live.sort_by_low.Goals as goal

pub returns-clause-sorted : goal.returns-clause-sorted
returns-clause-sorted c =
    c.in_ok-sort_by.ensures.sorted (λ (x y : Part). is_lt (slice_cmp nat_cmp x.range.low.bytes y.range.low.bytes)) (ranks_by nat_list_cmp_total (λ (x : Part). x.range.low.bytes))
    (answers_always _ _ _ (λ f a r g h. search rules))
