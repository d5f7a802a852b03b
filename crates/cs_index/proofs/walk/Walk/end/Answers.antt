use Rattle.std.proofs.Common.{◌<◌, List, length, sym, ap, subst, arith, All}
use Rattle.std.proofs.lemmas.List.Sorted.{All-permutation}
use Rattle.cs_index.specs.declared.touched.Touched.{Touched}
use Rattle.cs_index.proofs.walk.Walk.end.Goals as goal

pub end_all-requires : goal.end_all-requires
end_all-requires c =
    let all = All-permutation (λ (t : Touched). t.index < length c.args.self.now.parts.now) c.args.self.now.touched.items c.sort_by_low.new.touched.items c.in_ok-sort_by_low.ensures.same c.requires.inside in
    let here = subst (λ (ts : List Touched). All (λ (t : Touched). t.index < length c.args.self.now.parts.now) ts) (sym c.as_slice-3.ensures.value) all in
    λ k d l. let b = here k d l in omega (arith, b, c.requires.count, ap length c.as_mut_slice.ensures.value)
