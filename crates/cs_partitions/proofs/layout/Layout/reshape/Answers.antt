use Rattle.std.proofs.Common.{arith, ◌≡◌, sym, ap, subst, ◌++◌, ℕ, None, length, map, replicate, ◌+◌}
use Rattle.std.proofs.lemmas.Grind.{common_steps}
use Rattle.cs_partitions.specs.Layout.{StreamParts}
use Rattle.cs_partitions.specs.Reshape.{with_end, new_parts}
use Rattle.cs_partitions.specs.Fault.{first_fault}
use Rattle.cs_partitions.specs.Births.{AreBirths}
use Rattle.cs_partitions.proofs.After.{parts_after}
use Rattle.cs_partitions.proofs.Births.{births_made, same_marks}
use Rattle.cs_partitions.proofs.layout.Layout.reshape.Goals as goal

pub invariant_of-self-2 : goal.invariant_of-self-2
invariant_of-self-2 c =
    let l : StreamParts = record { stream = c.self.inside.stream; created = c.self.inside.created; parts = c.self.inside.parts.items } in
    let none = subst (λ z. first_fault z c.args.at c.args.parts.now c.args.borders.now ≡ None) c.as_slice.ensures.value c.in_ok-added.ensures.refused in
    let items : c.append-2.new.self.items ≡ map (with_end c.args.parts.now c.args.at) c.self.inside.parts.items ++ new_parts c.self.inside.stream c.self.inside.parts.items c.args.at c.args.parts.now c.args.borders.now = grind (arith, common_steps) in
    let count : c.len-count.result ≡ length c.self.inside.parts.items = grind (arith, common_steps) in
    let made : length c.in_ok-added.added.items ≡ length (new_parts c.self.inside.stream c.self.inside.parts.items c.args.at c.args.parts.now c.args.borders.now) = grind (arith, common_steps) in
    let same : length c.set_births.new.births ≡ length c.self.inside.births.items = grind (arith, common_steps) in
    let more : c.append.new.self.items ≡ c.set_births.new.births ++ replicate (length c.in_ok-added.added.items) (0, 0) = grind (arith, common_steps) in
    let before : c.as_slice-4.result.now ≡ c.self.inside.parts.items = grind (arith, common_steps) in
    let lent : c.as_mut_slice.result.now ≡ c.self.inside.births.items = grind (arith, common_steps) in
    let size : c.len-4.result ≡ length c.in_ok-added.added.items = grind (arith, common_steps) in
    let span = ap (λ (z : ℕ). (c.len-count.result, c.len-count.result + z)) size in
    let marks = same_marks c.self.inside.parts.items c.as_slice-4.result.now c.as_mut_slice.result.now c.self.inside.births.items c.set_births.new.births c.args.parts.now (c.len-count.result, c.len-count.result + c.len-4.result) (c.len-count.result, c.len-count.result + length c.in_ok-added.added.items) before lent span c.set_births.ensures.each in (
      parts_after l c.args.at c.args.parts.now c.args.borders.now c.append-2.new.self.items c.self.invariant.0 none items,
      subst (λ z. AreBirths z c.append.new.self.items) (sym items)
          (births_made l c.args.at c.args.parts.now c.args.borders.now c.self.invariant.0 none c.self.inside.births.items c.set_births.new.births c.append.new.self.items c.len-count.result (length c.in_ok-added.added.items) count made c.self.invariant.1 same
          marks more),
    )
