use Rattle.std.proofs.Common.{◌≡◌, sym, subst, arith, ℕ, ◌<◌, List, length, cond, take, get_or, ◌+◌}
use Rattle.cs_place.specs.declared.part.Part.{Part}
use Rattle.cs_types.specs.Names.{is_among}
use Rattle.cs_partitions.proofs.Births.{births_none, births_some}
use Rattle.cs_partitions.proofs.children.set_births.Goals.{in-Some, in_default}
use Rattle.cs_partitions.proofs.children.set_births.Goals as goal

-- what is said of the births, of equal births
Each : List Part → List (List ℕ) → ℕ × ℕ → List (ℕ × ℕ) → List (ℕ × ℕ) → Type 0
Each parts ts span first births = (i : ℕ) (d : Part) → i < length parts → get_or births i (0, 0) ≡ cond (is_among (get_or parts i d).token ts) span (get_or first i (0, 0))

pub loop-token-preserved : goal.loop-token-preserved
unfolding Each
loop-token-preserved c =
    let level : length c.loop-token.births ≡ length c.args.parts.now = omega (arith, c.loop-token.invariant.count, c.requires.count) in
    record {
      count = omega (arith, c.match-index_named.auto.births, c.loop-token.invariant.count);
      each = elim c.match-index_named.branch [
        | in-Some w ↦ subst (Each c.args.parts.now (take (c.loop-token.token-index + 1) c.args.tokens.now) c.args.span c.args.births.now) (sym w.births-is)
            (births_some c.args.parts.now c.requires.stream c.args.tokens.now c.loop-token.token-index c.token-item.result c.loop-token-test.true c.token-item.is c.loop-token.births c.args.births.now c.args.span level c.loop-token.invariant.each w.in-Some.index (sym w.in-Some.ensures.index))
        | in_default w ↦ subst (Each c.args.parts.now (take (c.loop-token.token-index + 1) c.args.tokens.now) c.args.span c.args.births.now) (sym w.births-is)
            (births_none c.args.parts.now c.requires.stream c.args.tokens.now c.loop-token.token-index c.token-item.result c.loop-token-test.true c.token-item.is c.loop-token.births c.args.births.now c.args.span level c.loop-token.invariant.each (sym w.in_default.ensures.index))
      ];
    }
