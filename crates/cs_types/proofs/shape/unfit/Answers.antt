use Rattle.std.proofs.Common.{◌≡◌, ℕ, ◌<◌, ◌≤◌, length, drop, Some, List, refl, sym, ◌∙◌, arith, drop-cons}
use Rattle.std.proofs.Math.ListN.{drop_of_length-le}
use Rattle.cs_types.specs.ShapeWalk.{unfit}
use Rattle.cs_types.proofs.shape.unfit.Goals as goal

early : (at : ℕ) (pattern text : List ℕ) → at < length pattern → length text ≤ at → unfit at (drop at pattern) (drop at text) ≡ Some at
unfolding unfit
early at pattern text more short = rw (drop-cons pattern at 0 more, drop_of_length-le text short) refl

pub returns-then-at-text : goal.returns-then-at-text
returns-then-at-text c =
    sym (early c.loop-at.at c.args.pattern.now c.args.text.now (omega arith) c.if-at-text.true) ∙ c.loop-at.invariant
