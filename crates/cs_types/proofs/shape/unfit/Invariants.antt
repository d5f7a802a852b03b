use Rattle.std.proofs.Common.{◌≡◌, drop}
use Rattle.cs_types.specs.ShapeWalk.{unfit}
use Rattle.cs_types.proofs.shape.unfit.Given as goal

abbrev pub invariant-loop-at : goal.invariant-loop-at
invariant-loop-at l = unfit l.at (drop l.at l.pattern) (drop l.at l.text) ≡ unfit 0 l.pattern l.text
