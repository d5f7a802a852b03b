use Rattle.std.proofs.Common.{◌≡◌, ◌-◌, drop}
use Rattle.cs_types.specs.ShapeWalk.{closing}
use Rattle.cs_types.proofs.moment.closing_fault.Given as goal

abbrev pub invariant-loop-at : goal.invariant-loop-at
invariant-loop-at l = closing (29 - l.at) l.at (drop l.at l.text) ≡ closing 8 21 (drop 21 l.text)
