use Rattle.std.proofs.Common.{◌≡◌, take}
use Rattle.cs_steps.proofs.steps.copied.Given as goal

abbrev pub invariant-loop-child : goal.invariant-loop-child
invariant-loop-child l = l.list ≡ take l.child-index l.children
