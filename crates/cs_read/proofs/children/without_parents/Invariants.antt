use Rattle.std.proofs.Common.{◌≡◌, map}
use Rattle.cs_steps.specs.Steps.{first_of}
use Rattle.cs_read.proofs.children.without_parents.Given as goal

abbrev pub invariant-loop-part : goal.invariant-loop-part
invariant-loop-part l = l.list ≡ map first_of l.yielded
