use Rattle.std.proofs.Common.{◌≡◌, drop}
use Rattle.cs_fetch.specs.Breach.{first_without}
use Rattle.cs_fetch.proofs.children.first_without.Given as goal

abbrev pub invariant-loop-child : goal.invariant-loop-child
invariant-loop-child l = first_without l.part (drop l.child-index l.children) ≡ first_without l.part l.children
