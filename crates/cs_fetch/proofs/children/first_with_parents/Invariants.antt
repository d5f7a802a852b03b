use Rattle.std.proofs.Common.{◌≡◌, drop}
use Rattle.cs_fetch.specs.Breach.{first_with_parents}
use Rattle.cs_fetch.proofs.children.first_with_parents.Given as goal

abbrev pub invariant-loop-child : goal.invariant-loop-child
invariant-loop-child l = first_with_parents (drop l.child-index l.children) ≡ first_with_parents l.children
