use Rattle.std.proofs.Common.{take}
use Rattle.cs_fetch.specs.Sets.{HoldsSeen}
use Rattle.cs_fetch.proofs.kept.set_of.Given as goal

abbrev pub invariant-loop-one : goal.invariant-loop-one
invariant-loop-one l = HoldsSeen (take l.one-index l.list) l.set
