use Rattle.std.proofs.Common.{take}
use Rattle.cs_types.specs.Names.{HoldsNames}
use Rattle.cs_types.proofs.name_list.set_of.Given as goal

abbrev pub invariant-loop-name : goal.invariant-loop-name
invariant-loop-name l = HoldsNames (take l.name-index l.names) l.set
