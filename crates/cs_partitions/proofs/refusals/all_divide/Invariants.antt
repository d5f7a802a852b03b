use Rattle.std.proofs.Common.{◌≡◌, drop}
use Rattle.cs_partitions.specs.Fault.{all_divide}
use Rattle.cs_partitions.proofs.refusals.all_divide.Given as goal

abbrev pub invariant-loop-border : goal.invariant-loop-border
invariant-loop-border l = all_divide l.range (drop l.border-index l.borders) ≡ all_divide l.range l.borders
