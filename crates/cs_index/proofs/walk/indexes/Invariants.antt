use Rattle.std.proofs.Common.{◌≡◌, map}
use Rattle.cs_index.specs.Walk.{index_of}
use Rattle.cs_index.proofs.walk.indexes.Given as goal

abbrev pub invariant-loop-line : goal.invariant-loop-line
invariant-loop-line l = l.parts ≡ map index_of l.yielded
