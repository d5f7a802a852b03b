use Rattle.std.proofs.Common.{◌≡◌, map, take}
use Rattle.cs_partitions.specs.Reshape.{with_end}
use Rattle.cs_partitions.proofs.finding.end_all.Given as goal

abbrev pub invariant-loop-token : goal.invariant-loop-token
invariant-loop-token l = l.parts ≡ map (with_end (take l.token-index l.tokens) l.at) l.fn.parts
