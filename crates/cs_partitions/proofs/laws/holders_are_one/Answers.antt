use Rattle.cs_partitions.proofs.One.{holder_one}
use Rattle.cs_partitions.proofs.laws.holders_are_one.Goals as goal

pub returns : goal.returns
returns c = holder_one
