use Rattle.cs_partitions.proofs.One.{live_one}
use Rattle.cs_partitions.proofs.laws.live_lists_are_one.Goals as goal

pub returns : goal.returns
returns c = live_one
