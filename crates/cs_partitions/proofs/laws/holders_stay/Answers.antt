use Rattle.cs_partitions.proofs.laws.holders_stay.Goals as goal
use Rattle.cs_partitions.proofs.Staying.{holder_stays}

pub returns : goal.returns
returns c = holder_stays
