use Rattle.cs_partitions.proofs.laws.reshape_keeps_layouts.Goals as goal
use Rattle.cs_partitions.proofs.After.{layout_after}

pub returns : goal.returns
returns c = layout_after
