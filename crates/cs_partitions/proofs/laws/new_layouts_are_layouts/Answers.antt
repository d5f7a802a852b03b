use Rattle.cs_partitions.proofs.First.{new_is_layout}
use Rattle.cs_partitions.proofs.laws.new_layouts_are_layouts.Goals as goal

pub returns : goal.returns
returns c = new_is_layout
