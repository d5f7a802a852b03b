use Rattle.cs_partitions.proofs.Indexes.{index_found, index_none}
use Rattle.cs_partitions.proofs.laws.indexes_name_parts.Goals as goal

pub returns : goal.returns
returns c = record { found = index_found; none = index_none }
