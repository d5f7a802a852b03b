use Rattle.cs_types.proofs.ReadBack.{reads_back}
use Rattle.cs_types.proofs.laws.written_values_read_back.Goals as goal

pub returns : goal.returns
returns c = reads_back
