use Rattle.cs_types.proofs.OneValue.{one_value}
use Rattle.cs_types.proofs.laws.written_values_differ.Goals as goal

pub returns : goal.returns
returns c = one_value
