use Rattle.cs_types.specs.Exact.{same_row-is}
use Rattle.cs_types.proofs.laws.same_row_is_equality.Goals as goal

pub returns : goal.returns
returns c = same_row-is
