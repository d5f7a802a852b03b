use Rattle.cs_place.proofs.Order.{table_below}
use Rattle.cs_place.proofs.laws.table_below_its_rows.Goals as goal

pub returns : goal.returns
returns c = table_below
