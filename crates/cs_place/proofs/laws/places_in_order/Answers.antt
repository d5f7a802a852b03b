use Rattle.cs_place.proofs.Order.{rows_in_order}
use Rattle.cs_place.proofs.laws.places_in_order.Goals as goal

pub returns : goal.returns
returns c = record { layout = rows_in_order; database = λ a b one. rows_in_order a b one.layout }
