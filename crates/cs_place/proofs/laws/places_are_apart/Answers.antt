use Rattle.cs_place.proofs.Order.{rows_apart}
use Rattle.cs_place.proofs.laws.places_are_apart.Goals as goal

pub returns : goal.returns
returns c = record { layout = rows_apart; database = λ a b one. rows_apart a b one.layout }
