use Rattle.cs_place.proofs.Tokens.{one_of_a_token}
use Rattle.cs_place.proofs.laws.tokens_name_parts.Goals as goal

pub returns : goal.returns
returns c = one_of_a_token
