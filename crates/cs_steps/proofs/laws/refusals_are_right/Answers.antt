use Rattle.cs_steps.proofs.Refused.{first_right, none_right}
use Rattle.cs_steps.proofs.laws.refusals_are_right.Goals as goal

pub returns : goal.returns
returns c = record { first = first_right; none = none_right c.tokens_name_parts-tokens.ensures }
