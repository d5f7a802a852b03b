use Rattle.cs_words.proofs.Ranges.{in_range}
use Rattle.cs_words.proofs.laws.options_are_in_range.Goals as goal

pub returns : goal.returns
returns c = in_range
