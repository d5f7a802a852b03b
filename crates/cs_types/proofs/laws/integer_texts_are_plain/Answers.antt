use Rattle.cs_types.proofs.IntegerTexts.{integer_plain}
use Rattle.cs_types.proofs.laws.integer_texts_are_plain.Goals as goal

pub returns : goal.returns
returns c = integer_plain
