use Rattle.cs_types.proofs.NumericSpelled.{numeric_spelled}
use Rattle.cs_types.proofs.NumericTold.{numeric_told}
use Rattle.cs_types.proofs.laws.numeric_readings_are_spellings.Goals as goal

pub returns : goal.returns
returns c = λ text n. (numeric_told text n, λ both. numeric_spelled text n both.0 both.1)
