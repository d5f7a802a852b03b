use Rattle.cs_capture.proofs.Listed.{told}
use Rattle.cs_capture.proofs.laws.told_columns_are_listed.Goals as goal

pub returns : goal.returns
returns c = told
