use Rattle.cs_capture.proofs.Rules.{whole_row}
use Rattle.cs_capture.proofs.laws.a_new_row_is_whole.Goals as goal

pub returns : goal.returns
returns c = whole_row
