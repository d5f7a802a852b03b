use Rattle.cs_capture.proofs.Rules.{no_new_cells}
use Rattle.cs_capture.proofs.laws.a_delete_has_no_new_cells.Goals as goal

pub returns : goal.returns
returns c = no_new_cells
