use Rattle.cs_capture.proofs.Rules.{no_old_cells}
use Rattle.cs_capture.proofs.laws.an_insert_has_no_old_cells.Goals as goal

pub returns : goal.returns
returns c = no_old_cells
