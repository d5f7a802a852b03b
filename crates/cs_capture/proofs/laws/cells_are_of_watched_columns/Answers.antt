use Rattle.cs_capture.proofs.Rules.{of_watched}
use Rattle.cs_capture.proofs.laws.cells_are_of_watched_columns.Goals as goal

pub returns : goal.returns
returns c = of_watched
