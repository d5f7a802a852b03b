use Rattle.cs_capture.proofs.OneDatabase.{apart, one_database}
use Rattle.cs_capture.proofs.laws.changes_are_of_one_database.Goals as goal

pub returns : goal.returns
returns c = record { changes = one_database; apart = apart }
