use Rattle.cs_txn.proofs.OneDatabase.{one_database, types_agree}
use Rattle.cs_txn.proofs.laws.what_fits_is_of_one_database.Goals as goal

pub returns : goal.returns
returns c = record { rows = one_database; types = types_agree }
