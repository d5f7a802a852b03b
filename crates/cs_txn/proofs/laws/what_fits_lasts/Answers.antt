use Rattle.cs_txn.proofs.Lasting.{fits_grown, history_grown}
use Rattle.cs_txn.proofs.laws.what_fits_lasts.Goals as goal

pub returns : goal.returns
returns c = record { one = fits_grown; history = history_grown }
