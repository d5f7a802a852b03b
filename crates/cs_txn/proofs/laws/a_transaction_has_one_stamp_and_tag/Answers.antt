use Rattle.cs_txn.proofs.Transactions.{one_transaction}
use Rattle.cs_txn.proofs.laws.a_transaction_has_one_stamp_and_tag.Goals as goal

pub returns : goal.returns
returns c = one_transaction
