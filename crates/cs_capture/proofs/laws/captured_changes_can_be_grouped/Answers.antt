use Rattle.cs_capture.proofs.Grouped.{has_columns, agree, of_their_types}
use Rattle.cs_capture.proofs.Transactions.{agree_in_history}
use Rattle.cs_capture.proofs.laws.captured_changes_can_be_grouped.Goals as goal

pub returns : goal.returns
returns c = record { columns = has_columns; types = of_their_types; transaction = agree_in_history; agree = agree }
