use Rattle.cs_steps.proofs.Committed.{committed}
use Rattle.cs_steps.proofs.laws.captured_is_committed.Goals as goal

pub returns : goal.returns
returns c = committed (record { columns = c.captured_changes_can_be_grouped-grouped.ensures.columns; transaction = c.captured_changes_can_be_grouped-grouped.ensures.transaction })
