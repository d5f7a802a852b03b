use Rattle.cs_types.proofs.DateTexts.{date_spelled}
use Rattle.cs_types.proofs.civil.write_date.Goals as goal

pub returns-in_err-text-clause-spelled : goal.returns-in_err-text-clause-spelled
returns-in_err-text-clause-spelled c = date_spelled c.args.day c.requires

pub returns-clause-spelled : goal.returns-clause-spelled
returns-clause-spelled c = date_spelled c.args.day c.requires
