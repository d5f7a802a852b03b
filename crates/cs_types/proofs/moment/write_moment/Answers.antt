use Rattle.cs_types.proofs.MomentTexts.{moment_spelled}
use Rattle.cs_types.proofs.moment.write_moment.Goals as goal

pub returns-in_err-text-clause-spelled : goal.returns-in_err-text-clause-spelled
returns-in_err-text-clause-spelled c = moment_spelled c.args.us c.requires

pub returns-clause-spelled : goal.returns-clause-spelled
returns-clause-spelled c = moment_spelled c.args.us c.requires
