use Rattle.cs_types.proofs.Moments.{all_read}
use Rattle.cs_types.proofs.moment.read_moment.Goals as goal

pub returns-clause-all : goal.returns-clause-all
returns-clause-all c = all_read _ _ c.args.text.now c.read_between.result c.read_between.ensures
