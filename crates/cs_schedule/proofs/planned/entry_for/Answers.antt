use Rattle.cs_schedule.proofs.OfBatch.{plans_ordered, first_ordered}
use Rattle.cs_schedule.proofs.planned.entry_for.Goals as goal

pub returns-in-Some-clause-ordered : goal.returns-in-Some-clause-ordered
returns-in-Some-clause-ordered c = plans_ordered c.args.rows.now c.in-Some.token c.args.batch.now c.entry_of.result c.requires.ordered c.requires.may.once c.entry_of.ensures

pub returns-in-None-clause-ordered : goal.returns-in-None-clause-ordered
returns-in-None-clause-ordered c = first_ordered c.args.rows.now _ c.opening.result (c.requires.may.first c.in-None.is) c.opening.ensures
