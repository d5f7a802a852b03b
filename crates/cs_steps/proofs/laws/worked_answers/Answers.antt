use Rattle.std.proofs.Common.{refl}
use Rattle.cs_steps.proofs.laws.worked_answers.Goals as goal

pub returns-clause-catches_up : goal.returns-clause-catches_up
returns-clause-catches_up c = refl

pub returns-clause-finishes : goal.returns-clause-finishes
returns-clause-finishes c = refl

pub returns-clause-shifts : goal.returns-clause-shifts
returns-clause-shifts c = refl

pub returns-clause-begins : goal.returns-clause-begins
returns-clause-begins c = refl
