use Rattle.cs_steps.proofs.CursorSteps.{gives_cut}
use Rattle.cs_steps.proofs.cursor.Cursor.cut.Goals as goal

pub returns-clause-gives : goal.returns-clause-gives
returns-clause-gives c = λ s is none more. gives_cut s c.args.self.now is none more
