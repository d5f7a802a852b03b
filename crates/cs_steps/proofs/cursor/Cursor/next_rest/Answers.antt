use Rattle.cs_steps.proofs.CursorSteps.{gives_list}
use Rattle.cs_steps.proofs.cursor.Cursor.next_rest.Goals as goal

pub returns-then-self-clause-gives : goal.returns-then-self-clause-gives
returns-then-self-clause-gives c = λ s is none. gives_list s c.args.self.now c.in-Some.closing is none c.in-Some.is c.if-self.true
