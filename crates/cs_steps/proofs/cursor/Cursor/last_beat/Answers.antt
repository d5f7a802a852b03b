use Rattle.std.proofs.Common.{◌<◌, sym, subst, arith}
use Rattle.cs_steps.specs.Cursor.{Gives}
use Rattle.cs_steps.proofs.CursorSteps.{gives_last, has_last}
use Rattle.cs_steps.proofs.cursor.Cursor.last_beat.Goals as goal

pub returns-then-self-eq0-clause-gives : goal.returns-then-self-eq0-clause-gives
returns-then-self-eq0-clause-gives c = λ s is past due. c.cut.ensures.gives s is c.if-self-eq0.true (has_last s c.args.self.now past due)

pub returns-clause-gives : goal.returns-clause-gives
returns-clause-gives c = λ s is past due.
    let some : 0 < c.args.self.now.left = omega (arith, c.if-self-eq0.false) in
    let gives = gives_last s c.args.self.now c.requires.goes is past some due in
    subst (λ place. Gives s c.args.self.now place c.beat.new.self) (sym c.beat.ensures.place) (subst (Gives s c.args.self.now _) (sym c.beat.ensures.cursor) gives)
