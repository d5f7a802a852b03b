use Rattle.cs_read.specs.Answers.{answer_steps}
use Rattle.cs_show.proofs.Standing.{stands_at}
use Rattle.cs_show.proofs.shown.Shown.step.Goals as goal

pub returns-clause-stands : goal.returns-clause-stands
returns-clause-stands c =
    let all = answer_steps c.self.inside.state c.self.inside.query c.self.inside.moment in
    stands_at all c.args.index c.step.result (c.step.ensures all c.self.invariant.0) (λ x at. c.answers_can_stand-each.ensures.each all c.args.index x c.self.invariant.1 at)
