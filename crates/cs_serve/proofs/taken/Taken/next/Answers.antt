use Rattle.std.proofs.Common.{◌≡◌, [], drop, List, sym, ◌∙◌, arith}
use Rattle.std.proofs.lemmas.List.{drop_all}
use Rattle.cs_link.specs.declared.reading.Step.{Step}
use Rattle.cs_read.specs.Answers.{answer_steps}
use Rattle.cs_serve.proofs.taken.Taken.next.Goals as goal

pub returns-then-self-steps-clause-gives : goal.returns-then-self-steps-clause-gives
returns-then-self-steps-clause-gives c =
    let all : List Step = answer_steps c.self.inside.state.now c.self.inside.query.now c.self.inside.moment in
    let none : drop c.self.inside.given all ≡ [] = drop_all c.self.inside.given all (omega (arith, c.if-self-steps.true, c.steps.ensures _ all c.self.invariant.0)) in
    (sym c.self.view_is ∙ none, sym c.self.view_is ∙ none)

pub step-requires : goal.step-requires
step-requires c =
    let all : List Step = answer_steps c.self.inside.state.now c.self.inside.query.now c.self.inside.moment in
    (all, c.self.invariant.0, omega (arith, c.if-self-steps.false, c.steps.ensures _ all c.self.invariant.0))
