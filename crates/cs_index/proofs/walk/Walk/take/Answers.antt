use Rattle.cs_index.proofs.Walking.{taken, fit_kept, on_ok}
use Rattle.cs_index.proofs.walk.Walk.take.Goals as goal

pub give-requires-clause-fit : goal.give-requires-clause-fit
give-requires-clause-fit c = fit_kept c.args.self.now c.go_to.new.self c.args.item.now c.requires.fit c.in_ok-go_to.ensures.stays c.in_ok-go_to.ensures.begins

pub returns-clause-walk : goal.returns-clause-walk
returns-clause-walk c = λ tables stream ms front N W.
    let laws = c.index_is_the_definition-index.ensures in
    on_ok c.give.result
    (taken laws.takes laws.passes laws.ends laws.cuts tables stream ms front c.args.self.now c.go_to.new.self c.give.new.self c.args.index c.args.source c.args.item.now c.args.captured N W c.in_ok-go_to.ensures.stays c.in_ok-go_to.ensures.begins)
    c.give.ensures
