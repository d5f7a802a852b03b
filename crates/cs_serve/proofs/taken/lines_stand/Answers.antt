use Rattle.cs_serve.proofs.Standing.{all_stand}
use Rattle.cs_serve.proofs.taken.lines_stand.Goals as goal

pub returns : goal.returns
returns c =
    let state = c.states_are_kept.ensures in
    all_stand c.answers_can_stand-answers.ensures.part c.answers_can_stand-answers.ensures.start c.args.state.now
    (c.scripts_can_stand-script.ensures.kept c.args.state.now state.kept state.catalog state.history) (c.scripts_can_stand-script.ensures.writable c.args.state.now state.kept) state.layouts c.args.query.now c.args.moment
