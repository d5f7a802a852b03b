use Rattle.std.proofs.Common.{Option, subst}
use Rattle.std.specs.Prelude.{Ok}
use Rattle.cs_link.specs.declared.reading.Step.{Step}
use Rattle.cs_types.specs.declared.memory.Memory.{Memory}
use Rattle.cs_read.specs.Content.{GivesNext, steps_ahead}
use Rattle.cs_server.proofs.Views.{gives_step}
use Rattle.cs_server.proofs.going.next_of.Goals as goal

pub returns-clause-gives : goal.returns-clause-gives
returns-clause-gives c = λ all g.
    let of = c.stream_of-of.result in
    let gives = subst (λ (o : Option Step). GivesNext {E = Memory} (Ok o) (steps_ahead of c.in-Some-going.reading) (steps_ahead of c.next.new.self)) c.in-Some-2.is c.in_ok-step.ensures.gives in
    gives_step c.args.state.now all c.args.kept.now c.args.going.now c.in-Some.kept c.in-Some-going.reading c.next.new.self of c.in-Some-2.step c.in-Some.is c.in-Some-going.is c.stream_of-of.ensures c.in_ok-step.ensures.reading gives g
