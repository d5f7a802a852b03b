use Rattle.std.proofs.Common.{◌∙◌, arith}
use Rattle.cs_serve.proofs.Many.{gives_more, next_moment}
use Rattle.cs_serve.proofs.accepting.serve_some.Goals as goal

pub connections-preserved : goal.connections-preserved
connections-preserved g c = record {
  all = λ silent. gives_more c.args.state.now c.args.moment c.args.step_us c.connections.number c.connections.at _ _ _ c.connections.invariant.at_is (c.connections.invariant.all silent) (c.in-Ok.ensures.one silent);
  at_is = next_moment c.args.moment c.args.step_us c.connections.number c.connections.at c.later-at.result c.connections.invariant.at_is c.later-at.ensures;
  few = omega (arith, c.connections-test.true);
  out = c.in-Ok.ensures.out ∙ c.connections.invariant.out;
  object = g.met.A.Accept.same_then _ _ _ c.connections.invariant.object c.in-Ok.ensures.object;
  kept = c.in-Ok.ensures.cause.kept ∙ c.connections.invariant.kept;
}
