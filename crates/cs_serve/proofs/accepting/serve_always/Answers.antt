use Rattle.std.proofs.Common.{◌+◌, ◌∙◌}
use Rattle.cs_serve.proofs.Many.{gives_more, next_moment}
use Rattle.cs_serve.proofs.accepting.serve_always.Goals as goal

pub connections-preserved : goal.connections-preserved
connections-preserved g c =
    let before = c.connections.invariant.all in
    record {
      all = (
        before.0 + 1,
        next_moment c.args.moment c.args.step_us before.0 c.connections.at c.later-at.result before.1 c.later-at.ensures,
        (λ silent. gives_more c.args.state.now c.args.moment c.args.step_us before.0 c.connections.at _ _ _ before.1 (before.2 silent) (c.in-Ok.ensures.one silent)),
      );
      out = c.in-Ok.ensures.out ∙ c.connections.invariant.out;
      object = g.met.A.Accept.same_then _ _ _ c.connections.invariant.object c.in-Ok.ensures.object;
      kept = c.in-Ok.ensures.cause.kept ∙ c.connections.invariant.kept;
    }
