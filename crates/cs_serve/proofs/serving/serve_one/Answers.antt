use Rattle.cs_serve.proofs.Rightly.{rightly}
use Rattle.cs_serve.proofs.serving.serve_one.Goals as goal

pub returns-clause-right : goal.returns-clause-right
returns-clause-right g c = λ untouched silent still.
    rightly c.args.state.now c.args.moment _ _ _ _ _ _ _ untouched silent still c.serve_request.result c.serve_request.ensures.serving c.serve_request.ensures.cause
