use Rattle.std.proofs.Common.{◌∙◌, sym}
use Rattle.cs_server.proofs.Asks.{refusal_at_is}
use Rattle.cs_server.proofs.opening.refusal_at.Goals as goal

pub returns : goal.returns
returns c = c.refusal.ensures ∙ sym (refusal_at_is c.args.state.now c.args.place c.stream_at.result.now c.layout_at.result.now c.stream_at.ensures c.layout_at.ensures.layout c.args.args.now c.args.moment)
