use Rattle.std.proofs.Common.{List, ℕ, subst}
use Rattle.cs_tool.specs.Answers.{IsAuditStatus}
use Rattle.cs_tool.proofs.Generating.{judged}
use Rattle.cs_tool.proofs.generated.audited.Goals as goal

pub returns : goal.returns
returns c = record {
  complete = tt;
  refused = judged c.args.state.now c.args.window.now c.args.stream.now _ c.judge.result c.in_ok-output.ensures.ended (subst (λ (t : List ℕ). IsAuditStatus c.args.state.now c.args.window.now c.args.stream.now t c.judge.result) c.bytes.ensures c.judge.ensures) c.in_default.not-Ended;
}
