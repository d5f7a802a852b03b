use Rattle.std.proofs.Common.{IfSome, subst}
use Rattle.cs_tool.specs.Answers.{IsAuditStatus, IsJudgedIn, IsBadTextIn}
use Rattle.cs_tool.proofs.OnScripts.{on_script, of_told}
use Rattle.cs_tool.proofs.check.check.Goals as goal

pub returns-in-Ok-bytes_of-clause-verdict : goal.returns-in-Ok-bytes_of-clause-verdict
returns-in-Ok-bytes_of-clause-verdict g c = λ v e.
    let judged = subst (IsAuditStatus c.in-Ok.state c.args.window.now c.in-Some.stream.now c.deref.result.now) e c.judge.ensures in
    on_script (g.S.Source.left c.args.script.now) c.in-Ok.state (λ db. IfSome (g.O.Disk.seen c.args.output.now) (IsJudgedIn db c.args.window.now v)) c.in-Ok.ensures.made
    (of_told (g.O.Disk.seen c.args.output.now) c.in-Ok-bytes_of.bytes.items (IsJudgedIn c.in-Ok.state c.args.window.now v) c.in-Ok-bytes_of.ensures.bytes
    (subst (IsJudgedIn c.in-Ok.state c.args.window.now v) c.deref.ensures.value (record { stream = c.in-Some.stream.now; there = c.in-Some.ensures; lines = judged.0; read = judged.1; judged = judged.2; not_complete = judged.3 })))

pub returns-in-Ok-bytes_of-clause-bad_output : goal.returns-in-Ok-bytes_of-clause-bad_output
returns-in-Ok-bytes_of-clause-bad_output g c = λ line e.
    let bad = subst (IsAuditStatus c.in-Ok.state c.args.window.now c.in-Some.stream.now c.deref.result.now) e c.judge.ensures in
    on_script (g.S.Source.left c.args.script.now) c.in-Ok.state (λ db. IfSome (g.O.Disk.seen c.args.output.now) (IsBadTextIn db c.args.window.now line)) c.in-Ok.ensures.made
    (of_told (g.O.Disk.seen c.args.output.now) c.in-Ok-bytes_of.bytes.items (IsBadTextIn c.in-Ok.state c.args.window.now line) c.in-Ok-bytes_of.ensures.bytes
    (subst (IsBadTextIn c.in-Ok.state c.args.window.now line) c.deref.ensures.value (record { stream = c.in-Some.stream.now; there = c.in-Some.ensures; bad = bad })))
