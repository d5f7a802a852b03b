use Rattle.std.proofs.Common.{subst}
use Rattle.cs_show.specs.Written.{IsUnwritten}
use Rattle.cs_show.specs.declared.shown.ShowFault.{ShowFault}
use Rattle.cs_tool.proofs.Saying.{cut_off}
use Rattle.cs_tool.proofs.top.write_shown.Goals as goal

pub returns-in-Err-Memory-clause-memory : goal.returns-in-Err-Memory-clause-memory
returns-in-Err-Memory-clause-memory g c = λ e.
    let unwritten = subst (λ (f : ShowFault). IsUnwritten c.args.shown.now (g.W.Sink.taken c.args.console.now) (g.W.Sink.taken c.write.new.console) (g.W.Sink.faults c.args.console.now) (g.W.Sink.faults c.write.new.console) f) c.in-Err-Memory.field-0-is c.in-Err-Memory.ensures.cause in
    cut_off c.args.shown.now (g.W.Sink.taken c.args.console.now) (g.W.Sink.taken c.write.new.console) (g.W.Sink.taken c.write_on-in-Err-Memory.new.console) unwritten.1 (c.write_on-in-Err-Memory.ensures.same (λ h. cc)).1
