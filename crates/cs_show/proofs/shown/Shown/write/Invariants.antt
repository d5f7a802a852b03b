use Rattle.std.proofs.Common.{◌≡◌, take}
use Rattle.std.specs.Io.KnownBytes.{Appends}
use Rattle.cs_show.specs.Lines.{lines_text}
use Rattle.cs_show.proofs.shown.Shown.write.Given as goal

abbrev pub invariant-loop-index : goal.invariant-loop-index
invariant-loop-index g l = record {
  lines : Appends (g.W.Sink.taken l.fn.console) (g.W.Sink.taken l.console) (lines_text (take l.index l.self));
  calm : g.W.Sink.faults l.console ≡ g.W.Sink.faults l.fn.console;
  object : g.W.Sink.same l.fn.console l.console;
}
