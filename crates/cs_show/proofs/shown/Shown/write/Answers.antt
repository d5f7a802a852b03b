use Rattle.std.proofs.Common.{◌≤◌, ap, length, add-one, sym, subst, take, ◌∙◌, arith}
use Rattle.std.specs.Io.KnownBytes.{Appends}
use Rattle.cs_show.specs.Lines.{lines_text}
use Rattle.cs_show.proofs.Written.{all_written, more_written, unwritten}
use Rattle.cs_show.proofs.shown.Shown.write.Goals as goal

pub loop-index-preserved : goal.loop-index-preserved
loop-index-preserved g c = record {
  lines = subst (λ n. Appends (g.W.Sink.taken c.args.console.now) (g.W.Sink.taken c.write_step.new.console) (lines_text (take n c.args.self.now))) (sym (add-one c.loop-index.index))
      (more_written c.args.self.now c.loop-index.index _ _ _ c.loop-index.invariant.lines c.in-Ok.ensures.written);
  calm = c.in-Ok.ensures.calm ∙ c.loop-index.invariant.calm;
  object = g.met.W.Sink.same_then _ _ _ c.loop-index.invariant.object c.write_step.ensures.object;
}

pub write_step-requires : goal.write_step-requires
write_step-requires g c = omega (arith, c.loop-index-test.true, c.steps-count.ensures _ _ c.self.invariant.0, ap length c.self.view_is)

pub returns-in-Err-clause-cause : goal.returns-in-Err-clause-cause
returns-in-Err-clause-cause g c =
    unwritten c.args.self.now c.loop-index.index _ _ _ _ _ _ c.in-Err.fault
    (omega (arith, c.loop-index-test.true, c.steps-count.ensures _ _ c.self.invariant.0, ap length c.self.view_is)) c.loop-index.invariant.lines c.loop-index.invariant.calm c.in-Err.ensures.cause

pub returns-clause-written : goal.returns-clause-written
returns-clause-written g c =
    let end : length c.args.self.now ≤ c.loop-index.index = omega (arith, c.loop-index-test.false, c.steps-count.ensures _ _ c.self.invariant.0, ap length c.self.view_is) in
    all_written c.args.self.now c.loop-index.index _ _ end c.loop-index.invariant.lines
