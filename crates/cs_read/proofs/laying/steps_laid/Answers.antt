use Rattle.std.proofs.Common.{List, sym, subst, arith}
use Rattle.cs_steps.specs.Cursor.{steps_left}
use Rattle.cs_read.specs.declared.laying.LaidStep.{LaidStep}
use Rattle.cs_read.specs.Laid.{LaidOut}
use Rattle.cs_read.proofs.Laid.{laid_more}
use Rattle.cs_read.proofs.laying.steps_laid.Goals as goal

pub loop-place-preserved : goal.loop-place-preserved
loop-place-preserved c = record {
  within = omega (arith, c.in-Some.ensures.kept.0, c.loop-place.invariant.within);
  gap = omega (arith, c.in-Some.ensures.kept.1, c.loop-place.invariant.gap);
  laid = λ s i h.
      let before = c.loop-place.invariant.laid s i h in
      subst (λ (ps : List LaidStep). LaidOut s (steps_left s c.args.cursor) c.advance.new.self ps) (sym c.in_ok-push.ensures.ok)
      (laid_more s (steps_left s c.args.cursor) c.loop-place.cursor c.advance.new.self c.loop-place.steps c.laid.result c.in-Some.place c.laid.ensures before (c.in-Some.ensures.gives s before.cursor h));
}
