use Rattle.std.proofs.Common.{◌≢◌, List, sym, subst, ◌∙◌, rules}
use Rattle.cs_audit.specs.Audit.{IsVerdict}
use Rattle.cs_audit.specs.declared.verdict.Verdict.TheVariants.{Complete}
use Rattle.cs_types.specs.declared.change.Change.{Change}
use Rattle.cs_output.specs.Output.{IsComplete}
use Rattle.cs_output.specs.Reading.{AreLinesOf}
use Rattle.cs_output.specs.declared.reading.Line.{Line}
use Rattle.cs_tool.proofs.check.judge.Goals as goal

pub returns-in-Ok-Complete : goal.returns-in-Ok-Complete
returns-in-Ok-Complete c =
    let read : AreLinesOf c.args.text.now c.as_slice.result.now = subst (λ (l : List Line). AreLinesOf c.args.text.now l) (sym c.as_slice.ensures) c.in-Ok.ensures.exact in
    let complete = c.in-Ok-Complete.ensures.complete c.args.text.now read in
    subst (λ (w : List Change). IsComplete c.args.text.now w c.args.window.now.end) (c.as_slice-2.ensures ∙ c.in-Ok-changes_in.ensures.changes) (complete.0 c.in-Ok-Complete.field-0-is)

pub returns-in-Ok-audit : goal.returns-in-Ok-audit
returns-in-Ok-audit c =
    let read : AreLinesOf c.args.text.now c.as_slice.result.now = subst (λ (l : List Line). AreLinesOf c.args.text.now l) (sym c.as_slice.ensures) c.in-Ok.ensures.exact in
    let complete = c.in-Ok-audit.ensures.complete c.args.text.now read in
    let not : c.in-Ok-audit.verdict ≢ Complete = search rules in
    let wanted = c.as_slice-2.ensures ∙ c.in-Ok-changes_in.ensures.changes in (
      c.as_slice.result.now,
      read,
      subst (λ (w : List Change). IsVerdict c.in-Ok-audit.verdict c.as_slice.result.now w c.args.window.now.end) wanted c.in-Ok-audit.ensures.verdict,
      not,
      λ is. not (complete.1 (subst (λ (w : List Change). IsComplete c.args.text.now w c.args.window.now.end) (sym wanted) is)),
    )
