use Rattle.std.proofs.Common.{◌≡◌, ◌∙◌, ◌++◌, List, ℕ, ap, map}
use Rattle.cs_output.specs.Output.{of_change, text_of_lines}
use Rattle.cs_schedule.specs.Rows.{changes_in}
use Rattle.cs_text.specs.Adding.{mark_lines}
use Rattle.cs_text.proofs.Marks.{lines_agree, now_is}
use Rattle.cs_text.proofs.telling.added_text.Goals as goal

pub returns-clause-added : goal.returns-clause-added
returns-clause-added c = λ w es is low.
    let lines = text_of_lines (map of_change (changes_in c.args.entry.now)) ++ text_of_lines (mark_lines c.args.marked c.args.mark) in (
      c.in_ok-text.ensures ∙ c.in_ok-marked.ensures.lines ∙ ap (λ (l : List ℕ). l ++ lines) c.new-lines.ensures ∙ lines_agree w es c.args.entry.now c.args.marked c.args.mark is low,
      c.in_ok-marked.ensures.now ∙ now_is w es c.args.entry.now c.args.marked c.args.mark is low,
    )
