use Rattle.cs_answer_lines.proofs.WholeAnswer.{part_stands, start_stands, each_stands}
use Rattle.cs_answer_lines.proofs.laws.answers_can_stand.Goals as goal

pub returns : goal.returns
returns c = record {
  part = part_stands (record { columns = c.captured_changes_can_be_grouped-grouped.ensures.columns; types = c.captured_changes_can_be_grouped-grouped.ensures.types }) c.captured_is_committed-committed.ensures;
  start = start_stands;
  each = each_stands;
}
