use Rattle.cs_read.proofs.Answered.{typed_honest}
use Rattle.cs_read.proofs.laws.typed_reads_are_honest.Goals as goal

pub returns : goal.returns
returns c = typed_honest (record {
  committed = c.captured_is_committed-committed.ensures;
  part = c.steps_are_honest-steps.ensures.part;
  start = c.steps_are_honest-steps.ensures.start;
  first = c.refusals_are_right-refusals.ensures.first;
  none = c.refusals_are_right-refusals.ensures.none;
  tokens = c.tokens_name_parts-tokens.ensures;
})
