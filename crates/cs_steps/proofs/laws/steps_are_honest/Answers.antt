use Rattle.cs_steps.proofs.WholeAnswer.{part_follows}
use Rattle.cs_steps.proofs.Start.{is_feed, start_follows}
use Rattle.cs_steps.proofs.laws.steps_are_honest.Goals as goal

pub returns : goal.returns
returns c = record {
  feed = is_feed;
  part = λ parts items created retention a S few C A. part_follows (record { changes = c.runs_are_told-runs.ensures.changes; sound = c.runs_are_told-runs.ensures.sound }) parts items created retention S few C a A;
  start = start_follows;
}
