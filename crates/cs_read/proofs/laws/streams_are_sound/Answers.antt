use Rattle.cs_read.proofs.Answered.{streams_sound}
use Rattle.cs_read.proofs.laws.streams_are_sound.Goals as goal

pub returns : goal.returns
returns c = streams_sound c.captured_is_committed-committed.ensures c.steps_are_honest-steps.ensures.feed
