use Rattle.cs_schedule.proofs.Payloads.{payload_differs}
use Rattle.cs_schedule.proofs.growing.payloads_differ.Goals as goal

pub returns : goal.returns
returns c = payload_differs
