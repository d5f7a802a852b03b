use Rattle.std.proofs.Common.{subst}
use Rattle.cs_schedule.specs.Spelling.{IsInFormat}
use Rattle.cs_follow_worked.proofs.merges.begun.Goals as goal

pub begin-requires : goal.begin-requires
begin-requires c = subst IsInFormat c.in-Begin.is ((c.in_ok-entry.ensures.exact c.in-Some.entry).0 c.in-Some.is).in_format
