use Rattle.std.proofs.Common.{◌≡◌, true}
use Rattle.cs_measure.proofs.reads.steps_read.Given as goal

abbrev pub invariant-steps : goal.invariant-steps
invariant-steps g l = g.K.Link.is_reading l.link ≡ true
