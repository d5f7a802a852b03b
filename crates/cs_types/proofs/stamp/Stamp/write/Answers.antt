use Rattle.std.proofs.Common.{arith}
use Rattle.cs_types.proofs.MomentTexts.{stamp_spelled}
use Rattle.cs_types.proofs.stamp.Stamp.write.Goals as goal

pub returns-clause-spelled : goal.returns-clause-spelled
returns-clause-spelled c = stamp_spelled c.args.self.now (omega (arith, c.self.view_is, c.self.invariant), omega (arith, c.self.view_is, c.self.invariant))
