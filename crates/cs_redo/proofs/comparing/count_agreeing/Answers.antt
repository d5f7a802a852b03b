use Rattle.std.proofs.Common.{arith}
use Rattle.cs_redo.proofs.Counts.{ended_right}
use Rattle.cs_redo.proofs.comparing.count_agreeing.Goals as goal

pub returns-else-count-other-clause-count : goal.returns-else-count-other-clause-count
returns-else-count-other-clause-count c =
    omega (arith, c.bytes.invariant.so_far, ended_right c.args.one.now c.args.other.now c.bytes.count (omega (arith, c.if-count-other.false)))
