use Rattle.std.proofs.Common.{arith}
use Rattle.cs_types.proofs.Capped.{zero_too_large, zeros_rest, all_read}
use Rattle.cs_types.proofs.digits.with_zeros.Goals as goal

pub returns-in_err-longer : goal.returns-in_err-longer
returns-in_err-longer c =
    rw c.from_residual.ensures (zero_too_large c.loop-left.longer _ c.loop-left.left (omega arith) (c.shifted.ensures.none c.in_err-longer.was) c.loop-left.invariant.1)

pub loop-left-preserved : goal.loop-left-preserved
loop-left-preserved c =
    let value = c.in_ok-longer.ensures.value in
    (value.1, rw value.0 (zeros_rest c.loop-left.longer _ c.loop-left.left (omega arith) c.loop-left.invariant.1))

pub returns : goal.returns
returns c = all_read c.loop-left.longer _ c.loop-left.left _ c.loop-left-test.false c.loop-left.invariant.0 c.loop-left.invariant.1
