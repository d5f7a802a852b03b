use Rattle.std.proofs.Common.{arith}
use Rattle.cs_types.proofs.Capped.{too_large}
use Rattle.cs_types.proofs.digits.with_digits.Goals as goal

pub returns-in_err-longer : goal.returns-in_err-longer
returns-in_err-longer c =
    let i = c.loop-rest.invariant in
    rw c.from_residual.ensures (too_large c.loop-rest.longer _ c.loop-rest.rest.now (omega arith) i.1 (c.shifted.ensures.none c.in_err-longer.was) i.2)
