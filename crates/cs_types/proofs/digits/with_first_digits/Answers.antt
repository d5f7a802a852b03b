use Rattle.std.proofs.Common.{arith}
use Rattle.cs_types.proofs.Capped.{first_too_large, first_rest, rest_digits, all_read}
use Rattle.cs_types.proofs.digits.with_first_digits.Goals as goal

pub returns-then-left-eq0 : goal.returns-then-left-eq0
returns-then-left-eq0 c = all_read c.loop-rest.longer _ c.loop-rest.left c.loop-rest.rest.now (omega arith) c.loop-rest.invariant.0 c.loop-rest.invariant.2

pub returns-in_err-longer : goal.returns-in_err-longer
returns-in_err-longer c =
    let i = c.loop-rest.invariant in
    rw c.from_residual.ensures (first_too_large c.loop-rest.longer _ c.loop-rest.left c.loop-rest.rest.now (omega arith) (omega arith) i.1 (c.shifted.ensures.none c.in_err-longer.was) i.2)

pub loop-rest-preserved : goal.loop-rest-preserved
loop-rest-preserved c =
    let value = c.in_ok-longer.ensures.value in
    let i = c.loop-rest.invariant in
    let more = first_rest c.loop-rest.longer _ c.loop-rest.left c.loop-rest.rest.now (omega arith) (omega arith) i.1 i.2 in
    (value.1, rest_digits c.loop-rest.rest.now i.1, rw value.0 more)
