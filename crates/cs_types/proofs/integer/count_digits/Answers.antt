use Rattle.std.proofs.Common.{arith}
use Rattle.cs_types.proofs.DigitCounts.{one_more, one_digit, few}
use Rattle.cs_types.proofs.integer.count_digits.Goals as goal

pub overflow_add-count : goal.overflow_add-count
overflow_add-count c = omega (arith, c.loop-rest.invariant, few c.args.n (omega arith))

pub loop-rest-preserved : goal.loop-rest-preserved
loop-rest-preserved c = omega (arith, c.loop-rest.invariant, one_more c.loop-rest.rest c.loop-rest-test.true (omega arith))

pub returns-clause-value : goal.returns-clause-value
returns-clause-value c = omega (arith, c.loop-rest.invariant, one_digit c.loop-rest.rest (omega (arith, c.loop-rest-test.false)))

pub returns-clause-few : goal.returns-clause-few
returns-clause-few c = omega (arith, c.loop-rest.invariant, one_digit c.loop-rest.rest (omega (arith, c.loop-rest-test.false)), few c.args.n (omega arith))
