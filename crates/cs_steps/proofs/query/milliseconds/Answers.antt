use Rattle.std.proofs.Common.{arith, ◌<◌, ◌≡◌, ◌*◌, ◌+◌, ◌-◌, get_or, true}
use Rattle.cs_types.specs.Digits.{all_digits}
use Rattle.cs_steps.proofs.Decimals.{too_large}
use Rattle.cs_steps.proofs.query.milliseconds.Goals as goal

pub returns-then-number-gt-MOST : goal.returns-then-number-gt-MOST
returns-then-number-gt-MOST c =
    let i = c.loop-digit.invariant in
    let all : all_digits c.args.digits.now ≡ true = grind (arith, c.are_digits.ensures, c.if-not-are_digits.false) in
    let big : 300000 < c.loop-digit.number * 10 + (get_or c.args.digits.now c.loop-digit.digit-index 0 - 48) = grind (arith, c.if-number-gt-MOST.true) in
    too_large c.args.digits.now c.loop-digit.number c.loop-digit.digit-index (grind (arith, c.loop-digit-test.true)) all i.1 i.2 big
