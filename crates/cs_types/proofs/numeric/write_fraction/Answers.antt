use Rattle.std.proofs.Common.{◌<◌, ◌-◌, ◌/◌, string_bytes, ℕ, List, [], ◌∷◌, ◌++◌, ap, ◌∙◌, arith}
use Rattle.cs_types.proofs.NumericWriting.{ten_pow_pos, fraction_end, pushed, rest_below, digit_below}
use Rattle.cs_types.proofs.numeric.write_fraction.Goals as goal

pub nonzero_div-rest : goal.nonzero_div-rest
nonzero_div-rest c = rw c.power_of_ten-unit.ensures (ten_pow_pos (c.loop-rest.places - 1))

pub digit-requires : goal.digit-requires
digit-requires c = rw c.power_of_ten-unit.ensures (digit_below c.loop-rest.places c.loop-rest.rest c.loop-rest-test.true c.loop-rest.invariant.1)

pub nonzero_rem-rest : goal.nonzero_rem-rest
nonzero_rem-rest c = rw c.power_of_ten-unit.ensures (ten_pow_pos (c.loop-rest.places - 1))

pub loop-rest-preserved : goal.loop-rest-preserved
loop-rest-preserved c =
    let i = c.loop-rest.invariant in
    let low : c.loop-rest.rest / c.power_of_ten-unit.result < 10 = rw c.power_of_ten-unit.ensures (digit_below c.loop-rest.places c.loop-rest.rest c.loop-rest-test.true i.1) in
    let glyph = c.in_ok-push-2.ensures.ascii (omega (arith, low, c.digit.ensures)) ∙ ap (λ (d : ℕ). d ∷ []) c.digit.ensures in
    let longer = c.in_ok-push-2.ensures.bytes ∙ ap (λ (e : List ℕ). string_bytes c.loop-rest.text ++ e) glyph in (
      omega arith,
      rw c.power_of_ten-unit.ensures (rest_below (c.loop-rest.places - 1) c.loop-rest.rest),
      pushed (string_bytes c.loop-rest.text) _ _ c.loop-rest.places c.loop-rest.rest c.power_of_ten-unit.result longer c.power_of_ten-unit.ensures c.loop-rest-test.true i.1 i.2,
    )

pub returns : goal.returns
returns c = fraction_end _ c.loop-rest.places c.loop-rest.rest _ c.loop-rest-test.false c.loop-rest.invariant.2
