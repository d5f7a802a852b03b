use Rattle.std.proofs.Common.{◌≡◌, ℤ, pos, to_z, of_z, w32, w64, ap, ◌∙◌, arith}
use Rattle.std.specs.Int.{int_div_euclid, int_rem_euclid}
use Rattle.jiff_core.proofs.SignedLemmas.{signed_casts}
use Rattle.cs_types.specs.Moment.{moment_text, day_number, microsecond_of}
use Rattle.cs_types.proofs.MomentTexts.{parts_of_moment}
use Rattle.cs_types.proofs.moment.moment_string.Goals as goal

pub returns : goal.returns
unfolding moment_text day_number microsecond_of
returns c =
    let us = c.args.us in
    let back : to_z w64 (of_z w64 us) ≡ us = omega (arith, signed_casts, c.requires) in
    let parts = parts_of_moment us c.requires in
    let day : c.div_euclid.result ≡ day_number us = c.div_euclid.ensures ∙ ap (λ (z : ℤ). int_div_euclid z (pos 86400000000)) back in
    let past : c.rem_euclid.result ≡ int_rem_euclid us (pos 86400000000) = c.rem_euclid.ensures.value ∙ ap (λ (z : ℤ). int_rem_euclid z (pos 86400000000)) back in
    let cast_day : to_z w32 (of_z w32 (to_z w64 (of_z w64 c.div_euclid.result))) ≡ day_number us = omega (arith, signed_casts, day, parts.0) in
    let cast_past : to_z w64 (of_z w64 c.rem_euclid.result) ≡ int_rem_euclid us (pos 86400000000) = omega (arith, signed_casts, past) in
    simp (c.in_ok-text.ensures, cast_day, cast_past) at c.in_ok-put_clock.ensures
