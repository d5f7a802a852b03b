use Rattle.std.proofs.Common.{◌≡◌, ℕ, ℤ, pos, Ok, List, to_z, of_z, unsigned_abs, w64, sym, subst, ap, arith}
use Rattle.jiff_core.proofs.SignedLemmas.{signed_casts}
use Rattle.cs_types.specs.Moment.{SpellsBetween}
use Rattle.cs_types.specs.Stamp.{Spells}
use Rattle.cs_types.proofs.Moments.{never_both, same_number}
use Rattle.cs_types.proofs.MomentTexts.{stamp_spelled}
use Rattle.cs_types.proofs.StampReading.{stamp_read, no_stamp}
use Rattle.cs_types.proofs.stamp.Stamp.read.Goals as goal

pub returns-in-Ok-clause-written : goal.returns-in-Ok-clause-written
returns-in-Ok-clause-written c = λ us is e.
    let spelled : Spells c.args.text.now us = subst (λ (t : List ℕ). Spells t us) (sym e) (stamp_spelled us is) in
    let here : SpellsBetween (pos 1) (pos 253402300799999999) c.args.text.now c.in-Ok.us = c.in-Ok.ensures in
    let same : c.in-Ok.us ≡ pos us = same_number _ _ _ _ _ here spelled in
    let number : unsigned_abs (to_z w64 (of_z w64 c.in-Ok.us)) ≡ us = omega (arith, signed_casts, same, is) in
    ap Ok number

pub returns-in-Err-clause-all : goal.returns-in-Err-clause-all
returns-in-Err-clause-all c = λ us spelled. absurd (never_both (pos 1) (pos 253402300799999999) c.args.text.now c.in-Err.fault (pos us) c.in-Err.ensures spelled)

pub returns-in-Err-clause-written : goal.returns-in-Err-clause-written
returns-in-Err-clause-written c = λ us is e.
    let spelled : Spells c.args.text.now us = subst (λ (t : List ℕ). Spells t us) (sym e) (stamp_spelled us is) in
    absurd (never_both (pos 1) (pos 253402300799999999) c.args.text.now c.in-Err.fault (pos us) c.in-Err.ensures spelled)

pub returns-in-Ok-clause-reading : goal.returns-in-Ok-clause-reading
returns-in-Ok-clause-reading c =
    let here : SpellsBetween (pos 1) (pos 253402300799999999) c.args.text.now c.in-Ok.us = c.in-Ok.ensures in
    let number : c.in-Ok.us ≡ pos (unsigned_abs (to_z w64 (of_z w64 c.in-Ok.us))) = omega (arith, signed_casts, here.range) in
    sym (stamp_read c.args.text.now _ (subst (λ (z : ℤ). SpellsBetween (pos 1) (pos 253402300799999999) c.args.text.now z) number here))

pub returns-in-Err-clause-reading : goal.returns-in-Err-clause-reading
returns-in-Err-clause-reading c = sym (no_stamp c.args.text.now c.in-Err.fault c.in-Err.ensures)
