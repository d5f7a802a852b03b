use Rattle.std.proofs.Common.{◌≡◌, to_z, of_z, w32, append_assoc, arith}
use Rattle.jiff_core.proofs.SignedLemmas.{signed_casts}
use Rattle.cs_types.specs.Civil.{date_text}
use Rattle.cs_types.proofs.civil.date_string.Goals as goal

pub returns : goal.returns
unfolding date_text
returns c =
    let back : to_z w32 (of_z w32 c.args.day) ≡ c.args.day = omega (arith, signed_casts, c.requires) in
    simp append_assoc (simp (c.in_ok-year.ensures, c.in_ok-month.ensures, c.in_ok-day.ensures, c.date_parts-year.ensures.year, c.date_parts-year.ensures.month, c.date_parts-year.ensures.day, back) at c.format.ensures.ok)
