use Rattle.std.proofs.Common.{subst, arith}
use Rattle.jiff_core.proofs.SignedLemmas.{signed_casts}
use Rattle.cs_types.specs.Stamp.{IsStamp}
use Rattle.cs_types.proofs.StampDays.{day_is}
use Rattle.cs_types.proofs.date_text.day_of.Goals as goal

pub returns-clause-value : goal.returns-clause-value
returns-clause-value c =
    let day = day_is c.args.stamp (subst IsStamp c.us.ensures.value c.us.ensures.range) in
    omega (arith, signed_casts, day, c.us.ensures.value, c.us.ensures.range)
