-- What the law of cs_types says of the texts of moments: they are digits and marks, and each moment has its own.
use Rattle.std.proofs.Common.{◌≡◌, ℕ, ℤ, pos, All}
use Rattle.cs_types.specs.Moment.{IsMoment, moment_text}
use Rattle.cs_types.specs.Stamp.{IsStamp}
use Rattle.cs_types.specs.Texts.{IsMarkOrDigit}

pub record MomentTexts : Type 0 where
  pub plain : (us : ℤ) → IsMoment us → All IsMarkOrDigit (moment_text us)
  pub differ : (a b : ℤ) → IsMoment a → IsMoment b → moment_text a ≡ moment_text b → a ≡ b
  -- a stamp is a moment
  pub stamps : (us : ℕ) → IsStamp us → IsMoment (pos us)
