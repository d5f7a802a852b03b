-- A text of twenty bytes that spells a stamp is the stamp's one written text, and each whole second's written text has twenty bytes.
use Rattle.std.proofs.Common.{◌≡◌, ℕ, zero, suc, ◌+◌, ◌-◌, ◌*◌, ◌/◌, ◌%◌, ◌<◌, ◌≤◌, List, [], ◌∷◌, ◌++◌, codes, length, replicate, IsTrue, false, eqb, refl, sym, ap, ap₂, subst, ◌∙◌, arith, ℤ, pos, ◌+ℤ◌, ◌*ℤ◌}
use Rattle.std.proofs.lemmas.List.{length-append}
use Rattle.jiff_core.specs.Calendar.{days_from_civil}
use Rattle.jiff_core.proofs.SignedLemmas.{signed_arith}
use Rattle.cs_types.specs.Shape.{allows, Fits, two_digits}
use Rattle.cs_types.specs.Civil.{IsCivil, year_field, month_field, day_field, date_text}
use Rattle.cs_types.specs.Moment.{fraction_pattern, hour_field, minute_field, second_field, clock_field, nanosecond_field, moment_field, tenths, microsecond_of, day_number, clock_text, moment_text}
use Rattle.cs_types.specs.Stamp.{IsStamp, Spells, stamp_text}
use Rattle.cs_types.proofs.Patterns.{length_of_fit}
use Rattle.cs_types.proofs.Calendar.{year_of_is, month_of_is, day_of_is}
use Rattle.cs_types.proofs.DateTexts.{fields_text, fields_number}
use Rattle.cs_types.proofs.MomentTexts.{time_text, parts_text, parts_of_moment, stamp_moment}

-- ---- a text of the shape with no fraction, by its fields

digit : (b : ℕ) → IsTrue (allows 100 b) → (48 ≤ b) × (b ≤ 57)
digit b h = (grind (arith, h), grind (arith, h))

marked : (m b : ℕ) → eqb m 100 ≡ false → IsTrue (allows m b) → b ≡ m
marked m b other h = grind (arith, other, h)

-- what stands behind the part of a text that fits a part of a pattern
record IsBehind (part ms text : List ℕ) : Type 0 where
  rest : List ℕ
  is : text ≡ part ++ rest
  fits : Fits ms rest

two_from : (ms text : List ℕ) → Fits (100 ∷ 100 ∷ ms) text → (n : ℕ) × (n < 100) × IsBehind (two_digits n) ms text
two_from ms [] f = absurd f
two_from ms (a ∷ []) f = absurd f.1
two_from ms (a ∷ b ∷ rest) f =
    let ten = digit a f.0 in
    let one = digit b f.1.0 in
    let n = (a - 48) * 10 + (b - 48) in
    let first : a ≡ 48 + n / 10 = omega (arith, ten, one) in
    let second : b ≡ 48 + n % 10 = omega (arith, ten, one) in
    (n, omega (arith, ten, one), record { rest = rest; is = ap₂ (λ x y. x ∷ y ∷ rest) first second; fits = f.1.1 })

mark_from : (m : ℕ) (ms text : List ℕ) → eqb m 100 ≡ false → Fits (m ∷ ms) text → IsBehind (m ∷ []) ms text
mark_from m ms [] other f = absurd f
mark_from m ms (b ∷ rest) other f = record { rest = rest; is = ap (λ x. x ∷ rest) (marked m b other f.0); fits = f.1 }

nil_from : (text : List ℕ) → Fits [] text → text ≡ []
nil_from [] f = refl
nil_from (b ∷ bs) f = absurd f

-- the text of a date and a time of day
record IsSecondText (text : List ℕ) : Type 0 where
  year : ℕ
  month : ℕ
  day : ℕ
  hour : ℕ
  minute : ℕ
  second : ℕ
  is : text ≡ parts_text year month day hour minute second []

four_is : (a b : ℕ) (tail : List ℕ) → b < 100 → two_digits a ++ (two_digits b ++ tail) ≡ two_digits ((a * 100 + b) / 100) ++ (two_digits ((a * 100 + b) % 100) ++ tail)
four_is a b tail small =
    let high : a ≡ (a * 100 + b) / 100 = omega (arith, small) in
    let low : b ≡ (a * 100 + b) % 100 = omega (arith, small) in
    ap₂ (λ x y. two_digits x ++ (two_digits y ++ tail)) high low

second_text : (text : List ℕ) → Fits (codes "dddd-dd-ddTdd:dd:ddZ") text → IsSecondText text
second_text text f =
    let high = two_from (codes "dd-dd-ddTdd:dd:ddZ") text f in
    let low = two_from (codes "-dd-ddTdd:dd:ddZ") high.2.rest high.2.fits in
    let dash = mark_from 45 (codes "dd-ddTdd:dd:ddZ") low.2.rest refl low.2.fits in
    let month = two_from (codes "-ddTdd:dd:ddZ") dash.rest dash.fits in
    let other = mark_from 45 (codes "ddTdd:dd:ddZ") month.2.rest refl month.2.fits in
    let day = two_from (codes "Tdd:dd:ddZ") other.rest other.fits in
    let t = mark_from 84 (codes "dd:dd:ddZ") day.2.rest refl day.2.fits in
    let hour = two_from (codes ":dd:ddZ") t.rest t.fits in
    let colon = mark_from 58 (codes "dd:ddZ") hour.2.rest refl hour.2.fits in
    let minute = two_from (codes ":ddZ") colon.rest colon.fits in
    let last = mark_from 58 (codes "ddZ") minute.2.rest refl minute.2.fits in
    let second = two_from (codes "Z") last.rest last.fits in
    let z = mark_from 90 [] second.2.rest refl second.2.fits in
    let clock : t.rest ≡ two_digits hour.0 ++ 58 ∷ two_digits minute.0 ++ 58 ∷ two_digits second.0 ++ 90 ∷ [] =
    hour.2.is ∙ ap (λ l. two_digits hour.0 ++ l) (colon.is ∙ ap (λ l. 58 ∷ l) (minute.2.is ∙ ap (λ l. two_digits minute.0 ++ l)
    (last.is ∙ ap (λ l. 58 ∷ l) (second.2.is ∙ ap (λ l. two_digits second.0 ++ l) (z.is ∙ ap (λ l. 90 ∷ l) (nil_from z.rest z.fits)))))) in
    let date : low.2.rest ≡ 45 ∷ two_digits month.0 ++ 45 ∷ two_digits day.0 ++ 84 ∷ two_digits hour.0 ++ 58 ∷ two_digits minute.0 ++ 58 ∷ two_digits second.0 ++ 90 ∷ [] =
    dash.is ∙ ap (λ l. 45 ∷ l) (month.2.is ∙ ap (λ l. two_digits month.0 ++ l) (other.is ∙ ap (λ l. 45 ∷ l) (day.2.is ∙ ap (λ l. two_digits day.0 ++ l) (t.is ∙ ap (λ l. 84 ∷ l) clock)))) in
    record {
      year = high.0 * 100 + low.0;
      month = month.0;
      day = day.0;
      hour = hour.0;
      minute = minute.0;
      second = second.0;
      is = high.2.is ∙ ap (λ l. two_digits high.0 ++ l) (low.2.is ∙ ap (λ l. two_digits low.0 ++ l) date) ∙ four_is high.0 low.0 _ low.1;
    }

-- twenty bytes leave no room for a fraction
no_fraction : (n : ℕ) (text : List ℕ) → Fits (codes "dddd-dd-ddTdd:dd:dd" ++ fraction_pattern n) text → length text ≡ 20 → Fits (codes "dddd-dd-ddTdd:dd:ddZ") text
no_fraction zero text f e = f
no_fraction (suc n) text f e = absurd (omega (arith, e, length_of_fit (codes "dddd-dd-ddTdd:dd:dd" ++ fraction_pattern (suc n)) text f, length-append (replicate (suc n) 100) (codes "Z")))

-- ---- the stamp that the fields tell

module _ (y mo d h mi s us : ℕ) (spells : Spells (parts_text y mo d h mi s []) us) where
  abbrev text : List ℕ
  text = parts_text y mo d h mi s []

  civil : IsCivil y mo d
  civil =
      let year : year_field text ≡ y = omega arith in
      let month : month_field text ≡ mo = omega arith in
      let day : day_field text ≡ d = omega arith in
      subst (λ (n : ℕ). IsCivil n mo d) year (subst (λ (n : ℕ). IsCivil (year_field text) n d) month (subst (λ (n : ℕ). IsCivil (year_field text) (month_field text) n) day spells.civil.date))

  hour_small : h < 24
  hour_small = let is : hour_field text ≡ h = omega arith in omega (arith, is, spells.civil.clock.hour)

  minute_small : mi < 60
  minute_small = let is : minute_field text ≡ mi = omega arith in omega (arith, is, spells.civil.clock.minute)

  second_small : s < 60
  second_small = let is : second_field text ≡ s = omega arith in omega (arith, is, spells.civil.clock.second)

  abbrev past : ℕ
  past = (h * 60 + mi) * 60 + s

  clock_is : clock_field text ≡ past
  clock_is =
      let hour : hour_field text ≡ h = omega arith in
      let minute : minute_field text ≡ mi = omega arith in
      let second : second_field text ≡ s = omega arith in
      omega (arith, hour, minute, second)

  nanoseconds_none : nanosecond_field text ≡ 0
  unfolding tenths
  nanoseconds_none = refl

  moment_is : moment_field text ≡ days_from_civil (pos y) mo d *ℤ pos 86400000000000 +ℤ pos (past * 1000000000)
  unfolding moment_field
  moment_is = omega (arith, signed_arith, fields_number y mo d (time_text h mi s ++ [] ++ codes "Z"), clock_is, nanoseconds_none)

  number : days_from_civil (pos y) mo d *ℤ pos 86400000000000 +ℤ pos (past * 1000000000) ≡ pos us *ℤ pos 1000
  number = sym moment_is ∙ spells.number

  parts : (day_number (pos us) *ℤ pos 86400000000 +ℤ pos (microsecond_of (pos us)) ≡ pos us) × (microsecond_of (pos us) < 86400000000)
  parts =
      let is : IsStamp us = (omega (arith, signed_arith, spells.range.0), omega (arith, signed_arith, spells.range.1)) in
      let all = parts_of_moment (pos us) (stamp_moment us is) in
      (all.2, all.1)

  past_small : past < 86400
  past_small = omega (arith, hour_small, minute_small, second_small)

  day_is : day_number (pos us) ≡ days_from_civil (pos y) mo d
  day_is = omega (arith, signed_arith, number, parts.0, parts.1, past_small)

  past_is : microsecond_of (pos us) ≡ past * 1000000
  past_is = omega (arith, signed_arith, number, parts.0, parts.1, past_small)

  date_is : date_text (day_number (pos us)) ≡ fields_text y mo d
  unfolding date_text
  date_is = rw (day_is, year_of_is y mo d civil, month_of_is y mo d civil, day_of_is y mo d civil) refl

  time_is : clock_text (microsecond_of (pos us)) ≡ time_text h mi s ++ codes "Z"
  unfolding clock_text
  time_is =
      let hour : past * 1000000 / 1000000 / 60 / 60 ≡ h = omega (arith, minute_small, second_small) in
      let minute : past * 1000000 / 1000000 / 60 % 60 ≡ mi = omega (arith, minute_small, second_small) in
      let second : past * 1000000 / 1000000 % 60 ≡ s = omega (arith, minute_small, second_small) in
      let none : past * 1000000 % 1000000 ≡ 0 = omega arith in
      rw (past_is, hour, minute, second, none) refl

  written : text ≡ stamp_text us
  unfolding moment_text
  written = sym (ap₂ (λ a b. a ++ b) date_is time_is)

  whole : us % 1000000 ≡ 0
  whole = omega (arith, signed_arith, number)

pub whole_text : (bytes : List ℕ) (us : ℕ) → Spells bytes us → length bytes ≡ 20 → (bytes ≡ stamp_text us) × (us % 1000000 ≡ 0)
whole_text bytes us spells long =
    let p = second_text bytes (no_fraction spells.shape.0 bytes spells.shape.2 long) in
    let spelled = subst (λ (l : List ℕ). Spells l us) p.is spells in
    (p.is ∙ written p.year p.month p.day p.hour p.minute p.second us spelled, whole p.year p.month p.day p.hour p.minute p.second us spelled)

-- ---- the length of a whole second's text

whole_past : (us : ℕ) → IsStamp us → us % 1000000 ≡ 0 → microsecond_of (pos us) % 1000000 ≡ 0
whole_past us is whole =
    let all = parts_of_moment (pos us) (stamp_moment us is) in
    omega (arith, signed_arith, all.2, all.1, whole)

length_is : (day : ℤ) (past : ℕ) → past % 1000000 ≡ 0 → length (date_text day ++ clock_text past) ≡ 20
unfolding date_text clock_text
length_is day past whole = rw whole refl

pub whole_length : (us : ℕ) → IsStamp us → us % 1000000 ≡ 0 → length (stamp_text us) ≡ 20
unfolding moment_text
whole_length us is whole = length_is (day_number (pos us)) (microsecond_of (pos us)) (whole_past us is whole)
