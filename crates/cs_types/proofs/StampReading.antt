-- The stamp that a text spells, as a test.
use Rattle.std.proofs.Common.{◌≡◌, ◌<◌, ℕ, List, Bool, true, false, ◌&&◌, nat_lt, ℤ, pos, negsuc, ◌-ℤ◌, ◌*ℤ◌, ◌≤ℤ◌, Some, None, Result, Ok, Err, refl, ap, sym, ◌∙◌, arith, rules}
use Rattle.std.specs.Int.Signed.{le_z}
use Rattle.std.specs.Ordering.{int_eq}
use Rattle.std.proofs.lemmas.Int.{ints}
use Rattle.std.proofs.lemmas.Bool.Decides.{Decides-int_eq}
use Rattle.cs_types.specs.declared.moment.StampFault.{StampFault}
use Rattle.cs_types.specs.declared.moment.StampFault.TheVariants.{Shape, Range, TooFine}
use Rattle.cs_types.specs.declared.value_fault.ValueFault.{ValueFault}
use Rattle.cs_types.specs.declared.value_fault.ValueFault.TheVariants.{Range as out_of_range}
use Rattle.cs_types.specs.Moment.{IsMomentShape, SpellsMoment, moment_field}
use Rattle.cs_types.specs.Stamp.{IsStamp, Spells, IsStampFault, stamp_text, stamp_of_moment, stamp_reading}
use Rattle.cs_types.specs.Timestamps.{is_moment_shape, has_civil_moment, microseconds, in_microseconds, moment_reading}
use Rattle.cs_types.proofs.DateReading.{both_of}
use Rattle.cs_types.proofs.TimestampReading.{moment_read, moment_bad, moment_outside, moment_too_fine, no_member}
use Rattle.cs_types.proofs.MomentTexts.{stamp_spelled}

decide : {P : Type 0} (t : Bool) → (t ≡ true → P) → (t ≡ false → P) → P
decide true so otherwise = so refl
decide false so otherwise = otherwise refl

as_moment : (text : List ℕ) (us : ℕ) → Spells text us → SpellsMoment text (pos us)
as_moment text us h = record { shape = h.shape; civil = h.civil; number = h.number; range = ((let low = h.range.0 in omega (arith, ints)), h.range.1) }

pub stamp_read : (text : List ℕ) (us : ℕ) → Spells text us → stamp_reading text ≡ Some us
unfolding stamp_reading
stamp_read text us h =
    let above : 0 < us = (let low = h.range.0 in omega (arith, ints)) in
    rw (moment_read text (pos us) (as_moment text us h)) (search (rules, above))

-- what is written for a stamp reads as it
pub stamp_written : (us : ℕ) → IsStamp us → stamp_reading (stamp_text us) ≡ Some us
stamp_written us is = stamp_read (stamp_text us) us (stamp_spelled us is)

abbrev read_as : ℤ → Result ℤ ValueFault
read_as z = Ok z

abbrev refused : Result ℤ ValueFault
refused = Err out_of_range

whole_of : (civil : Bool) (m z : ℤ) → in_microseconds civil m ≡ Ok z → m ≡ z *ℤ pos 1000
whole_of civil m z e = decide (civil && (int_eq (microseconds m *ℤ pos 1000) m && (le_z (pos 0 -ℤ pos 62135596800000000) (microseconds m) && le_z (microseconds m) (pos 253402300799999999))))
    (λ all.
    let parts = both_of civil (int_eq (microseconds m *ℤ pos 1000) m && (le_z (pos 0 -ℤ pos 62135596800000000) (microseconds m) && le_z (microseconds m) (pos 253402300799999999))) all in
    let whole = both_of (int_eq (microseconds m *ℤ pos 1000) m) (le_z (pos 0 -ℤ pos 62135596800000000) (microseconds m) && le_z (microseconds m) (pos 253402300799999999)) parts.1 in
    let same : microseconds m ≡ z = is_same (microseconds m) z (rw all at e) in
    sym ((Decides-int_eq (microseconds m *ℤ pos 1000) m).0 whole.0) ∙ ap (λ (n : ℤ). n *ℤ pos 1000) same)
    (λ none. absurd (never z (rw none at e)))
  where
    is_same : (a b : ℤ) → read_as a ≡ read_as b → a ≡ b
    is_same a b e = cc

    never : (z : ℤ) → refused ≡ read_as z → ⊥
    never z e = cc

number_of : (text : List ℕ) (z : ℤ) → moment_reading text ≡ Ok z → moment_field text ≡ z *ℤ pos 1000
unfolding moment_reading
number_of text z e = decide (is_moment_shape 9 text) (λ shape. whole_of (has_civil_moment text) (moment_field text) z (rw shape at e)) (λ none. absurd (let bad = rw none at e in cc))

-- a text with a fault of a stamp is none
pub no_stamp : (text : List ℕ) (e : StampFault) → IsStampFault e text → stamp_reading text ≡ None
unfolding stamp_reading
no_stamp text (Shape place) fault = rw (moment_bad text (no_member IsMomentShape text place fault)) refl
no_stamp text TooFine fault = rw (moment_too_fine text fault.0 fault.2) refl
no_stamp text Range fault = at (moment_reading text) refl
  where
    low : (n : ℕ) → 0 < n → moment_field text ≡ pos n *ℤ pos 1000 → (pos 1 *ℤ pos 1000) ≤ℤ moment_field text
    low n above e = rw e (omega (arith, ints, above))

    at : (r : Result ℤ ValueFault) → moment_reading text ≡ r → stamp_of_moment r ≡ None
    at (Err f) e = refl
    at (Ok (negsuc n)) e = refl
    at (Ok (pos n)) e = decide (nat_lt 0 n)
        (λ lt. let above : 0 < n = grind (arith, lt) in
        let outside = moment_outside text fault.0 (λ b. fault.1 (record { civil = b.civil; low = low n above (number_of text (pos n) e); high = b.high })) in
        absurd (let both = sym e ∙ outside in cc))
        (λ ge. rw ge refl)
