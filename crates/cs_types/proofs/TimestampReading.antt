-- The test of a moment's text is the relation of text and moment.
use Rattle.std.proofs.Common.{◌≡◌, ◌<◌, ◌≤◌, ℕ, zero, suc, ◌+◌, ◌*◌, ◌/◌, List, ◌++◌, length, drop, codes, Bool, true, false, ◌&&◌, ◌||◌, nat_lt, ℤ, pos, negsuc, ◌-ℤ◌, ◌*ℤ◌, ◌≤ℤ◌, Ok, Err, refl, ap, sym, subst, ◌∙◌, arith, rules}
use Rattle.std.specs.Int.{int_div_euclid}
use Rattle.std.specs.Int.Signed.{le_z}
use Rattle.std.specs.Ordering.{int_eq}
use Rattle.std.proofs.lemmas.Int.{ints}
use Rattle.std.proofs.lemmas.List.{take-append-drop}
use Rattle.std.proofs.lemmas.Bool.Decides.{Decides-int_eq}
use Rattle.cs_types.specs.declared.value_fault.ValueFault.TheVariants.{Range, BadText}
use Rattle.cs_types.specs.Shape.{Fits, IsFaultPlace}
use Rattle.cs_types.specs.Civil.{year_field, month_field, day_field}
use Rattle.cs_types.specs.Dates.{is_fit, has_civil_date}
use Rattle.cs_types.specs.Moment.{fraction_pattern, IsMomentShape, HasCivilMoment, SpellsMoment, IsBetweenMoments, hour_field, minute_field, second_field, moment_field}
use Rattle.cs_types.specs.Timestamps.{is_moment_shape, has_civil_moment, microseconds, in_microseconds, moment_reading}
use Rattle.cs_types.proofs.DateReading.{passed, both_true, both_of, not_true, fit_is, fit_of, civil_is, civil_of}

decide : {P : Type 0} (t : Bool) → (t ≡ true → P) → (t ≡ false → P) → P
decide true so otherwise = so refl
decide false so otherwise = otherwise refl

below_is : (a b : ℕ) → a < b → nat_lt a b ≡ true
below_is a b h = search (rules, h)

below_of : (a b : ℕ) → nat_lt a b ≡ true → a < b
below_of a b h = grind (arith, h)

above_of : (a b : ℕ) → nat_lt a b ≡ false → b ≤ a
above_of a b h = grind (arith, h)

-- a text that leaves the set is none of it
pub no_member : (P : List ℕ → Type 0) (text : List ℕ) (place : ℕ) → IsFaultPlace P text place → ¬ P text
no_member P text place fault = λ member. decide (nat_lt place (length text))
    (λ lt. fault.stops (below_of place (length text) lt) (drop (suc place) text, subst P (sym (take-append-drop (suc place) text)) member))
    (λ ge. let above : length text ≤ place = above_of place (length text) ge in let within : place ≤ length text = fault.within in fault.ends (omega arith) member)

left_or : (a b : Bool) → a ≡ true → (a || b) ≡ true
left_or a b h = rw h refl

right_or : (a b : Bool) → b ≡ true → (a || b) ≡ true
right_or true b h = refl
right_or false b h = h

other_of : (a b : Bool) → a ≡ false → (a || b) ≡ true → b ≡ true
other_of a b failed h = rw failed at h

shape_is : (n k : ℕ) (text : List ℕ) → n ≤ k → Fits (codes "dddd-dd-ddTdd:dd:dd" ++ fraction_pattern n) text → is_moment_shape k text ≡ true
unfolding is_moment_shape
shape_is zero zero text le h = fit_is (codes "dddd-dd-ddTdd:dd:dd" ++ fraction_pattern zero) text h
shape_is (suc n) zero text le h = absurd (omega (arith, le))
shape_is n (suc k) text le h = decide (nat_lt k n)
    (λ lt. let is : n ≡ suc k = (let up : k < n = below_of k n lt in omega arith) in
    left_or (is_fit (codes "dddd-dd-ddTdd:dd:dd" ++ fraction_pattern (suc k)) text) (is_moment_shape k text) (fit_is (codes "dddd-dd-ddTdd:dd:dd" ++ fraction_pattern (suc k)) text (subst (λ (j : ℕ). Fits (codes "dddd-dd-ddTdd:dd:dd" ++ fraction_pattern j) text) is h)))
    (λ ge. right_or (is_fit (codes "dddd-dd-ddTdd:dd:dd" ++ fraction_pattern (suc k)) text) (is_moment_shape k text) (shape_is n k text (above_of k n ge) h))

shape_of : (k : ℕ) (text : List ℕ) → is_moment_shape k text ≡ true → (n : ℕ) × (n ≤ k) × Fits (codes "dddd-dd-ddTdd:dd:dd" ++ fraction_pattern n) text
unfolding is_moment_shape
shape_of zero text h = (zero, omega arith, fit_of (codes "dddd-dd-ddTdd:dd:dd" ++ fraction_pattern zero) text h)
shape_of (suc k) text h = decide (is_fit (codes "dddd-dd-ddTdd:dd:dd" ++ fraction_pattern (suc k)) text)
    (λ fits. (suc k, omega arith, fit_of (codes "dddd-dd-ddTdd:dd:dd" ++ fraction_pattern (suc k)) text fits))
    (λ failed. let rest = shape_of k text (other_of (is_fit (codes "dddd-dd-ddTdd:dd:dd" ++ fraction_pattern (suc k)) text) (is_moment_shape k text) failed h) in (rest.0, (let le : rest.0 ≤ k = rest.1 in omega arith), rest.2))

civil_moment_is : (text : List ℕ) → HasCivilMoment text → has_civil_moment text ≡ true
unfolding has_civil_moment
civil_moment_is text h =
    both_true (has_civil_date text) _ (civil_is (year_field text) (month_field text) (day_field text) h.date)
    (both_true (nat_lt (hour_field text) 24) _ (below_is (hour_field text) 24 h.clock.hour)
    (both_true (nat_lt (minute_field text) 60) _ (below_is (minute_field text) 60 h.clock.minute) (below_is (second_field text) 60 h.clock.second)))

civil_moment_of : (text : List ℕ) → has_civil_moment text ≡ true → HasCivilMoment text
unfolding has_civil_moment
civil_moment_of text h =
    let one = both_of (has_civil_date text) (nat_lt (hour_field text) 24 && (nat_lt (minute_field text) 60 && nat_lt (second_field text) 60)) h in
    let two = both_of (nat_lt (hour_field text) 24) (nat_lt (minute_field text) 60 && nat_lt (second_field text) 60) one.1 in
    let three = both_of (nat_lt (minute_field text) 60) (nat_lt (second_field text) 60) two.1 in
    record {
      date = civil_of (year_field text) (month_field text) (day_field text) one.0;
      clock = record {
        hour = below_of (hour_field text) 24 two.0;
        minute = below_of (minute_field text) 60 three.0;
        second = below_of (second_field text) 60 three.1;
      };
    }

at_most_is : (a b : ℤ) → a ≤ℤ b → le_z a b ≡ true
at_most_is a b h = grind (arith, ints, h)

at_most_of : (a b : ℤ) → le_z a b ≡ true → a ≤ℤ b
at_most_of a b h = grind (arith, ints, h)

divided : (us : ℤ) → int_div_euclid (us *ℤ pos 1000) (pos 1000) ≡ us
divided (pos n) = ap pos (let same : n * 1000 / 1000 ≡ n = omega arith in same)
divided (negsuc n) =
    let least : suc n * 1000 ≡ suc (n * 1000 + 999) = omega arith in let same : (n * 1000 + 999) / 1000 ≡ n = omega arith in
    rw least (ap negsuc same)

-- whole microseconds of the years 1 to 9999
in_range : (us : ℤ) → (pos 0 -ℤ pos 62135596800000000) ≤ℤ us → us ≤ℤ pos 253402300799999999 → in_microseconds true (us *ℤ pos 1000) ≡ Ok us
in_range us low high =
    rw (divided us, (Decides-int_eq (us *ℤ pos 1000) (us *ℤ pos 1000)).1 refl, at_most_is (pos 0 -ℤ pos 62135596800000000) us low, at_most_is us (pos 253402300799999999) high) refl

abbrev is_whole : ℤ → Bool
is_whole m = int_eq (microseconds m *ℤ pos 1000) m

abbrev is_in : ℤ → Bool
is_in m = le_z (pos 0 -ℤ pos 62135596800000000) (microseconds m) && le_z (microseconds m) (pos 253402300799999999)

outside : (civil : Bool) (m : ℤ) → (civil && (is_whole m && is_in m)) ≡ false → in_microseconds civil m ≡ Err Range
outside civil m h = rw h refl

pub moment_read : (text : List ℕ) (us : ℤ) → SpellsMoment text us → moment_reading text ≡ Ok us
unfolding moment_reading
moment_read text us h = rw (shape_is h.shape.0 9 text h.shape.1 h.shape.2, civil_moment_is text h.civil, h.number) (in_range us h.range.0 h.range.1)

pub moment_bad : (text : List ℕ) → ¬ IsMomentShape text → moment_reading text ≡ Err BadText
unfolding moment_reading
moment_bad text h = rw (not_true (is_moment_shape 9 text) (λ shape. h (shape_of 9 text shape))) refl

scaled_low : (us m : ℤ) → us *ℤ pos 1000 ≡ m → (pos 0 -ℤ pos 62135596800000000) ≤ℤ us → ((pos 0 -ℤ pos 62135596800000000) *ℤ pos 1000) ≤ℤ m
scaled_low us m e low = subst (λ (z : ℤ). ((pos 0 -ℤ pos 62135596800000000) *ℤ pos 1000) ≤ℤ z) e (omega (arith, ints, low))

scaled_high : (us m : ℤ) → us *ℤ pos 1000 ≡ m → us ≤ℤ pos 253402300799999999 → m ≤ℤ (pos 253402300799999999 *ℤ pos 1000)
scaled_high us m e high = subst (λ (z : ℤ). z ≤ℤ (pos 253402300799999999 *ℤ pos 1000)) e (omega (arith, ints, high))

pub moment_outside : (text : List ℕ) → IsMomentShape text → ¬ IsBetweenMoments (pos 0 -ℤ pos 62135596800000000) (pos 253402300799999999) text → moment_reading text ≡ Err Range
unfolding moment_reading
moment_outside text shape h =
    rw (shape_is shape.0 9 text shape.1 shape.2) (outside (has_civil_moment text) (moment_field text) (not_true _ (λ all.
    let one = both_of (has_civil_moment text) (is_whole (moment_field text) && is_in (moment_field text)) all in
    let two = both_of (is_whole (moment_field text)) (is_in (moment_field text)) one.1 in
    let three = both_of (le_z (pos 0 -ℤ pos 62135596800000000) (microseconds (moment_field text))) (le_z (microseconds (moment_field text)) (pos 253402300799999999)) two.1 in
    let whole = (Decides-int_eq (microseconds (moment_field text) *ℤ pos 1000) (moment_field text)).0 two.0 in
    h (record {
      civil = civil_moment_of text one.0;
      low = scaled_low (microseconds (moment_field text)) (moment_field text) whole (at_most_of _ _ three.0);
      high = scaled_high (microseconds (moment_field text)) (moment_field text) whole (at_most_of _ _ three.1);
    }))))

pub moment_too_fine : (text : List ℕ) → IsMomentShape text → ¬ ((us : ℤ) × (moment_field text ≡ us *ℤ pos 1000)) → moment_reading text ≡ Err Range
unfolding moment_reading
moment_too_fine text shape h =
    rw (shape_is shape.0 9 text shape.1 shape.2) (outside (has_civil_moment text) (moment_field text) (not_true _ (λ all.
    let one = both_of (has_civil_moment text) (is_whole (moment_field text) && is_in (moment_field text)) all in
    let two = both_of (is_whole (moment_field text)) (is_in (moment_field text)) one.1 in
    h (microseconds (moment_field text), sym ((Decides-int_eq (microseconds (moment_field text) *ℤ pos 1000) (moment_field text)).0 two.0)))))

pub moment_told : (text : List ℕ) (us : ℤ) → moment_reading text ≡ Ok us → SpellsMoment text us
unfolding moment_reading
moment_told text us h =
    let m = moment_field text in
    let tests = passed (is_moment_shape 9 text) (has_civil_moment text && (is_whole m && is_in m)) (microseconds m) us h in
    let one = both_of (has_civil_moment text) (is_whole m && is_in m) tests.1 in
    let two = both_of (is_whole m) (is_in m) one.1 in
    let three = both_of (le_z (pos 0 -ℤ pos 62135596800000000) (microseconds m)) (le_z (microseconds m) (pos 253402300799999999)) two.1 in
    let whole : microseconds m *ℤ pos 1000 ≡ m = (Decides-int_eq (microseconds m *ℤ pos 1000) m).0 two.0 in
    record {
      shape = shape_of 9 text tests.0;
      civil = civil_moment_of text one.0;
      number = sym whole ∙ ap (λ (z : ℤ). z *ℤ pos 1000) tests.2;
      range = (
        subst (λ (z : ℤ). (pos 0 -ℤ pos 62135596800000000) ≤ℤ z) tests.2 (at_most_of _ _ three.0),
        subst (λ (z : ℤ). z ≤ℤ pos 253402300799999999) tests.2 (at_most_of _ _ three.1),
      );
    }
