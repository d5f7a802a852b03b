-- The parts of a NUMERIC's text, and what they stand for.
use Rattle.std.proofs.Common.{◌≡◌, ◌≢◌, ◌<◌, ◌≤◌, ◌^◌, ℕ, suc, ◌+◌, ◌*◌, List, [], ◌∷◌, ◌++◌, length, get_or, drop, true, false, ◌==◌, Some, None, Ok, Err, refl, ap, sym, ◌∙◌, arith, rules}
use Rattle.std.specs.Char.{digit_value}
use Rattle.std.specs.Str.Parse.{digits_value, digits_value_after}
use Rattle.cs_types.specs.declared.value_fault.ValueFault.TheVariants.{Range, BadText}
use Rattle.cs_types.specs.Digits.{all_zeros, is_digits, first_digits, capped}
use Rattle.cs_types.specs.Numeric.{whole_part, fraction_part, below_end, billionths, whole_reading, parts_reading, magnitude_reading, signed, signed_reading, numeric_reading}
use Rattle.cs_types.proofs.Capped.{after_ge, capped_none}

pub after_append : (n : ℕ) (xs ys : List ℕ) → digits_value_after 10 n (xs ++ ys) ≡ digits_value_after 10 (digits_value_after 10 n xs) ys
after_append n [] ys = refl
after_append n (c ∷ cs) ys = after_append (n * 10 + digit_value c) cs ys

pub capped_some : (n m : ℕ) → capped n ≡ Some m → (m ≡ n) × (n < 10 ^ 38)
capped_some n m h = (grind (arith, h), grind (arith, h))

pub capped_end : (n : ℕ) → capped n ≡ None → 10 ^ 38 ≤ n
capped_end n h = grind (arith, h)

-- a whole part that is too large
pub whole_too_large : (whole more : List ℕ) → capped (digits_value 10 whole) ≡ None → None ≡ capped (digits_value 10 (whole ++ more))
whole_too_large whole more h =
    let large : 10 ^ 38 ≤ digits_value 10 whole = capped_end (digits_value 10 whole) h in
    let longer : digits_value 10 whole ≤ digits_value_after 10 (digits_value 10 whole) more = after_ge (digits_value 10 whole) more in
    sym (ap capped (after_append 0 whole more) ∙ capped_none (digits_value_after 10 (digits_value 10 whole) more) (omega arith))

pub whole_read : (n : ℕ) (whole more : List ℕ) → capped (digits_value 10 whole) ≡ Some n → capped (digits_value_after 10 n more) ≡ capped (digits_value 10 (whole ++ more))
whole_read n whole more h = rw ((capped_some (digits_value 10 whole) n h).0) (ap capped (sym (after_append 0 whole more)))

pub below_end_some : (n m : ℕ) → Some n ≡ capped m → Ok n ≡ below_end m
below_end_some n m h = grind (arith, h)

pub below_end_none : (m : ℕ) → None ≡ capped m → Err Range ≡ below_end m
below_end_none m h = grind (arith, h)

pub parts_too_fine : (whole fraction : List ℕ) → is_digits whole ≡ true → all_zeros (drop 9 fraction) ≡ false → Err Range ≡ whole_reading whole fraction
unfolding billionths
parts_too_fine whole fraction w f = rw (w, f) refl

pub parts_read : (n : ℕ) (whole fraction : List ℕ) → is_digits whole ≡ true → all_zeros (drop 9 fraction) ≡ true → Some n ≡ capped (digits_value 10 (whole ++ first_digits 9 fraction)) → Ok n ≡ whole_reading whole fraction
unfolding billionths
parts_read n whole fraction w f h = rw (w, f) (below_end_some n (digits_value 10 (whole ++ first_digits 9 fraction)) h)

pub parts_too_large : (whole fraction : List ℕ) → is_digits whole ≡ true → all_zeros (drop 9 fraction) ≡ true → None ≡ capped (digits_value 10 (whole ++ first_digits 9 fraction)) → Err Range ≡ whole_reading whole fraction
unfolding billionths
parts_too_large whole fraction w f h = rw (w, f) (below_end_none (digits_value 10 (whole ++ first_digits 9 fraction)) h)

no_point : (c : ℕ) → c ≢ 46 → (c == 46) ≡ false
no_point c h = grind (arith, h)

pub whole_before : (whole fraction : List ℕ) → ((i : ℕ) → i < length whole → get_or whole i 0 ≢ 46) → whole_part (whole ++ 46 ∷ fraction) ≡ whole
unfolding whole_part
whole_before [] fraction h = refl
whole_before (c ∷ cs) fraction h = rw (no_point c (h 0 (omega arith))) (ap (λ (rest : List ℕ). c ∷ rest) (whole_before cs fraction (λ i lt. h (suc i) (omega arith))))

pub fraction_behind : (whole fraction : List ℕ) → ((i : ℕ) → i < length whole → get_or whole i 0 ≢ 46) → fraction_part (whole ++ 46 ∷ fraction) ≡ Some fraction
unfolding fraction_part
fraction_behind [] fraction h = refl
fraction_behind (c ∷ cs) fraction h = rw (no_point c (h 0 (omega arith))) (fraction_behind cs fraction (λ i lt. h (suc i) (omega arith)))

pub all_whole : (text : List ℕ) → ((i : ℕ) → i < length text → get_or text i 0 ≢ 46) → whole_part text ≡ text
unfolding whole_part
all_whole [] h = refl
all_whole (c ∷ cs) h = rw (no_point c (h 0 (omega arith))) (ap (λ (rest : List ℕ). c ∷ rest) (all_whole cs (λ i lt. h (suc i) (omega arith))))

pub no_fraction : (text : List ℕ) → ((i : ℕ) → i < length text → get_or text i 0 ≢ 46) → fraction_part text ≡ None
unfolding fraction_part
no_fraction [] h = refl
no_fraction (c ∷ cs) h = rw (no_point c (h 0 (omega arith))) (no_fraction cs (λ i lt. h (suc i) (omega arith)))

pub magnitude_pointed : (text whole fraction : List ℕ) → text ≡ whole ++ 46 ∷ fraction → ((i : ℕ) → i < length whole → get_or whole i 0 ≢ 46) → magnitude_reading text ≡ parts_reading whole (Some fraction)
unfolding magnitude_reading
magnitude_pointed text whole fraction e h = rw (e, whole_before whole fraction h, fraction_behind whole fraction h) refl

pub magnitude_plain : (text : List ℕ) → ((i : ℕ) → i < length text → get_or text i 0 ≢ 46) → magnitude_reading text ≡ whole_reading text []
unfolding magnitude_reading
magnitude_plain text h = rw (all_whole text h, no_fraction text h) refl

pub numeric_long : (text : List ℕ) → 64 < length text → Err BadText ≡ numeric_reading text
unfolding numeric_reading
numeric_long text h = search (rules, h)

within : (text : List ℕ) → length text ≤ 64 → numeric_reading text ≡ signed_reading text
unfolding numeric_reading
within text h = search (rules, h)

pub numeric_minus : (text magnitude : List ℕ) → length text ≤ 64 → text ≡ 45 ∷ magnitude → numeric_reading text ≡ signed true (magnitude_reading magnitude)
numeric_minus text magnitude h e = within text h ∙ ap signed_reading e

no_minus : (c : ℕ) → c ≢ 45 → (c == 45) ≡ false
no_minus c h = grind (arith, h)

unsigned_is : (text : List ℕ) → ((rest : List ℕ) → text ≢ 45 ∷ rest) → signed_reading text ≡ signed false (magnitude_reading text)
unfolding magnitude_reading whole_part fraction_part
unsigned_is [] h = refl
unsigned_is (c ∷ cs) h = rw (no_minus c (λ e. h cs (ap (λ d. d ∷ cs) e))) refl

pub numeric_plain : (text : List ℕ) → length text ≤ 64 → ((rest : List ℕ) → text ≢ 45 ∷ rest) → numeric_reading text ≡ signed false (magnitude_reading text)
numeric_plain text h plain = within text h ∙ unsigned_is text plain

pub pointed_bad : (whole fraction : List ℕ) → is_digits fraction ≡ false → parts_reading whole (Some fraction) ≡ Err BadText
pointed_bad whole fraction h = rw h refl

pub pointed_good : (whole fraction : List ℕ) → is_digits fraction ≡ true → parts_reading whole (Some fraction) ≡ whole_reading whole fraction
pointed_good whole fraction h = rw h refl
