-- Texts of digits, by std's words.
use Rattle.std.proofs.Common.{◌≡◌, ◌<◌, ◌≤◌, ◌^◌, ℕ, List, [], ◌∷◌, length, Bool, true, false, nat_lt, Some, None, refl, ap, sym, subst, ◌∙◌, arith, rules}
use Rattle.std.specs.Str.Parse.{AllDigits, IsNumeral, digits_value, without_leading_plus}
use Rattle.std.proofs.lemmas.Str.Parse.{IsNumeralModel, numerals_by_value, tells_digits, digits_value_short}
use Rattle.cs_types.specs.Digits.{all_digits, is_digits}
use Rattle.cs_json_reading.specs.Texts.{sequence_reading, digits_reading}

pub own : IsNumeralModel (AllDigits 10) (digits_value 10)
own = numerals_by_value (AllDigits 10) tells_digits

digits_of_all : (ds : List ℕ) → all_digits ds ≡ true → AllDigits 10 ds
digits_of_all [] h = tt
digits_of_all (c ∷ cs) h = grind (arith, digits_of_all cs)

-- digits do not begin with a plus
pub no_plus : (t : List ℕ) → is_digits t ≡ true → without_leading_plus t ≡ t
no_plus [] h = absurd (search (rules, h))
no_plus (c ∷ cs) h = grind (arith, h)

pub is_number : (t : List ℕ) → is_digits t ≡ true → IsNumeral 10 t
is_number [] h = absurd (search (rules, h))
is_number (c ∷ cs) h = let all : all_digits (c ∷ cs) ≡ true = grind (arith, h) in grind (arith, digits_of_all (c ∷ cs) all)

pub digits_bad : (t : List ℕ) → is_digits t ≡ false → None ≡ digits_reading t
unfolding digits_reading
digits_bad t h = rw h refl

pub digits_fit : (t : List ℕ) (n : ℕ) → is_digits t ≡ true → n ≡ digits_value 10 (without_leading_plus t) → n < 2 ^ 63 → Some n ≡ digits_reading t
unfolding digits_reading
digits_fit t n h e fits =
    let same : n ≡ digits_value 10 t = e ∙ ap (digits_value 10) (no_plus t h) in
    rw (h, ← same) (search (rules, fits))

pub digits_over : (t : List ℕ) (n : ℕ) → is_digits t ≡ true → n ≡ digits_value 10 (without_leading_plus t) → 2 ^ 63 ≤ n → None ≡ digits_reading t
unfolding digits_reading
digits_over t n h e over =
    let same : n ≡ digits_value 10 t = e ∙ ap (digits_value 10) (no_plus t h) in
    rw (h, ← same) (search (rules, over))

pub digits_out : (t : List ℕ) → is_digits t ≡ true → ¬ (IsNumeral 10 (without_leading_plus t) × (digits_value 10 (without_leading_plus t) < 2 ^ 64)) → None ≡ digits_reading t
unfolding digits_reading
digits_out t h out =
    let over : 2 ^ 63 ≤ digits_value 10 t = at (nat_lt (digits_value 10 t) (2 ^ 63)) refl in
    rw h (search (rules, over))
  where
    at : (b : Bool) → nat_lt (digits_value 10 t) (2 ^ 63) ≡ b → 2 ^ 63 ≤ digits_value 10 t
    at true e = let small : digits_value 10 t < 2 ^ 63 = grind (arith, e) in
        absurd (out (subst (λ (s : List ℕ). IsNumeral 10 s × (digits_value 10 s < 2 ^ 64)) (sym (no_plus t h)) (is_number t h, omega (arith, small))))
    at false e = grind (arith, e)

pub sequence_bad : (t : List ℕ) → is_digits t ≡ false → None ≡ sequence_reading t
unfolding sequence_reading
sequence_bad t h = rw h refl

pub sequence_long : (t : List ℕ) → is_digits t ≡ true → 8 < length t → None ≡ sequence_reading t
unfolding sequence_reading
sequence_long t h long = rw h (search (rules, long))

pub sequence_fits : (t : List ℕ) (n : ℕ) → is_digits t ≡ true → length t ≤ 8 → n ≡ digits_value 10 (without_leading_plus t) → Some n ≡ sequence_reading t
unfolding sequence_reading
sequence_fits t n h short e =
    let same : n ≡ digits_value 10 t = e ∙ ap (digits_value 10) (no_plus t h) in
    rw (h, ← same) (search (rules, short))

pub sequence_fails : (t : List ℕ) → is_digits t ≡ true → length t ≤ 8 → ¬ (IsNumeral 10 (without_leading_plus t) × (digits_value 10 (without_leading_plus t) < 2 ^ 32)) → None ≡ sequence_reading t
sequence_fails t h short out =
    let number = is_number t h in
    let small : digits_value 10 t < 10 ^ 8 = digits_value_short own t 8 number.1 short in
    absurd (out (subst (λ (s : List ℕ). IsNumeral 10 s × (digits_value 10 s < 2 ^ 32)) (sym (no_plus t h)) (number, omega (arith, small))))
