-- Texts of 1 to 10 digits, by std's words.
use Rattle.std.proofs.Common.{◌≡◌, ◌<◌, ◌≤◌, ◌^◌, ℕ, List, [], ◌∷◌, length, true, false, Some, None, refl, ap, sym, subst, ◌∙◌, arith, rules}
use Rattle.std.specs.Str.Parse.{AllDigits, IsNumeral, digits_value, without_leading_plus}
use Rattle.std.proofs.lemmas.Str.Parse.{IsNumeralModel, numerals_by_value, tells_digits, digits_value_short}
use Rattle.cs_types.specs.Digits.{all_digits, is_digits}
use Rattle.cs_words.specs.Numbers.{number_reading}

own : IsNumeralModel (AllDigits 10) (digits_value 10)
own = numerals_by_value (AllDigits 10) tells_digits

digits_of_all : (ds : List ℕ) → all_digits ds ≡ true → AllDigits 10 ds
digits_of_all [] h = tt
digits_of_all (c ∷ cs) h = grind (arith, digits_of_all cs)

-- digits do not begin with a plus
no_plus : (t : List ℕ) → is_digits t ≡ true → without_leading_plus t ≡ t
no_plus [] h = absurd (search (rules, h))
no_plus (c ∷ cs) h = grind (arith, h)

is_number : (t : List ℕ) → is_digits t ≡ true → IsNumeral 10 t
is_number [] h = absurd (search (rules, h))
is_number (c ∷ cs) h = let all : all_digits (c ∷ cs) ≡ true = grind (arith, h) in grind (arith, digits_of_all (c ∷ cs) all)

pub number_bad : (t : List ℕ) → is_digits t ≡ false → None ≡ number_reading t
unfolding number_reading
number_bad t h = rw h refl

pub number_long : (t : List ℕ) → is_digits t ≡ true → 10 < length t → None ≡ number_reading t
unfolding number_reading
number_long t h long = rw h (search (rules, long))

pub number_fits : (t : List ℕ) (n : ℕ) → is_digits t ≡ true → length t ≤ 10 → n ≡ digits_value 10 (without_leading_plus t) → Some n ≡ number_reading t
unfolding number_reading
number_fits t n h short e =
    let same : n ≡ digits_value 10 t = e ∙ ap (digits_value 10) (no_plus t h) in
    rw (h, ← same) (search (rules, short))

pub number_fails : (t : List ℕ) → is_digits t ≡ true → length t ≤ 10 → ¬ (IsNumeral 10 (without_leading_plus t) × (digits_value 10 (without_leading_plus t) < 2 ^ 64)) → None ≡ number_reading t
number_fails t h short out =
    let number = is_number t h in
    let small : digits_value 10 t < 10 ^ 10 = digits_value_short own t 10 number.1 short in
    absurd (out (subst (λ (s : List ℕ). IsNumeral 10 s × (digits_value 10 s < 2 ^ 64)) (sym (no_plus t h)) (number, omega (arith, small))))
