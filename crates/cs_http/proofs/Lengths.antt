-- Texts of digits, by std's words.
use Rattle.std.proofs.Common.{◌≡◌, ◌<◌, ◌≤◌, ◌^◌, ℕ, zero, suc, get_or, IsUtf8, List, [], ◌∷◌, length, Bool, true, false, ◌&&◌, nat_lt, nat_le, if◌then◌else◌, Some, None, refl, ap, sym, subst, ◌∙◌, arith, rules}
use Rattle.std.specs.Str.Parse.{AllDigits, IsNumeral, digits_value, without_leading_plus}
use Rattle.std.proofs.lemmas.Str.{IsUtf8-from_ascii}
use Rattle.std.proofs.lemmas.Str.Parse.{IsNumeralModel, numerals_by_value, tells_digits, digits_value_short}
use Rattle.cs_types.specs.Digits.{all_digits, is_digits}
use Rattle.cs_http.specs.Fields.{length_of}
use Rattle.cs_http.specs.RefusalLine.{number_reading}

pub own : IsNumeralModel (AllDigits 10) (digits_value 10)
own = numerals_by_value (AllDigits 10) tells_digits

pub digits_of_all : (ds : List ℕ) → all_digits ds ≡ true → AllDigits 10 ds
digits_of_all [] h = tt
digits_of_all (c ∷ cs) h = grind (arith, digits_of_all cs)

-- digits do not begin with a plus
no_plus : (t : List ℕ) → is_digits t ≡ true → without_leading_plus t ≡ t
no_plus [] h = absurd (search (rules, h))
no_plus (c ∷ cs) h = grind (arith, h)

is_number : (t : List ℕ) → is_digits t ≡ true → IsNumeral 10 t
is_number [] h = absurd (search (rules, h))
is_number (c ∷ cs) h = let all : all_digits (c ∷ cs) ≡ true = grind (arith, h) in grind (arith, digits_of_all (c ∷ cs) all)

-- a text that is not of digits
pub number_bad : (t : List ℕ) → is_digits t ≡ false → None ≡ number_reading t
unfolding number_reading
number_bad t h = rw h refl

-- the number that std reads
pub number_fits : (t : List ℕ) (n : ℕ) → is_digits t ≡ true → n < 2 ^ 64 → n ≡ digits_value 10 (without_leading_plus t) → Some n ≡ number_reading t
unfolding number_reading
number_fits t n h small e =
    let same : n ≡ digits_value 10 t = e ∙ ap (digits_value 10) (no_plus t h) in
    rw (h, ← same) (search (rules, small))

-- std reads each number of 64 bits
pub number_fails : (t : List ℕ) → is_digits t ≡ true → ¬ (IsNumeral 10 (without_leading_plus t) × (digits_value 10 (without_leading_plus t) < 2 ^ 64)) → None ≡ number_reading t
unfolding number_reading
number_fails t h out =
    let over : 2 ^ 64 ≤ digits_value 10 t = at (nat_lt (digits_value 10 t) (2 ^ 64)) refl in
    rw h (search (rules, over))
  where
    at : (b : Bool) → nat_lt (digits_value 10 t) (2 ^ 64) ≡ b → 2 ^ 64 ≤ digits_value 10 t
    at true e = let small : digits_value 10 t < 2 ^ 64 = grind (arith, e) in
        absurd (out (subst (λ (s : List ℕ). IsNumeral 10 s × (digits_value 10 s < 2 ^ 64)) (sym (no_plus t h)) (is_number t h, small)))
    at false e = grind (arith, e)

-- too many digits
pub length_long : (t : List ℕ) → 10 < length t → None ≡ length_of t
unfolding length_of
length_long t long = at (is_digits t)
  where
    long_is : nat_le (length t) 10 ≡ false
    long_is = grind (arith, long)

    at : (b : Bool) → None ≡ (if b && nat_le (length t) 10 then Some (digits_value 10 t) else None)
    at true = rw long_is refl
    at false = refl

-- a few digits are a number of 64 bits
pub length_is_number : (t : List ℕ) → length t ≤ 10 → number_reading t ≡ length_of t
unfolding length_of number_reading
length_is_number t short = at (is_digits t) refl
  where
    short_is : nat_le (length t) 10 ≡ true
    short_is = grind (arith, short)

    at : (b : Bool) → is_digits t ≡ b → (if b && nat_lt (digits_value 10 t) (2 ^ 64) then Some (digits_value 10 t) else None) ≡ (if b && nat_le (length t) 10 then Some (digits_value 10 t) else None)
    at true e =
        let number = is_number t e in
        let small : digits_value 10 t < 10 ^ 10 = digits_value_short own t 10 number.1 short in
        let fits : nat_lt (digits_value 10 t) (2 ^ 64) ≡ true = grind (arith, small) in
        rw (fits, short_is) refl
    at false e = refl

ascii_at : (t : List ℕ) → all_digits t ≡ true → (k : ℕ) → get_or t k 0 < 128
ascii_at [] h k = omega arith
ascii_at (c ∷ cs) h zero = grind (arith, h)
ascii_at (c ∷ cs) h (suc k) = let rest : all_digits cs ≡ true = grind (arith, h) in ascii_at cs rest k

all_of : (t : List ℕ) → is_digits t ≡ true → all_digits t ≡ true
all_of [] h = absurd (search (rules, h))
all_of (c ∷ cs) h = grind (arith, h)

-- digits are a text
pub digits_text : (t : List ℕ) → is_digits t ≡ true → IsUtf8 t
digits_text t h = IsUtf8-from_ascii t (ascii_at t (all_of t h))
