-- The text that is written for a NUMERIC reads as it.
use Rattle.std.proofs.Common.{◌≡◌, ◌≢◌, ◌<◌, ◌≤◌, ◌^◌, ℕ, zero, suc, ◌+◌, ◌-◌, ◌*◌, ◌/◌, ◌%◌, List, [], ◌∷◌, ◌++◌, length, get_or, true, false, ℤ, pos, negsuc, ◌-ℤ◌, ◌<ℤ◌, Ok, decimal, append-nil, length-append, refl, ap, sym, ◌∙◌, arith, rules}
use Rattle.std.specs.Char.{digit_value}
use Rattle.std.specs.Str.Parse.{digits_value, digits_value_after}
use Rattle.std.proofs.Math.Nat.{pow-suc}
use Rattle.std.proofs.lemmas.Nat.{div-add-mod', div_below}
use Rattle.std.proofs.lemmas.Int.{ints}
use Rattle.std.proofs.lemmas.List.{drop_all}
use Rattle.std.proofs.lemmas.Fmt.{decimal_is_IsNumeral_wide, length-decimal-le_wide}
use Rattle.cs_types.specs.Digits.{all_digits, is_digits, first_digits}
use Rattle.cs_types.specs.Numeric.{fraction_digits, fraction_text, magnitude_text, numeric_text, below_end, billionths, whole_reading, magnitude_reading, signed, numeric_reading}
use Rattle.cs_types.proofs.Integers.{all_of_digits}
use Rattle.cs_types.proofs.Capped.{head_digit}
use Rattle.cs_types.proofs.NumericReading.{after_append, magnitude_pointed, magnitude_plain, pointed_good, numeric_minus, numeric_plain}
use Rattle.cs_types.proofs.NumericWriting.{digit_below, rest_below, fraction_step, nothing_left, not_zero}

pub zeros_value : (k n : ℕ) → digits_value_after 10 n (first_digits k []) ≡ n * 10 ^ k
unfolding first_digits
zeros_value zero n = omega arith
zeros_value (suc k) n = zeros_value k (n * 10 + 0) ∙ (let e : 10 ^ suc k ≡ 10 ^ k * 10 = pow-suc 10 k in rw e (omega arith))

digit_at : (d : ℕ) → d < 10 → digit_value (48 + d) ≡ d
digit_at d h = grind (arith, h)

is_digit : (d : ℕ) (ds : List ℕ) → d < 10 → all_digits ds ≡ true → all_digits ((48 + d) ∷ ds) ≡ true
is_digit d ds h all = grind (arith, h, all)

step_value : (n k q : ℕ) (ds : List ℕ) → q < 10 → digits_value_after 10 n (first_digits (suc k) ((48 + q) ∷ ds)) ≡ digits_value_after 10 (n * 10 + q) (first_digits k ds)
unfolding first_digits
step_value n k q ds low = ap (λ d. digits_value_after 10 (n * 10 + d) (first_digits k ds)) (digit_at q low)

joined : (n p q rem r : ℕ) → q * p + rem ≡ r → (n * 10 + q) * p + rem ≡ n * (p * 10) + r
joined n p q rem r h = omega (arith, h)

fraction_value : (k n r : ℕ) → r < 10 ^ k → digits_value_after 10 n (first_digits k (fraction_digits k r)) ≡ n * 10 ^ k + r
unfolding first_digits
fraction_value zero n r low = omega (arith, low)
fraction_value (suc k) n zero low = ap (λ ds. digits_value_after 10 n (first_digits (suc k) ds)) (nothing_left (suc k)) ∙ zeros_value (suc k) n ∙ omega arith
fraction_value (suc k) n (suc r) low =
    let one : suc k - 1 ≡ k = omega arith in
    let step = rw one at (fraction_step (suc k) (suc r) (omega arith) low) in
    let digit : suc r / 10 ^ k < 10 = rw one at (digit_below (suc k) (suc r) (omega arith) low) in
    let more = fraction_value k (n * 10 + suc r / 10 ^ k) (suc r % 10 ^ k) (rest_below k (suc r)) in
    let sum = joined n (10 ^ k) (suc r / 10 ^ k) (suc r % 10 ^ k) (suc r) (div-add-mod' (suc r) (10 ^ k)) in
    ap (λ ds. digits_value_after 10 n (first_digits (suc k) ds)) step ∙ step_value n k (suc r / 10 ^ k) (fraction_digits k (suc r % 10 ^ k)) digit ∙ more ∙ sum ∙ ap (λ p. n * p + suc r) (sym (pow-suc 10 k))

fraction_all : (k r : ℕ) → r < 10 ^ k → all_digits (fraction_digits k r) ≡ true
unfolding fraction_digits
fraction_all zero r low = refl
fraction_all (suc k) zero low = refl
fraction_all (suc k) (suc r) low =
    let one : suc k - 1 ≡ k = omega arith in
    let digit : suc r / 10 ^ k < 10 = rw one at (digit_below (suc k) (suc r) (omega arith) low) in
    let step = rw one at (fraction_step (suc k) (suc r) (omega arith) low) in
    ap all_digits step ∙ is_digit (suc r / 10 ^ k) (fraction_digits k (suc r % 10 ^ k)) digit (fraction_all k (suc r % 10 ^ k) (rest_below k (suc r)))

fraction_length : (k r : ℕ) → r < 10 ^ k → length (fraction_digits k r) ≤ k
unfolding fraction_digits
fraction_length zero r low = omega arith
fraction_length (suc k) zero low = omega arith
fraction_length (suc k) (suc r) low =
    let one : suc k - 1 ≡ k = omega arith in
    let step = rw one at (fraction_step (suc k) (suc r) (omega arith) low) in
    let more : length (fraction_digits k (suc r % 10 ^ k)) ≤ k = fraction_length k (suc r % 10 ^ k) (rest_below k (suc r)) in
    rw (ap length step) (omega arith)

fraction_some : (k r : ℕ) → 0 < r → r < 10 ^ k → 0 < length (fraction_digits k r)
fraction_some k r some low = rw (ap length (fraction_step k r some low)) (omega arith)

are_some : (ds : List ℕ) → 0 < length ds → all_digits ds ≡ true → is_digits ds ≡ true
are_some ds some all = search (rules, some, all)

none_is : (c : ℕ) → c < 48 → (ds : List ℕ) → all_digits ds ≡ true → (i : ℕ) → i < length ds → get_or ds i 0 ≢ c
none_is c low [] all i lt = absurd (omega (arith, lt))
none_is c low (d ∷ ds) all zero lt = let is = head_digit d ds all in λ e. absurd (omega (arith, is.0, low, e))
none_is c low (d ∷ ds) all (suc i) lt = none_is c low ds ((head_digit d ds all).2) i (omega (arith, lt))

no_minus : (ds more rest : List ℕ) → 0 < length ds → all_digits ds ≡ true → ds ++ more ≢ 45 ∷ rest
no_minus [] more rest some all = absurd (omega (arith, some))
no_minus (d ∷ ds) more rest some all = λ e. let is = head_digit d ds all in let same : d ≡ 45 = cc e in absurd (omega (arith, is.0, same))

-- what the digits of a whole number are
record IsWhole (ds : List ℕ) (n : ℕ) : Type 0 where
  pub some : 0 < length ds
  pub all : all_digits ds ≡ true
  pub value : digits_value 10 ds ≡ n
  pub short : length ds ≤ 29

whole_is : (n : ℕ) → n < 10 ^ 29 → IsWhole (decimal n) n
whole_is n low =
    let wide : n < 10 ^ 64 = omega (arith, low) in
    let is = decimal_is_IsNumeral_wide n wide in
    record { some = is.0.0; all = all_of_digits (decimal n) is.0.1; value = is.1; short = length-decimal-le_wide 29 n (omega arith) low wide }

below_is : (m : ℕ) → m < 10 ^ 38 → below_end m ≡ Ok m
below_is m h = search (rules, h)

whole_billionths : (whole fraction : List ℕ) (m : ℕ) → is_digits whole ≡ true → length fraction ≤ 9 → digits_value 10 (whole ++ first_digits 9 fraction) ≡ m → m < 10 ^ 38 → whole_reading whole fraction ≡ Ok m
unfolding billionths
whole_billionths whole fraction m is few e low = rw (is, drop_all 9 fraction few, e) (below_is m low)

text_is : (r : ℕ) → 0 < r → fraction_text r ≡ 46 ∷ fraction_digits 9 r
text_is r some = rw (not_zero r some) refl

magnitude_of_parts : (whole : List ℕ) (w r m : ℕ) → IsWhole whole w → r < 1000000000 → w * 1000000000 + r ≡ m → m < 10 ^ 38 → magnitude_reading (whole ++ fraction_text r) ≡ Ok m
magnitude_of_parts whole w zero m is small e low =
    let plain = magnitude_plain whole (none_is 46 (omega arith) whole is.all) in
    let value : digits_value 10 (whole ++ first_digits 9 []) ≡ m = after_append 0 whole (first_digits 9 []) ∙ zeros_value 9 (digits_value 10 whole) ∙ omega (arith, is.value, e) in
    ap magnitude_reading (append-nil whole) ∙ plain ∙ whole_billionths whole [] m (are_some whole is.some is.all) (omega arith) value low
magnitude_of_parts whole w (suc r) m is small e low =
    let pointed = magnitude_pointed (whole ++ 46 ∷ fraction_digits 9 (suc r)) whole (fraction_digits 9 (suc r)) refl (none_is 46 (omega arith) whole is.all) in
    let digits = are_some (fraction_digits 9 (suc r)) (fraction_some 9 (suc r) (omega arith) small) (fraction_all 9 (suc r) small) in
    let value : digits_value 10 (whole ++ first_digits 9 (fraction_digits 9 (suc r))) ≡ m =
    after_append 0 whole (first_digits 9 (fraction_digits 9 (suc r))) ∙ fraction_value 9 (digits_value 10 whole) (suc r) small ∙ omega (arith, is.value, e) in
    ap (λ (t : List ℕ). magnitude_reading (whole ++ t)) (text_is (suc r) (omega arith)) ∙ pointed ∙ pointed_good whole (fraction_digits 9 (suc r)) digits ∙ whole_billionths whole (fraction_digits 9 (suc r)) m (are_some whole is.some is.all) (fraction_length 9 (suc r) small) value low

text_short : (r : ℕ) → r < 1000000000 → length (fraction_text r) ≤ 10
text_short zero small = omega arith
text_short (suc r) small = let few : length (fraction_digits 9 (suc r)) ≤ 9 = fraction_length 9 (suc r) small in rw (text_is (suc r) (omega arith)) (omega arith)

-- the whole part of a number of billionths
whole_of : (m : ℕ) → m < 10 ^ 38 → IsWhole (decimal (m / 1000000000)) (m / 1000000000)
whole_of m low = whole_is (m / 1000000000) (div_below m 1000000000 (10 ^ 29) (omega arith) (omega (arith, low)))

magnitude_written : (m : ℕ) → m < 10 ^ 38 → magnitude_reading (magnitude_text m) ≡ Ok m
unfolding magnitude_text
magnitude_written m low = magnitude_of_parts (decimal (m / 1000000000)) (m / 1000000000) (m % 1000000000) m (whole_of m low) (omega arith) (div-add-mod' m 1000000000) low

magnitude_short : (m : ℕ) → m < 10 ^ 38 → length (magnitude_text m) ≤ 39
unfolding magnitude_text
magnitude_short m low =
    let is = whole_of m low in let few : length (fraction_text (m % 1000000000)) ≤ 10 = text_short (m % 1000000000) (omega arith) in
    omega (arith, is.short, length-append (decimal (m / 1000000000)) (fraction_text (m % 1000000000)))

magnitude_unsigned : (m : ℕ) → m < 10 ^ 38 → (rest : List ℕ) → magnitude_text m ≢ 45 ∷ rest
unfolding magnitude_text
magnitude_unsigned m low rest = let is = whole_of m low in no_minus (decimal (m / 1000000000)) (fraction_text (m % 1000000000)) rest is.some is.all

-- the written text reads as the number
pub numeric_written : (n : ℤ) → ((pos 0 -ℤ pos 100000000000000000000000000000000000000) <ℤ n) × (n <ℤ pos 100000000000000000000000000000000000000) → numeric_reading (numeric_text n) ≡ Ok n
numeric_written (pos m) range =
    let low : m < 10 ^ 38 = omega (arith, ints, range.1) in
    let short : length (magnitude_text m) ≤ 39 = magnitude_short m low in
    numeric_plain (magnitude_text m) (omega arith) (magnitude_unsigned m low) ∙ ap (signed false) (magnitude_written m low)
numeric_written (negsuc m) range =
    let low : suc m < 10 ^ 38 = omega (arith, ints, range.0) in
    let short : length (magnitude_text (suc m)) ≤ 39 = magnitude_short (suc m) low in
    numeric_minus (45 ∷ magnitude_text (suc m)) (magnitude_text (suc m)) (omega arith) refl ∙ ap (signed true) (magnitude_written (suc m) low)
