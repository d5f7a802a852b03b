-- The eight digits of a number read as it.
use Rattle.std.proofs.Common.{◌≡◌, ◌<◌, ℕ, ◌+◌, ◌*◌, ◌/◌, ◌%◌, List, [], ◌∷◌, ◌++◌, length, true, ◌&&◌, nat_le, Some, refl, ap, ◌∙◌, arith}
use Rattle.std.specs.Char.{digit_value}
use Rattle.std.specs.Str.Parse.{digits_value, digits_value_after}
use Rattle.cs_types.specs.Digits.{all_digits}
use Rattle.cs_types.specs.Shape.{two_digits}
use Rattle.cs_json_reading.specs.Texts.{sequence_reading}
use Rattle.cs_json.specs.Written.{eight_digits}

digit_is : (d : ℕ) → d < 10 → digit_value (48 + d) ≡ d
digit_is d h = grind (arith, h)

in_digits : (d : ℕ) → d < 10 → (nat_le 48 (48 + d) && nat_le (48 + d) 57) ≡ true
in_digits d h = grind (arith, h)

more_digits : (d : ℕ) (ds : List ℕ) → d < 10 → all_digits ds ≡ true → all_digits ((48 + d) ∷ ds) ≡ true
more_digits d ds h all = grind (arith, in_digits d h, all)

two_all : (n : ℕ) (ds : List ℕ) → n < 100 → all_digits ds ≡ true → all_digits (two_digits n ++ ds) ≡ true
two_all n ds small all = more_digits (n / 10) ((48 + n % 10) ∷ ds) (omega (arith, small)) (more_digits (n % 10) ds (omega arith) all)

value_step : (v d : ℕ) (ds : List ℕ) → d < 10 → digits_value_after 10 v ((48 + d) ∷ ds) ≡ digits_value_after 10 (v * 10 + d) ds
value_step v d ds h = ap (λ x. digits_value_after 10 (v * 10 + x) ds) (digit_is d h)

two_value : (v n : ℕ) (ds : List ℕ) → n < 100 → digits_value_after 10 v (two_digits n ++ ds) ≡ digits_value_after 10 (v * 100 + n) ds
two_value v n ds small =
    let sum : (v * 10 + n / 10) * 10 + n % 10 ≡ v * 100 + n = omega arith in
    value_step v (n / 10) ((48 + n % 10) ∷ ds) (omega (arith, small)) ∙ value_step (v * 10 + n / 10) (n % 10) ds (omega arith) ∙ ap (λ x. digits_value_after 10 x ds) sum

-- four pairs of digits
pairs : ℕ → ℕ → ℕ → ℕ → List ℕ
pairs a b c d = two_digits a ++ (two_digits b ++ (two_digits c ++ (two_digits d ++ [])))

pairs_length : (a b c d : ℕ) → length (pairs a b c d) ≡ 8
unfolding pairs
pairs_length a b c d = refl

pairs_all : (a b c d : ℕ) → a < 100 → b < 100 → c < 100 → d < 100 → all_digits (pairs a b c d) ≡ true
unfolding pairs
pairs_all a b c d ha hb hc hd = two_all a (two_digits b ++ (two_digits c ++ (two_digits d ++ []))) ha (two_all b (two_digits c ++ (two_digits d ++ [])) hb (two_all c (two_digits d ++ []) hc (two_all d [] hd refl)))

pairs_value : (a b c d : ℕ) → a < 100 → b < 100 → c < 100 → d < 100 → digits_value 10 (pairs a b c d) ≡ (((0 * 100 + a) * 100 + b) * 100 + c) * 100 + d
unfolding pairs
pairs_value a b c d ha hb hc hd = two_value 0 a (two_digits b ++ (two_digits c ++ (two_digits d ++ []))) ha ∙ two_value (0 * 100 + a) b (two_digits c ++ (two_digits d ++ [])) hb ∙ two_value ((0 * 100 + a) * 100 + b) c (two_digits d ++ []) hc ∙ two_value (((0 * 100 + a) * 100 + b) * 100 + c) d [] hd

pairs_are : (n : ℕ) → eight_digits n ≡ pairs (n / 10000 / 100) (n / 10000 % 100) (n % 10000 / 100) (n % 10000 % 100)
unfolding eight_digits pairs
pairs_are n = refl

-- what is written for a sequence reads as it
pub sequence_written : (n : ℕ) → n < 100000000 → sequence_reading (eight_digits n) ≡ Some n
unfolding sequence_reading
sequence_written n small =
    let ha : n / 10000 / 100 < 100 = omega (arith, small) in
    let hb : n / 10000 % 100 < 100 = omega arith in
    let hc : n % 10000 / 100 < 100 = omega arith in
    let hd : n % 10000 % 100 < 100 = omega arith in
    let a = n / 10000 / 100 in let b = n / 10000 % 100 in let c = n % 10000 / 100 in let d = n % 10000 % 100 in
    let sum : (((0 * 100 + a) * 100 + b) * 100 + c) * 100 + d ≡ n = omega arith in
    let len = pairs_length a b c d in
    let all = pairs_all a b c d ha hb hc hd in
    rw (pairs_are n, len, all, pairs_value a b c d ha hb hc hd, sum) refl
