-- Numbers read digit by digit, below 10^38.
use Rattle.std.proofs.Common.{◌≡◌, ◌<◌, ◌≤◌, ◌^◌, ℕ, zero, suc, ◌+◌, ◌-◌, ◌*◌, List, [], ◌∷◌, length, get_or, drop, take, true, Some, None, refl, ap, sym, ◌∙◌, arith, rules}
use Rattle.std.proofs.lemmas.List.{take_all}
use Rattle.std.specs.Char.{digit_value}
use Rattle.std.specs.Str.Parse.{digits_value_after}
use Rattle.cs_types.specs.Digits.{all_digits, first_digits, capped}

pub after_ge : (n : ℕ) (ds : List ℕ) → n ≤ digits_value_after 10 n ds
after_ge n [] = omega arith
after_ge n (c ∷ cs) = let more : n * 10 + digit_value c ≤ digits_value_after 10 (n * 10 + digit_value c) cs = after_ge (n * 10 + digit_value c) cs in omega arith

pub capped_is : (n : ℕ) → n < 10 ^ 38 → capped n ≡ Some n
capped_is n h = search (rules, h)

pub capped_none : (n : ℕ) → 10 ^ 38 ≤ n → capped n ≡ None
capped_none n h = search (rules, h)

-- digits behind a number that is too large make none that is not
pub capped_after : (n : ℕ) (ds : List ℕ) → 10 ^ 38 ≤ n → capped (digits_value_after 10 n ds) ≡ None
capped_after n ds h = let more : n ≤ digits_value_after 10 n ds = after_ge n ds in capped_none (digits_value_after 10 n ds) (omega arith)

pub digit_is : (c : ℕ) → 48 ≤ c → c ≤ 57 → digit_value c ≡ c - 48
digit_is c low high = grind (arith, low, high)

pub head_digit : (c : ℕ) (cs : List ℕ) → all_digits (c ∷ cs) ≡ true → (48 ≤ c) × (c ≤ 57) × (all_digits cs ≡ true)
head_digit c cs h = (grind (arith, h), grind (arith, h), grind (arith, h))

pub digit_after : (n c : ℕ) (cs : List ℕ) → all_digits (c ∷ cs) ≡ true → digits_value_after 10 n (c ∷ cs) ≡ digits_value_after 10 (n * 10 + (c - 48)) cs
digit_after n c cs h = let is = head_digit c cs h in rw (digit_is c is.0 is.1) refl

pub first_digit_after : (n k c : ℕ) (cs : List ℕ) → all_digits (c ∷ cs) ≡ true → digits_value_after 10 n (first_digits (suc k) (c ∷ cs)) ≡ digits_value_after 10 (n * 10 + (c - 48)) (first_digits k cs)
unfolding first_digits
first_digit_after n k c cs h =
    let is = head_digit c cs h in let same : digit_value c ≡ c - 48 = digit_is c is.0 is.1 in
    ap (λ d. digits_value_after 10 (n * 10 + d) (first_digits k cs)) same

pub zero_after : (n k : ℕ) → digits_value_after 10 n (first_digits (suc k) []) ≡ digits_value_after 10 (n * 10 + 0) (first_digits k [])
unfolding first_digits
zero_after n k = refl

pub no_digits_after : (n : ℕ) (ds : List ℕ) → digits_value_after 10 n (first_digits 0 ds) ≡ n
unfolding first_digits
no_digits_after n ds = refl

-- a digit more makes the number too large
pub too_large : (n total : ℕ) (ds : List ℕ) → 0 < length ds → all_digits ds ≡ true → 10 ^ 38 ≤ n * 10 + (get_or ds 0 0 - 48) → digits_value_after 10 n ds ≡ total → None ≡ capped total
too_large n total [] some all large e = absurd (omega (arith, some))
too_large n total (c ∷ cs) some all large e = sym (ap capped (sym e ∙ digit_after n c cs all) ∙ capped_after (n * 10 + (c - 48)) cs large)

pub first_too_large : (n total k : ℕ) (ds : List ℕ) → 0 < k → 0 < length ds → all_digits ds ≡ true → 10 ^ 38 ≤ n * 10 + (get_or ds 0 0 - 48) → digits_value_after 10 n (first_digits k ds) ≡ total → None ≡ capped total
first_too_large n total zero ds left some all large e = absurd (omega (arith, left))
first_too_large n total (suc k) [] left some all large e = absurd (omega (arith, some))
first_too_large n total (suc k) (c ∷ cs) left some all large e = sym (ap capped (sym e ∙ first_digit_after n k c cs all) ∙ capped_after (n * 10 + (c - 48)) (first_digits k cs) large)

pub zero_too_large : (n total k : ℕ) → 0 < k → 10 ^ 38 ≤ n * 10 + 0 → digits_value_after 10 n (first_digits k []) ≡ total → None ≡ capped total
zero_too_large n total zero left large e = absurd (omega (arith, left))
zero_too_large n total (suc k) left large e = sym (ap capped (sym e ∙ zero_after n k) ∙ capped_after (n * 10 + 0) (first_digits k []) large)

behind : (c : ℕ) (cs : List ℕ) → take (length (c ∷ cs) - 1) (drop 1 (c ∷ cs)) ≡ cs
behind c cs = take_all (length (c ∷ cs) - 1) cs (omega arith)

-- the rest behind a digit
pub first_rest : (n total k : ℕ) (ds : List ℕ) → 0 < k → 0 < length ds → all_digits ds ≡ true → digits_value_after 10 n (first_digits k ds) ≡ total
    → digits_value_after 10 (n * 10 + (get_or ds 0 0 - 48)) (first_digits (k - 1) (take (length ds - 1) (drop 1 ds))) ≡ total
first_rest n total zero ds left some all e = absurd (omega (arith, left))
first_rest n total (suc k) [] left some all e = absurd (omega (arith, some))
first_rest n total (suc k) (c ∷ cs) left some all e = let one : suc k - 1 ≡ k = omega arith in rw (one, behind c cs) (sym (first_digit_after n k c cs all) ∙ e)

pub zeros_rest : (n total k : ℕ) → 0 < k → digits_value_after 10 n (first_digits k []) ≡ total → digits_value_after 10 (n * 10 + 0) (first_digits (k - 1) []) ≡ total
zeros_rest n total zero left e = absurd (omega (arith, left))
zeros_rest n total (suc k) left e = let one : suc k - 1 ≡ k = omega arith in rw one (sym (zero_after n k) ∙ e)

-- no place is left
pub all_read : (n total k : ℕ) (ds : List ℕ) → k ≤ 0 → n < 10 ^ 38 → digits_value_after 10 n (first_digits k ds) ≡ total → Some n ≡ capped total
all_read n total zero ds none small e = sym (ap capped (sym e ∙ no_digits_after n ds) ∙ capped_is n small)
all_read n total (suc k) ds none small e = absurd (omega (arith, none))

pub rest_digits : (ds : List ℕ) → all_digits ds ≡ true → all_digits (take (length ds - 1) (drop 1 ds)) ≡ true
rest_digits [] h = refl
rest_digits (c ∷ cs) h = rw (behind c cs) ((head_digit c cs h).2)
