-- A number of milliseconds that is read digit by digit is the number of its text.
use Rattle.std.proofs.Common.{◌≡◌, ℕ, suc, ◌+◌, ◌*◌, ◌-◌, ◌<◌, ◌≤◌, Bool, true, false, cond, nat_le, List, [], ◌∷◌, length, drop, get_or, refl, sym, ap, ◌∙◌, subst, arith}
use Rattle.std.proofs.Math.Seq.{drop-cons}
use Rattle.std.proofs.lemmas.Bool.{leb-true}
use Rattle.std.specs.Char.{digit_value}
use Rattle.std.specs.Str.Parse.{digits_value, digits_value_after}
use Rattle.cs_types.specs.Digits.{all_digits}
use Rattle.cs_steps.specs.Query.{milliseconds, up_to_most}

after_ge : (n : ℕ) (ds : List ℕ) → n ≤ digits_value_after 10 n ds
after_ge n [] = omega arith
after_ge n (c ∷ cs) = let more : n * 10 + digit_value c ≤ digits_value_after 10 (n * 10 + digit_value c) cs = after_ge (n * 10 + digit_value c) cs in omega arith

digit_is : (c : ℕ) (cs : List ℕ) → all_digits (c ∷ cs) ≡ true → digit_value c ≡ c - 48
digit_is c cs h = let low : 48 ≤ c = grind (arith, h) in let high : c ≤ 57 = grind (arith, h) in grind (arith, low, high)

none_above : (n : ℕ) → 300000 < n → 0 ≡ up_to_most n
none_above n h = by (nat_le n 300000) refl
  where
    by : (b : Bool) → nat_le n 300000 ≡ b → 0 ≡ cond b n 0
    by true e = let l = leb-true n 300000 e in absurd (omega (arith, h, l))
    by false e = refl

pub too_large : (digits : List ℕ) (number i : ℕ) → i < length digits → all_digits digits ≡ true → all_digits (drop i digits) ≡ true → digits_value_after 10 number (drop i digits) ≡ digits_value_after 10 0 digits
    → 300000 < number * 10 + (get_or digits i 0 - 48) → 0 ≡ milliseconds digits
too_large digits number i lt all rest same big =
    let split : drop i digits ≡ get_or digits i 0 ∷ drop (suc i) digits = drop-cons digits i 0 lt in
    let d : digit_value (get_or digits i 0) ≡ get_or digits i 0 - 48 = digit_is (get_or digits i 0) (drop (suc i) digits) (subst (λ l. all_digits l ≡ true) split rest) in
    let value : digits_value_after 10 (number * 10 + digit_value (get_or digits i 0)) (drop (suc i) digits) ≡ digits_value 10 digits = sym (ap (digits_value_after 10 number) split) ∙ same in
    let more = after_ge (number * 10 + digit_value (get_or digits i 0)) (drop (suc i) digits) in
    none_above (digits_value 10 digits) (omega (arith, d, value, more, big)) ∙ sym (ap (λ b. cond b (up_to_most (digits_value 10 digits)) 0) all)
