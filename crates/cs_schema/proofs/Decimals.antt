-- Numbers that are read digit by digit from the left are the numbers of their texts.
use Rattle.std.proofs.Common.{◌≡◌, ◌∙◌, sym, ap, refl, ℕ, ◌+◌, ◌*◌, ◌-◌, ◌≤◌, List, [], ◌∷◌, ◌++◌, Some, None, cond, false, true, Bool, is_some, true≢false, arith, ◌&&◌, ◌==◌}
use Rattle.std.specs.Char.{digit_value}
use Rattle.std.specs.Str.Parse.{digits_value_after}
use Rattle.cs_types.specs.Digits.{all_digits}
use Rattle.cs_schema.specs.Lengths.{is_digit, length_from, length_if, length_of}
use Rattle.cs_schema.specs.Options.{hours, days, unit_of, retention_from, IsRetention}

digit_is : (c : ℕ) → is_digit c ≡ true → digit_value c ≡ c - 48
digit_is c e = let low : 48 ≤ c = grind (arith, e) in let high : c ≤ 57 = grind (arith, e) in grind (arith, low, high)

from_left : (most n : ℕ) (ds : List ℕ) → length_from most n ds ≡ cond (all_digits ds) (length_if most (digits_value_after 10 n ds)) None
from_left most n [] = refl
from_left most n (c ∷ cs) = by (is_digit c) refl (from_left most (n * 10 + (c - 48)) cs)
  where
    by : (b : Bool) → is_digit c ≡ b → length_from most (n * 10 + (c - 48)) cs ≡ cond (all_digits cs) (length_if most (digits_value_after 10 (n * 10 + (c - 48)) cs)) None
        → cond b (length_from most (n * 10 + (c - 48)) cs) None ≡ cond (b && all_digits cs) (length_if most (digits_value_after 10 (n * 10 + digit_value c) cs)) None
    by true e rest = rest ∙ ap (λ d. cond (all_digits cs) (length_if most (digits_value_after 10 (n * 10 + d) cs)) None) (sym (digit_is c e))
    by false e rest = refl

pub length_is : (most : ℕ) (ds : List ℕ) → length_from most 0 ds ≡ length_of most ds
length_is most ds = from_left most 0 ds

-- a text that is read as a retention

abbrev Reads : ℕ → List ℕ → ℕ → Type 0
Reads n t us = (ds : List ℕ) × (letter : ℕ) × (t ≡ ds ++ letter ∷ []) × (all_digits ds ≡ true) × (unit_of (digits_value_after 10 n ds) letter [] ≡ Some us)

last_letter : (n c : ℕ) (cs : List ℕ) (us : ℕ) → unit_of n c cs ≡ Some us → Reads n (c ∷ cs) us
last_letter n c [] us e = ([], c, refl, refl, e)
last_letter n c (d ∷ cs) us e = absurd (true≢false (sym (ap is_some e)))

read_back : (n : ℕ) (t : List ℕ) (us : ℕ) → retention_from n t ≡ Some us → Reads n t us
read_back n [] us e = absurd (true≢false (sym (ap is_some e)))
read_back n (c ∷ cs) us e = by (is_digit c) refl (read_back (n * 10 + (c - 48)) cs us) e
  where
    by : (b : Bool) → is_digit c ≡ b → (retention_from (n * 10 + (c - 48)) cs ≡ Some us → Reads (n * 10 + (c - 48)) cs us) → cond b (retention_from (n * 10 + (c - 48)) cs) (unit_of n c cs) ≡ Some us → Reads n (c ∷ cs) us
    by true f rest g =
        let r = rest g in
        (c ∷ r.0, r.1, ap (λ l. c ∷ l) r.2, ap (λ b. b && all_digits r.0) f ∙ r.3, ap (λ d. unit_of (digits_value_after 10 (n * 10 + d) r.0) r.1 []) (digit_is c f) ∙ r.4)
    by false f rest g = last_letter n c cs us g

no_letter : (n c us : ℕ) → is_digit c ≡ true → unit_of n c [] ≡ Some us → ⊥
no_letter n c us f e =
    let high : c ≤ 57 = grind (arith, f) in
    by (c == 104) (c == 100) refl refl e
  where
    by : (a b : Bool) → (c == 104) ≡ a → (c == 100) ≡ b → cond a (hours n) (cond b (days n) None) ≡ Some us → ⊥
    by true b g h k = let high : c ≤ 57 = grind (arith, f) in grind (arith, g, high)
    by false true g h k = let high : c ≤ 57 = grind (arith, f) in grind (arith, h, high)
    by false false g h k = true≢false (sym (ap is_some k))

read_here : (n : ℕ) (ds : List ℕ) (letter us : ℕ) → all_digits ds ≡ true → unit_of (digits_value_after 10 n ds) letter [] ≡ Some us → retention_from n (ds ++ letter ∷ []) ≡ Some us
read_here n [] letter us d e = by (is_digit letter) refl
  where
    by : (b : Bool) → is_digit letter ≡ b → cond b (retention_from (n * 10 + (letter - 48)) []) (unit_of n letter []) ≡ Some us
    by true f = absurd (no_letter n letter us f e)
    by false f = e
read_here n (c ∷ cs) letter us d e = by (is_digit c) refl (read_here (n * 10 + (c - 48)) cs letter us) d
  where
    by : (b : Bool) → is_digit c ≡ b → (all_digits cs ≡ true → unit_of (digits_value_after 10 (n * 10 + (c - 48)) cs) letter [] ≡ Some us → retention_from (n * 10 + (c - 48)) (cs ++ letter ∷ []) ≡ Some us) → (b && all_digits cs) ≡ true → cond b (retention_from (n * 10 + (c - 48)) (cs ++ letter ∷ [])) (unit_of n c (cs ++ letter ∷ [])) ≡ Some us
    by true f rest g = rest g (sym (ap (λ d. unit_of (digits_value_after 10 (n * 10 + d) cs) letter []) (digit_is c f)) ∙ e)
    by false f rest g = absurd (true≢false (sym g))

pub retention_is : (t : List ℕ) (us : ℕ) → retention_from 0 t ≡ Some us → IsRetention t us
retention_is t us e = let r = read_back 0 t us e in record { digits = r.0; letter = r.1; made = r.2; decimal = r.3; unit = r.4 }

pub retention_read : (t : List ℕ) (us : ℕ) → IsRetention t us → retention_from 0 t ≡ Some us
retention_read t us r = ap (retention_from 0) r.made ∙ read_here 0 r.digits r.letter us r.decimal r.unit
