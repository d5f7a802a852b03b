-- A text of a NUMERIC is read as its number.
use Rattle.std.proofs.Common.{◌≡◌, ◌≢◌, ◌<◌, ◌≤◌, ◌^◌, ℕ, zero, suc, ◌+◌, ◌-◌, ◌*◌, List, [], ◌∷◌, ◌++◌, length, get_or, drop, true, false, nat_lt, ◌==◌, ℤ, Some, Ok, inl, inr, refl, ap, sym, subst, ◌∙◌, arith, append-nil}
use Rattle.std.specs.Char.{digit_value}
use Rattle.std.specs.Str.Parse.{digits_value, digits_value_after}
use Rattle.std.proofs.Math.Nat.{pow-suc}
use Rattle.cs_types.specs.Digits.{all_digits, all_zeros, is_digits, first_digits, capped}
use Rattle.cs_types.specs.Numeric.{whole_reading, magnitude_reading, signed, numeric_reading, IsPointed, SpellsMagnitude, SpellsNumeric}
use Rattle.cs_types.proofs.Capped.{digit_is, head_digit}
use Rattle.cs_types.proofs.DateReading.{both_of, both_true}
use Rattle.cs_types.proofs.NumericBack.{zeros_value}
use Rattle.cs_types.proofs.NumericReading.{after_append, parts_read, magnitude_pointed, magnitude_plain, numeric_minus, numeric_plain, pointed_good}
use Rattle.cs_types.proofs.NumericTold.{Makes}

digits_all : (ds : List ℕ) → is_digits ds ≡ true → all_digits ds ≡ true
digits_all ds h = (both_of (nat_lt 0 (length ds)) (all_digits ds) h).1

no_points : (ds : List ℕ) → all_digits ds ≡ true → (i : ℕ) → i < length ds → get_or ds i 0 ≢ 46
no_points [] h i lt = absurd (omega (arith, lt))
no_points (c ∷ cs) h zero lt = λ e. omega (arith, (head_digit c cs h).0, e)
no_points (c ∷ cs) h (suc i) lt = no_points cs ((head_digit c cs h).2) i (omega (arith, lt))

is_zero : (c : ℕ) → c ≡ 48 → (c == 48) ≡ true
is_zero c h = grind (arith, h)

-- digits that add nothing are zeros
ends : (n m : ℕ) (ds : List ℕ) → all_digits ds ≡ true → m * 10 ^ length ds ≡ digits_value_after 10 n ds → (n ≡ m) × (all_zeros ds ≡ true)
ends n m [] all h = (omega (arith, h), refl)
ends n m (c ∷ cs) all h =
    let is = head_digit c cs all in
    let digit : digit_value c ≡ c - 48 = digit_is c is.0 is.1 in
    let longer : m * (10 ^ length cs * 10) ≡ digits_value_after 10 (n * 10 + digit_value c) cs = rw (pow-suc 10 (length cs)) at h in
    let rest = ends (n * 10 + digit_value c) (m * 10) cs is.2 (omega (arith, longer)) in
    let same : n * 10 + digit_value c ≡ m * 10 = rest.0 in
    let nothing : c ≡ 48 = omega (arith, same, digit, is.0, is.1) in
    (omega (arith, same, digit, is.0, is.1), both_true (c == 48) (all_zeros cs) (is_zero c nothing) rest.1)

tenth : (a b p q : ℕ) → a * (p * 10) ≡ b * (q * 10) → a * p ≡ b * q
tenth a b p q h = omega (arith, h)

unscaled : (k n m : ℕ) (ds : List ℕ) → all_digits ds ≡ true → m * 10 ^ length ds ≡ digits_value_after 10 n ds * 10 ^ k → (digits_value_after 10 n (first_digits k ds) ≡ m) × (all_zeros (drop k ds) ≡ true)
unfolding first_digits
unscaled zero n m ds all h = ends n m ds all (h ∙ omega arith)
unscaled (suc k) n m [] all h = (zeros_value (suc k) n ∙ (let e : m * 10 ^ 0 ≡ n * 10 ^ suc k = h in omega (arith, e)), refl)
unscaled (suc k) n m (c ∷ cs) all h =
    let next = n * 10 + digit_value c in
    let longer : m * (10 ^ length cs * 10) ≡ digits_value_after 10 next cs * (10 ^ k * 10) = rw (pow-suc 10 (length cs), pow-suc 10 k) at h in
    unscaled k next m cs ((head_digit c cs all).2) (tenth m (digits_value_after 10 next cs) (10 ^ length cs) (10 ^ k) longer)

capped_is : (m : ℕ) → m < 10 ^ 38 → Some m ≡ capped m
capped_is m h = grind (arith, h)

whole_spelled : (whole fraction : List ℕ) (m : ℕ) → Makes whole fraction m → all_digits fraction ≡ true → whole_reading whole fraction ≡ Ok m
whole_spelled whole fraction m made all =
    let parts = unscaled 9 (digits_value 10 whole) m fraction all (made.number ∙ ap (λ x. x * 10 ^ 9) (after_append 0 whole fraction)) in
    let value : digits_value 10 (whole ++ first_digits 9 fraction) ≡ m = after_append 0 whole (first_digits 9 fraction) ∙ parts.0 in
    sym (parts_read m whole fraction made.digits parts.1 (capped_is m made.below ∙ ap capped (sym value)))

of_parts : (text whole fraction : List ℕ) (m : ℕ) → IsPointed text whole fraction → Makes whole fraction m → magnitude_reading text ≡ Ok m
of_parts text whole fraction m (inl (is, none)) made =
    ap magnitude_reading is ∙ magnitude_plain whole (no_points whole (digits_all whole made.digits))
    ∙ whole_spelled whole [] m (subst (λ (f : List ℕ). Makes whole f m) none made) refl
of_parts text whole fraction m (inr (is, digits)) made =
    magnitude_pointed text whole fraction is (no_points whole (digits_all whole made.digits)) ∙ pointed_good whole fraction digits
    ∙ whole_spelled whole fraction m made (digits_all fraction digits)

magnitude_spelled : (text : List ℕ) (m : ℕ) → SpellsMagnitude text m → magnitude_reading text ≡ Ok m
magnitude_spelled text m h = of_parts text h.whole h.fraction m h.parts (record { digits = h.digits; number = h.number; below = h.below })

no_sign : (whole more rest : List ℕ) → is_digits whole ≡ true → whole ++ more ≡ 45 ∷ rest → ⊥
no_sign [] more rest h e = absurd cc
no_sign (c ∷ cs) more rest h e = let minus : c ≡ 45 = cc in omega (arith, minus, (head_digit c cs (digits_all (c ∷ cs) h)).0)

plain : (text whole fraction : List ℕ) → IsPointed text whole fraction → is_digits whole ≡ true → (rest : List ℕ) → text ≢ 45 ∷ rest
plain text whole fraction (inl (is, none)) digits rest = λ e. no_sign whole [] rest digits (append-nil whole ∙ sym is ∙ e)
plain text whole fraction (inr (is, pointed)) digits rest = λ e. no_sign whole (46 ∷ fraction) rest digits (sym is ∙ e)

pub numeric_spelled : (text : List ℕ) (n : ℤ) → length text ≤ 64 → SpellsNumeric text n → numeric_reading text ≡ Ok n
numeric_spelled text n short (m, inl (spells, e)) =
    numeric_plain text short (plain text spells.whole spells.fraction spells.parts spells.digits) ∙ ap (signed false) (magnitude_spelled text m spells) ∙ ap Ok (sym e)
numeric_spelled text n short (m, inr (rest, is, spells, e)) =
    numeric_minus text rest short is ∙ ap (signed true) (magnitude_spelled rest m spells) ∙ ap Ok (sym e)
