-- What is read as a NUMERIC is a text of that number.
use Rattle.std.proofs.Common.{◌≡◌, ◌<◌, ◌≤◌, ◌^◌, ℕ, zero, suc, ◌+◌, ◌*◌, List, [], ◌∷◌, ◌++◌, length, drop, Bool, true, false, nat_lt, ◌==◌, ℤ, Option, Some, None, Result, Ok, Err, if◌then◌else◌, inl, inr, refl, ap, sym, ◌∙◌, arith}
use Rattle.std.specs.Char.{digit_value}
use Rattle.std.specs.Str.Parse.{digits_value, digits_value_after}
use Rattle.std.proofs.Math.Nat.{pow-suc}
use Rattle.cs_types.specs.declared.value_fault.ValueFault.{ValueFault}
use Rattle.cs_types.specs.declared.value_fault.ValueFault.TheVariants.{Range, BadText}
use Rattle.cs_types.specs.Digits.{all_zeros, is_digits, first_digits}
use Rattle.cs_types.specs.Numeric.{whole_part, fraction_part, billionths, whole_reading, parts_reading, magnitude_reading, signed, signed_reading, numeric_reading, SpellsMagnitude, SpellsNumeric}
use Rattle.cs_types.proofs.DateReading.{both_of}
use Rattle.cs_types.proofs.NumericBack.{zeros_value}
use Rattle.cs_types.proofs.NumericReading.{after_append}

abbrev pub read : {A : Type 0} → A → Result A ValueFault
read n = Ok n

abbrev refused : {A : Type 0} → ValueFault → Result A ValueFault
refused fault = Err fault

zeros_behind : (n : ℕ) (ds : List ℕ) → all_zeros ds ≡ true → digits_value_after 10 n ds ≡ n * 10 ^ length ds
zeros_behind n [] h = omega arith
zeros_behind n (c ∷ cs) h =
    let tests = both_of (c == 48) (all_zeros cs) h in
    let nothing : digit_value c ≡ 0 = (let e = tests.0 in grind (arith, e)) in
    zeros_behind (n * 10 + digit_value c) cs tests.1
    ∙ ap (λ d. (n * 10 + d) * 10 ^ length cs) nothing
    ∙ (let e : 10 ^ suc (length cs) ≡ 10 ^ length cs * 10 = pow-suc 10 (length cs) in rw e (omega arith))

tenfold : (a b p q : ℕ) → a * p ≡ b * q → a * (p * 10) ≡ b * (q * 10)
tenfold a b p q h = omega (arith, h)

-- the first k digits and all of them are one number, where those behind are zeros
scaled : (k n : ℕ) (ds : List ℕ) → all_zeros (drop k ds) ≡ true → digits_value_after 10 n (first_digits k ds) * 10 ^ length ds ≡ digits_value_after 10 n ds * 10 ^ k
unfolding first_digits
scaled zero n ds h = sym (zeros_behind n ds h) ∙ omega arith
scaled (suc k) n [] h = ap (λ v. v * 10 ^ 0) (zeros_value (suc k) n) ∙ omega arith
scaled (suc k) n (c ∷ cs) h =
    let next = n * 10 + digit_value c in
    rw (pow-suc 10 (length cs), pow-suc 10 k) (tenfold (digits_value_after 10 next (first_digits k cs)) (digits_value_after 10 next cs) (10 ^ length cs) (10 ^ k) (scaled k next cs h))

passed : (a b c : Bool) (v m : ℕ) → (if a then (if b then (if c then read v else refused Range) else refused Range) else refused BadText) ≡ read m → (a ≡ true) × (b ≡ true) × (c ≡ true) × (v ≡ m)
passed true true true v m h = (refl, refl, refl, cc)
passed true true false v m h = absurd cc
passed true false c v m h = absurd cc
passed false b c v m h = absurd cc

-- what the digits before and behind the point make
pub record Makes (whole fraction : List ℕ) (m : ℕ) : Type 0 where
  pub digits : is_digits whole ≡ true
  pub number : m * 10 ^ length fraction ≡ digits_value 10 (whole ++ fraction) * 10 ^ 9
  pub below : m < 10 ^ 38

below_of : (a b : ℕ) → nat_lt a b ≡ true → a < b
below_of a b h = grind (arith, h)

whole_told : (whole fraction : List ℕ) (m : ℕ) → whole_reading whole fraction ≡ read m → Makes whole fraction m
unfolding billionths
whole_told whole fraction m h =
    let v = digits_value 10 (whole ++ first_digits 9 fraction) in
    let tests = passed (is_digits whole) (all_zeros (drop 9 fraction)) (nat_lt v (10 ^ 38)) v m h in
    record {
      digits = tests.0;
      number = ap (λ x. x * 10 ^ length fraction) (sym tests.3 ∙ after_append 0 whole (first_digits 9 fraction))
          ∙ scaled 9 (digits_value 10 whole) fraction tests.1
          ∙ ap (λ x. x * 10 ^ 9) (sym (after_append 0 whole fraction));
      below = below_of m (10 ^ 38) (ap (λ x. nat_lt x (10 ^ 38)) (sym tests.3) ∙ tests.2);
    }

-- the text by its first point
abbrev Split : List ℕ → List ℕ → Option (List ℕ) → Type 0
Split text whole None = text ≡ whole
Split text whole (Some fraction) = text ≡ whole ++ 46 ∷ fraction

split_more : (c : ℕ) (text whole : List ℕ) (o : Option (List ℕ)) → Split text whole o → Split (c ∷ text) (c ∷ whole) o
split_more c text whole None h = ap (λ (l : List ℕ). c ∷ l) h
split_more c text whole (Some fraction) h = ap (λ (l : List ℕ). c ∷ l) h

abbrev none_or : Bool → List ℕ → Option (List ℕ) → Option (List ℕ)
none_or b cs o = if b then Some cs else o

split_at : (b : Bool) (c : ℕ) (cs whole : List ℕ) (o : Option (List ℕ)) → (b ≡ true → c ≡ 46) → Split cs whole o → Split (c ∷ cs) (if b then [] else c ∷ whole) (none_or b cs o)
split_at true c cs whole o point h = ap (λ (x : ℕ). x ∷ cs) (point refl)
split_at false c cs whole o point h = split_more c cs whole o h

is_point : (c : ℕ) → (c == 46) ≡ true → c ≡ 46
is_point c h = grind (arith, h)

split : (text : List ℕ) → Split text (whole_part text) (fraction_part text)
unfolding whole_part fraction_part
split [] = refl
split (c ∷ cs) = split_at (c == 46) c cs (whole_part cs) (fraction_part cs) (is_point c) (split cs)

never : {A : Type 0} (fault : ValueFault) (m : A) → refused {A = A} fault ≡ read m → ⊥
never fault m e = cc

parts_told : (text whole : List ℕ) (o : Option (List ℕ)) (m : ℕ) → Split text whole o → parts_reading whole o ≡ read m → SpellsMagnitude text m
parts_told text whole None m is h =
    let made = whole_told whole [] m h in
    record { whole = whole; fraction = []; parts = inl (is, refl); digits = made.digits; number = made.number; below = made.below }
parts_told text whole (Some fraction) m is h = by (is_digits fraction) refl h
  where
    by : (b : Bool) → is_digits fraction ≡ b → (if b then whole_reading whole fraction else refused BadText) ≡ read m → SpellsMagnitude text m
    by true e h =
        let made = whole_told whole fraction m h in
        record { whole = whole; fraction = fraction; parts = inr (is, e); digits = made.digits; number = made.number; below = made.below }
    by false e h = absurd (never BadText m h)

magnitude_told : (text : List ℕ) (m : ℕ) → magnitude_reading text ≡ read m → SpellsMagnitude text m
unfolding magnitude_reading
magnitude_told text m h = parts_told text (whole_part text) (fraction_part text) m (split text) h

plain_told : (text : List ℕ) (n : ℤ) (r : Result ℕ ValueFault) → magnitude_reading text ≡ r → signed false r ≡ read n → SpellsNumeric text n
plain_told text n (Ok m) e h = (m, inl (magnitude_told text m e, cc))
plain_told text n (Err fault) e h = absurd (never fault n h)

minus_told : (rest : List ℕ) (n : ℤ) (r : Result ℕ ValueFault) → magnitude_reading rest ≡ r → signed true r ≡ read n → SpellsNumeric (45 ∷ rest) n
minus_told rest n (Ok m) e h = (m, inr (rest, refl, magnitude_told rest m e, cc))
minus_told rest n (Err fault) e h = absurd (never fault n h)

signed_told : (text : List ℕ) (n : ℤ) → signed_reading text ≡ read n → SpellsNumeric text n
signed_told [] n h = absurd (never BadText n h)
signed_told (c ∷ cs) n h = by (c == 45) (is_minus c) h
  where
    is_minus : (c : ℕ) → (c == 45) ≡ true → c ≡ 45
    is_minus c h = grind (arith, h)

    by : (b : Bool) → (b ≡ true → c ≡ 45) → (if b then signed true (magnitude_reading cs) else signed false (magnitude_reading (c ∷ cs))) ≡ read n → SpellsNumeric (c ∷ cs) n
    by true point h = rw (point refl) (minus_told cs n (magnitude_reading cs) refl h)
    by false point h = plain_told (c ∷ cs) n (magnitude_reading (c ∷ cs)) refl h

pub numeric_told : (text : List ℕ) (n : ℤ) → numeric_reading text ≡ Ok n → (length text ≤ 64) × SpellsNumeric text n
unfolding numeric_reading
numeric_told text n h = by (nat_lt 64 (length text)) refl h
  where
    short : (k : ℕ) → nat_lt 64 k ≡ false → k ≤ 64
    short k e = grind (arith, e)

    by : (b : Bool) → nat_lt 64 (length text) ≡ b → (if b then refused BadText else signed_reading text) ≡ read n → (length text ≤ 64) × SpellsNumeric text n
    by true e h = absurd (never BadText n h)
    by false e h = (short (length text) e, signed_told text n h)
