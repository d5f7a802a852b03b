-- Texts of integers, by std's words.
use Rattle.std.proofs.Common.{◌≡◌, ◌<◌, ◌≤◌, ◌^◌, ℕ, suc, List, [], ◌∷◌, length, Bool, true, false, nat_lt, ℤ, pos, negsuc, Result, Ok, Err, FitsSigned, w64, decimal, refl, ap, sym, subst, ◌∙◌, true≢false, arith, rules}
use lib.Signed.{mag}
use Rattle.std.specs.Fmt.{signed_decimal}
use Rattle.std.specs.Str.Parse.{AllDigits, IsNumeral, digits_value, signed_digits_value, without_leading_sign}
use Rattle.std.proofs.lemmas.Fmt.{decimal_nonempty, length-decimal-le, digits_decimal, digits_value-decimal}
use Rattle.std.proofs.lemmas.Str.Parse.{IsNumeralModel, numerals_by_value, tells_digits}
use Rattle.cs_types.specs.declared.value_fault.ValueFault.{ValueFault}
use Rattle.cs_types.specs.declared.value_fault.ValueFault.TheVariants.{Range, BadText}
use Rattle.cs_types.specs.Digits.{all_digits}
use Rattle.cs_types.specs.Integer.{SpellsInteger, in_int64, is_numeral, is_integer_text, integer_reading}

pub own : IsNumeralModel (AllDigits 10) (digits_value 10)
own = numerals_by_value (AllDigits 10) tells_digits

pub in_int64_fits : (n : ℤ) → FitsSigned w64 n → in_int64 n ≡ Ok n
in_int64_fits (pos n) h = search (rules, h)
in_int64_fits (negsuc n) h = search (rules, h)

pub in_int64_outside : (n : ℤ) → ¬ (FitsSigned w64 n) → in_int64 n ≡ Err Range
in_int64_outside (pos n) h = search (rules, h)
in_int64_outside (negsuc n) h = search (rules, h)

pub digits_of_all : (ds : List ℕ) → all_digits ds ≡ true → AllDigits 10 ds
digits_of_all [] h = tt
digits_of_all (c ∷ cs) h = grind (arith, digits_of_all cs)

pub all_of_digits : (ds : List ℕ) → AllDigits 10 ds → all_digits ds ≡ true
all_of_digits [] h = refl
all_of_digits (c ∷ cs) h = grind (arith, all_of_digits cs)

-- digits do not begin with a plus, so std reads what stands behind the sign
pub is_numeral-behind : (c : ℕ) (cs : List ℕ) → is_integer_text (c ∷ cs) ≡ true → IsNumeral 10 (without_leading_sign (c ∷ cs))
is_numeral-behind c cs h = grind (arith, digits_of_all cs, digits_of_all (c ∷ cs))

pub integer_bad : (t : List ℕ) → is_integer_text t ≡ false → integer_reading t ≡ Err BadText
unfolding integer_reading
integer_bad t h = rw h refl

pub integer_shaped : (t : List ℕ) → is_integer_text t ≡ true → integer_reading t ≡ in_int64 (signed_digits_value 10 t)
unfolding integer_reading
integer_shaped t h = rw h refl

pub integer_fits : (t : List ℕ) (n : ℤ) → is_integer_text t ≡ true → FitsSigned w64 (signed_digits_value 10 t) → n ≡ signed_digits_value 10 t → integer_reading t ≡ Ok n
unfolding integer_reading
integer_fits t n h fits e = rw (h, e) (in_int64_fits (signed_digits_value 10 t) fits)

pub integer_outside : (t : List ℕ) → is_integer_text t ≡ true → ¬ (IsNumeral 10 (without_leading_sign t) × FitsSigned w64 (signed_digits_value 10 t)) → integer_reading t ≡ Err Range
unfolding integer_reading
integer_outside [] h f = absurd (true≢false (sym h))
integer_outside (c ∷ cs) h f = rw h (in_int64_outside (signed_digits_value 10 (c ∷ cs)) (λ fits. f (is_numeral-behind c cs h, fits)))

numeral_decimal : (n : ℕ) → n < 2 ^ 64 → is_numeral (decimal n) ≡ true
numeral_decimal n fits =
    let digits : all_digits (decimal n) ≡ true = all_of_digits (decimal n) (digits_decimal own n fits) in
    let some : 0 < length (decimal n) = decimal_nonempty n fits in
    let few : length (decimal n) ≤ 20 = length-decimal-le 20 n (omega arith) (omega arith) fits in
    search (rules, digits, some, few)

-- a text of digits has no sign
no_sign : (ds : List ℕ) → is_numeral ds ≡ true → (is_integer_text ds ≡ true) × (signed_digits_value 10 ds ≡ pos (digits_value 10 ds))
no_sign [] h = absurd (search (rules, h))
no_sign (c ∷ cs) h = grind (arith)

integer_decimal : (n : ℤ) → FitsSigned w64 n → is_integer_text (signed_decimal n) ≡ true
integer_decimal (pos n) fits = (no_sign (decimal n) (numeral_decimal n (omega (arith, fits)))).0
integer_decimal (negsuc n) fits = numeral_decimal (suc n) (omega (arith, fits))

value_decimal : (n : ℤ) → FitsSigned w64 n → signed_digits_value 10 (signed_decimal n) ≡ n
value_decimal (pos n) fits = (no_sign (decimal n) (numeral_decimal n (omega (arith, fits)))).1 ∙ ap pos (digits_value-decimal own n (omega (arith, fits)))
value_decimal (negsuc n) fits = rw (digits_value-decimal own (suc n) (omega (arith, fits))) refl

-- the written text reads as the number
pub integer_written : (n : ℤ) → FitsSigned w64 n → integer_reading (signed_decimal n) ≡ Ok n
integer_written n fits = integer_fits (signed_decimal n) n (integer_decimal n fits) (subst (λ (z : ℤ). FitsSigned w64 z) (sym (value_decimal n fits)) fits) (sym (value_decimal n fits))

abbrev read : ℤ → Result ℤ ValueFault
read n = Ok n

no_number : (fault : ValueFault) (n : ℤ) → Err fault ≡ read n → ⊥
no_number fault n e = cc

in_int64_told : (z n : ℤ) → in_int64 z ≡ read n → (z ≡ n) × FitsSigned w64 z
in_int64_told z n h = by z (nat_lt (mag z) (2 ^ 63)) refl h
  where
    by : (z : ℤ) (b : Bool) → nat_lt (mag z) (2 ^ 63) ≡ b → in_int64 z ≡ read n → (z ≡ n) × FitsSigned w64 z
    by (pos k) true e h = (cc (rw e at h), record { sfits = grind (arith, e) })
    by (pos k) false e h = absurd (no_number Range n (rw e at h))
    by (negsuc k) true e h = (cc (rw e at h), record { sfits = grind (arith, e) })
    by (negsuc k) false e h = absurd (no_number Range n (rw e at h))

pub integer_read : (t : List ℕ) (n : ℤ) → SpellsInteger t n → integer_reading t ≡ Ok n
integer_read t n h = integer_fits t n h.shape (subst (λ (z : ℤ). FitsSigned w64 z) (sym h.number) h.range) (sym h.number)

pub integer_told : (t : List ℕ) (n : ℤ) → integer_reading t ≡ Ok n → SpellsInteger t n
integer_told t n h = by (is_integer_text t) refl
  where
    by : (b : Bool) → is_integer_text t ≡ b → SpellsInteger t n
    by true e =
        let told = in_int64_told (signed_digits_value 10 t) n (sym (integer_shaped t e) ∙ h) in
        record { shape = e; number = told.0; range = subst (λ (z : ℤ). FitsSigned w64 z) told.0 told.1 }
    by false e = absurd (no_number BadText n (sym (integer_bad t e) ∙ h))
