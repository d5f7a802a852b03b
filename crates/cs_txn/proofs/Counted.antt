-- The digits of a number stand in JSON as they are, so that its length there is counted and not written.
use Rattle.std.proofs.Common.{◌≡◌, ap, refl, ℕ, suc, ◌+◌, ◌<◌, ◌^◌, List, [], ◌∷◌, ◌++◌, length, ℤ, pos, negsuc, FitsSigned, w64, decimal, arith, length-append, ne_eqb}
use Rattle.std.specs.Char.{digit_value}
use Rattle.std.specs.Fmt.{signed_decimal}
use Rattle.std.specs.Str.Parse.{AllDigits, digits_value}
use Rattle.std.proofs.lemmas.Fmt.{digits_decimal}
use Rattle.std.proofs.lemmas.Str.Parse.{IsNumeralModel, numerals_by_value, tells_digits, digit_from_value}
use Rattle.json.specs.Print.{escape, escape_byte, quoted}

digits : IsNumeralModel (AllDigits 10) (digits_value 10)
digits = numerals_by_value (AllDigits 10) tells_digits

digit_plain : (c : ℕ) → digit_value c < 10 → escape_byte c ≡ c ∷ []
unfolding escape_byte
digit_plain c h =
    let r = digit_from_value c h in
    rw (
      ne_eqb c 34 (λ e. omega (arith, r.0, e)),
      ne_eqb c 92 (λ e. omega (arith, r.1, e)),
      ne_eqb c 8 (λ e. omega (arith, r.0, e)),
      ne_eqb c 12 (λ e. omega (arith, r.0, e)),
      ne_eqb c 10 (λ e. omega (arith, r.0, e)),
      ne_eqb c 13 (λ e. omega (arith, r.0, e)),
      ne_eqb c 9 (λ e. omega (arith, r.0, e)),
    ) (grind (arith, r.0))

escaped : (ds : List ℕ) → AllDigits 10 ds → length (escape ds) ≡ length ds
escaped [] h = refl
escaped (c ∷ cs) h =
    let e : length (escape_byte c ++ escape cs) ≡ length (escape_byte c) + length (escape cs) = length-append (escape_byte c) (escape cs) in
    let p : length (escape_byte c) ≡ 1 = ap length (digit_plain c h.0) in
    let i : length (escape cs) ≡ length cs = escaped cs h.1 in
    let both : length (escape_byte c ++ escape cs) ≡ suc (length cs) = omega (arith, e, p, i) in
    both

sign_plain : escape_byte 45 ≡ 45 ∷ []
unfolding escape_byte
sign_plain = refl

decimal_length : (n : ℕ) → n < 2 ^ 64 → length (escape (decimal n)) ≡ length (decimal n)
decimal_length n fits = escaped (decimal n) (digits_decimal digits n fits)

signed_length : (n : ℤ) → FitsSigned w64 n → length (escape (signed_decimal n)) ≡ length (signed_decimal n)
signed_length (pos n) fits = decimal_length n (omega (arith, fits))
signed_length (negsuc n) fits =
    let e : length (escape_byte 45 ++ escape (decimal (suc n))) ≡ length (escape_byte 45) + length (escape (decimal (suc n))) = length-append (escape_byte 45) (escape (decimal (suc n))) in
    let p : length (escape_byte 45) ≡ 1 = ap length sign_plain in
    let i : length (escape (decimal (suc n))) ≡ length (decimal (suc n)) = decimal_length (suc n) (omega (arith, fits)) in
    let both : length (escape_byte 45 ++ escape (decimal (suc n))) ≡ suc (length (decimal (suc n))) = omega (arith, e, p, i) in
    both

pub quoted_length : (n : ℤ) → FitsSigned w64 n → length (quoted (signed_decimal n)) ≡ length (signed_decimal n) + 2
quoted_length n fits =
    let e : length (escape (signed_decimal n) ++ 34 ∷ []) ≡ length (escape (signed_decimal n)) + 1 = length-append (escape (signed_decimal n)) (34 ∷ []) in
    let s : length (escape (signed_decimal n)) ≡ length (signed_decimal n) = signed_length n fits in
    let both : suc (length (escape (signed_decimal n) ++ 34 ∷ [])) ≡ length (signed_decimal n) + 2 = omega (arith, e, s) in
    both
