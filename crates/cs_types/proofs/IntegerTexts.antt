-- The text of an INT64 is digits and a minus.
use Rattle.std.proofs.Common.{◌≡◌, ◌&&◌, ℕ, suc, List, [], ◌∷◌, true, nat_le, All, ℤ, pos, negsuc, FitsSigned, w64, decimal, arith}
use Rattle.std.specs.Fmt.{signed_decimal}
use Rattle.std.proofs.lemmas.Bool.{and_parts, leb-true}
use Rattle.std.proofs.lemmas.Fmt.{digits_decimal}
use Rattle.std.proofs.lemmas.List.Elements.{All-nil, All-cons}
use Rattle.cs_types.specs.Digits.{all_digits}
use Rattle.cs_types.specs.Texts.{IsMarkOrDigit}
use Rattle.cs_types.proofs.Integers.{own, all_of_digits}

digits_plain : (ds : List ℕ) → all_digits ds ≡ true → All IsMarkOrDigit ds
digits_plain [] h = All-nil IsMarkOrDigit
digits_plain (c ∷ cs) h =
    let both = and_parts (nat_le 48 c && nat_le c 57) (all_digits cs) h in
    let first = and_parts (nat_le 48 c) (nat_le c 57) both.0 in
    All-cons IsMarkOrDigit c cs (omega (arith, leb-true 48 c first.0), omega (arith, leb-true c 57 first.1)) (digits_plain cs both.1)

pub integer_plain : (n : ℤ) → FitsSigned w64 n → All IsMarkOrDigit (signed_decimal n)
integer_plain (pos n) fits = digits_plain (decimal n) (all_of_digits (decimal n) (digits_decimal own n (omega (arith, fits))))
integer_plain (negsuc n) fits = All-cons IsMarkOrDigit 45 (decimal (suc n)) (omega arith, omega arith) (digits_plain (decimal (suc n)) (all_of_digits (decimal (suc n)) (digits_decimal own (suc n) (omega (arith, fits)))))
