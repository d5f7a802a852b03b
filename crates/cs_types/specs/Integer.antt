-- The texts of an INT64, as change records have it (TypeCode: INT64 as a decimal text).
use Rattle.std.specs.Prelude.{◌≡◌, true, FitsSigned, ℕ, ◌^◌, List, [], ◌∷◌, Bool, false, ◌&&◌, nat_lt, nat_le, ◌==◌, length, ℤ, pos, negsuc, if◌then◌else◌, Result, Ok, Err}
use Rattle.std.specs.Int.{w64}
use Rattle.std.specs.Str.Parse.{signed_digits_value}
use Rattle.cs_types.specs.declared.value_fault.ValueFault.{ValueFault}
use Rattle.cs_types.specs.declared.value_fault.ValueFault.TheVariants.{Range, BadText}
use Rattle.cs_types.specs.Digits.{all_digits}

-- from -2^63 to 2^63 - 1; negsuc n is -1 - n
abbrev pub in_int64 : ℤ → Result ℤ ValueFault
in_int64 (pos n) = if nat_lt n (2 ^ 63) then Ok (pos n) else Err Range
in_int64 (negsuc n) = if nat_lt n (2 ^ 63) then Ok (negsuc n) else Err Range

-- 1 to 64 digits
abbrev pub is_numeral : List ℕ → Bool
is_numeral ds = nat_lt 0 (length ds) && nat_le (length ds) 64 && all_digits ds

-- a minus or none, and 1 to 64 digits
abbrev pub is_integer_text : List ℕ → Bool
is_integer_text [] = false
is_integer_text (c ∷ cs) = if c == 45 then is_numeral cs else is_numeral (c ∷ cs)

-- the number of a text
unfoldable pub integer_reading : List ℕ → Result ℤ ValueFault
integer_reading t = if is_integer_text t then in_int64 (signed_digits_value 10 t) else Err BadText

-- the text is that number of 64 bits, with a minus or none and 1 to 64 digits
pub record SpellsInteger (text : List ℕ) (n : ℤ) : Type 0 where
  pub shape : is_integer_text text ≡ true
  pub number : signed_digits_value 10 text ≡ n
  pub range : FitsSigned w64 n
