-- The texts of a NUMERIC (GoogleSQL data types: 29 digits before the point and 9 behind it), held in billionths.
use Rattle.std.specs.Prelude.{◌≡◌, ◌⊎◌, ℕ, zero, suc, ◌+◌, ◌*◌, ◌/◌, ◌%◌, ◌^◌, ◌<◌, List, [], ◌∷◌, ◌++◌, Bool, true, false, nat_lt, ◌==◌, length, drop, ℤ, pos, negsuc, neg_ℤ, ◌-ℤ◌, ◌<ℤ◌, if◌then◌else◌, Option, Some, None, Result, Ok, Err, decimal, cond}
use Rattle.std.specs.Str.Parse.{digits_value}
use Rattle.cs_types.specs.declared.value_fault.ValueFault.{ValueFault}
use Rattle.cs_types.specs.declared.value_fault.ValueFault.TheVariants.{Range, BadText}
use Rattle.cs_types.specs.Digits.{all_zeros, is_digits, first_digits}

-- below 10^38 billionths in absolute value
abbrev pub IsNumeric : ℤ → Type 0
IsNumeric n = ((pos 0 -ℤ pos 100000000000000000000000000000000000000) <ℤ n) × (n <ℤ pos 100000000000000000000000000000000000000)

-- what stands before the first point; all where there is none
unfoldable pub whole_part : List ℕ → List ℕ
whole_part [] = []
whole_part (c ∷ cs) = if c == 46 then [] else c ∷ whole_part cs

-- what stands behind the first point
unfoldable pub fraction_part : List ℕ → Option (List ℕ)
fraction_part [] = None
fraction_part (c ∷ cs) = if c == 46 then Some cs else fraction_part cs

-- below 10^38 billionths
abbrev pub below_end : ℕ → Result ℕ ValueFault
below_end m = if nat_lt m (10 ^ 38) then Ok m else Err Range

-- the billionths of a number's digits; digits behind the ninth are zeros
unfoldable pub billionths : List ℕ → List ℕ → Result ℕ ValueFault
billionths whole fraction = if all_zeros (drop 9 fraction) then below_end (digits_value 10 (whole ++ first_digits 9 fraction)) else Err Range

-- the same, where the whole part is digits
abbrev pub whole_reading : List ℕ → List ℕ → Result ℕ ValueFault
whole_reading whole fraction = if is_digits whole then billionths whole fraction else Err BadText

-- the same where a point and a fraction may stand behind it
abbrev pub parts_reading : List ℕ → Option (List ℕ) → Result ℕ ValueFault
parts_reading whole None = whole_reading whole []
parts_reading whole (Some fraction) = if is_digits fraction then whole_reading whole fraction else Err BadText

-- the same of a text without a sign
unfoldable pub magnitude_reading : List ℕ → Result ℕ ValueFault
magnitude_reading text = parts_reading (whole_part text) (fraction_part text)

abbrev pub signed : Bool → Result ℕ ValueFault → Result ℤ ValueFault
signed negative (Ok m) = Ok (cond negative (neg_ℤ (pos m)) (pos m))
signed negative (Err fault) = Err fault

-- the same of a text with a minus or none
abbrev pub signed_reading : List ℕ → Result ℤ ValueFault
signed_reading [] = Err BadText
signed_reading (c ∷ cs) = if c == 45 then signed true (magnitude_reading cs) else signed false (magnitude_reading (c ∷ cs))

-- the billionths of a text of at most 64 bytes
unfoldable pub numeric_reading : List ℕ → Result ℤ ValueFault
numeric_reading text = if nat_lt 64 (length text) then Err BadText else signed_reading text

-- the digits of r / 10^k, as far as one is not zero
unfoldable pub fraction_digits : ℕ → ℕ → List ℕ
fraction_digits zero r = []
fraction_digits (suc k) r = if r == 0 then [] else (48 + r / 10 ^ k) ∷ fraction_digits k (r % 10 ^ k)

-- the point and the digits of r billionths, nothing where they are zero
abbrev pub fraction_text : ℕ → List ℕ
fraction_text r = if r == 0 then [] else 46 ∷ fraction_digits 9 r

-- the text of m billionths
unfoldable pub magnitude_text : ℕ → List ℕ
magnitude_text m = decimal (m / 1000000000) ++ fraction_text (m % 1000000000)

-- the one text that is written for n billionths
abbrev pub numeric_text : ℤ → List ℕ
numeric_text (pos m) = magnitude_text m
numeric_text (negsuc m) = 45 ∷ magnitude_text (suc m)

-- the text is digits, or digits with a point and digits behind it
abbrev pub IsPointed : List ℕ → List ℕ → List ℕ → Type 0
IsPointed text whole fraction = ((text ≡ whole) × (fraction ≡ [])) ⊎ ((text ≡ whole ++ 46 ∷ fraction) × (is_digits fraction ≡ true))

-- the text is that many billionths, below 10^38 of them
pub record SpellsMagnitude (text : List ℕ) (m : ℕ) : Type 0 where
  pub whole : List ℕ
  pub fraction : List ℕ
  pub parts : IsPointed text whole fraction
  pub digits : is_digits whole ≡ true
  -- the number of all its digits, a tenth of it for each digit behind the point, in billionths
  pub number : m * 10 ^ length fraction ≡ digits_value 10 (whole ++ fraction) * 10 ^ 9
  pub below : m < 10 ^ 38

-- the text is that many billionths, with a minus or none in front
abbrev pub SpellsNumeric : List ℕ → ℤ → Type 0
SpellsNumeric text n = (m : ℕ) × ((SpellsMagnitude text m × (n ≡ pos m)) ⊎ ((rest : List ℕ) × (text ≡ 45 ∷ rest) × SpellsMagnitude rest m × (n ≡ neg_ℤ (pos m))))
