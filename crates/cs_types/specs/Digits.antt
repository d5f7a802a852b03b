-- Texts of decimal digits, as this project's own.
use Rattle.std.specs.Prelude.{ℕ, List, [], ◌∷◌, Bool, true, ◌&&◌, nat_lt, nat_le, ◌==◌, length, zero, suc, ◌^◌, if◌then◌else◌, Option, Some, None}

-- each byte is a decimal digit
abbrev pub all_digits : List ℕ → Bool
all_digits [] = true
all_digits (c ∷ cs) = nat_le 48 c && nat_le c 57 && all_digits cs

-- each byte is the digit 0
abbrev pub all_zeros : List ℕ → Bool
all_zeros [] = true
all_zeros (c ∷ cs) = c == 48 && all_zeros cs

-- one digit or more, and nothing else
abbrev pub is_digits : List ℕ → Bool
is_digits ds = nat_lt 0 (length ds) && all_digits ds

-- the first k digits, with zeros where there are fewer
unfoldable pub first_digits : ℕ → List ℕ → List ℕ
first_digits zero ds = []
first_digits (suc k) [] = 48 ∷ first_digits k []
first_digits (suc k) (c ∷ cs) = c ∷ first_digits k cs

-- the number, where it is below 10^38
abbrev pub capped : ℕ → Option ℕ
capped n = if nat_lt n (10 ^ 38) then Some n else None
