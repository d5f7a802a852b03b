-- Names and numbers among the words of a command line, this project's own; a name is one of the SQL of the scripts.
use Rattle.std.specs.Prelude.{ℕ, List, [], ◌∷◌, Bool, true, false, ◌&&◌, ◌||◌, ◌==◌, nat_le, length, if◌then◌else◌, Option, Some, None}
use Rattle.std.specs.Str.Parse.{digits_value}
use Rattle.cs_types.specs.Digits.{is_digits}

-- the number of 1 to 10 digits; it may have leading zeros
unfoldable pub number_reading : List ℕ → Option ℕ
number_reading text = if is_digits text && nat_le (length text) 10 then Some (digits_value 10 text) else None

-- a letter of ASCII
abbrev pub is_letter : ℕ → Bool
is_letter b = (nat_le 65 b && nat_le b 90) || (nat_le 97 b && nat_le b 122)

-- a letter, a digit or an underscore
abbrev pub is_name_byte : ℕ → Bool
is_name_byte b = is_letter b || (nat_le 48 b && nat_le b 57) || b == 95

abbrev pub are_name_bytes : List ℕ → Bool
are_name_bytes [] = true
are_name_bytes (b ∷ bs) = is_name_byte b && are_name_bytes bs

abbrev pub begins_as_name : List ℕ → Bool
begins_as_name [] = false
begins_as_name (b ∷ bs) = is_letter b && are_name_bytes bs

-- a letter, then letters, digits and underscores, at most 128 of all
unfoldable pub is_name : List ℕ → Bool
is_name text = begins_as_name text && nat_le (length text) 128
