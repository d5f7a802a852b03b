-- Places, the bytes by which a row stands in the order of all rows, as Spanner's splits have key ranges; the bytes themselves are this project's own.
use Rattle.std.specs.Prelude.{ℕ, zero, suc, ◌+◌, ◌-◌, ◌^◌, ℤ, pos, negsuc, Bool, true, false, List, [], ◌∷◌, ◌++◌, flat_map}
use Rattle.std.specs.Int.{to_be_bytes, w32, w64, w128}
use Rattle.cs_types.specs.declared.value.Value.{Value}
use Rattle.cs_types.specs.declared.value.Value.TheVariants.{Null, Bool as Boolean, Int64, Numeric, Text, Bytes, Date, Timestamp}
use Rattle.cs_types.specs.declared.cells.Cell.{Cell}
use Rattle.cs_types.specs.declared.change.RowName.{RowName}

-- a number and half of the count of its type's numbers, so that the least is 0: the top bit turned over
abbrev pub lifted : ℕ → ℤ → ℕ
lifted half (pos n) = half + n
lifted half (negsuc n) = half - 1 - n

-- a byte of a text or of bytes; 00 is followed by ff
abbrev pub escaped : ℕ → List ℕ
escaped zero = 0 ∷ 255 ∷ []
escaped (suc b) = suc b ∷ []

-- a text or bytes: each byte, then 00 00
abbrev pub text_place : List ℕ → List ℕ
text_place bytes = flat_map escaped bytes ++ 0 ∷ 0 ∷ []

-- false as 00, true as 01
abbrev pub bool_place : Bool → ℕ
bool_place false = 0
bool_place true = 1

-- an INT64, a NUMERIC in billionths and a DATE in days, most significant byte first and the top bit turned over
unfoldable pub int64_place : ℤ → List ℕ
int64_place n = to_be_bytes w64 (lifted (2 ^ 63) n)

unfoldable pub numeric_place : ℤ → List ℕ
numeric_place n = to_be_bytes w128 (lifted (2 ^ 127) n)

unfoldable pub date_place : ℤ → List ℕ
date_place days = to_be_bytes w32 (lifted (2 ^ 31) days)

-- the tag of the type, then the value; a TIMESTAMP's microseconds as an INT64
abbrev pub value_place : Value → List ℕ
value_place Null = 0 ∷ []
value_place (Boolean b) = 1 ∷ bool_place b ∷ []
value_place (Int64 n) = 2 ∷ int64_place n
value_place (Numeric n) = 3 ∷ numeric_place n
value_place (Text text) = 4 ∷ text_place text
value_place (Bytes bytes) = 5 ∷ text_place bytes
value_place (Date days) = 6 ∷ date_place days
value_place (Timestamp us) = 7 ∷ int64_place us

-- the values of a key, in the order of its cells
abbrev pub key_place : List Cell → List ℕ
key_place key = flat_map (λ c. value_place c.value) key

-- the place below all rows of a table: its name and 00
abbrev pub table_place : List ℕ → List ℕ
table_place table = table ++ 0 ∷ []

-- the place of a row: its table's name, 00, and its key
abbrev pub place_bytes : RowName → List ℕ
place_bytes row = row.table ++ 0 ∷ key_place row.key
