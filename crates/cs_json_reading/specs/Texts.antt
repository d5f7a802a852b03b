-- The texts of members (Spanner's page 'Change streams partitions, records, and queries'; which bytes and how many digits one may have is this project's own).
use Rattle.std.specs.Prelude.{ℕ, ◌^◌, List, [], ◌∷◌, Bool, true, false, ◌&&◌, ◌||◌, ◌==◌, nat_lt, nat_le, bytes_eq, codes, length, if◌then◌else◌, Option, Some, None}
use Rattle.std.specs.Str.Parse.{digits_value}
use Rattle.cs_types.specs.declared.change.Kind.{Kind}
use Rattle.cs_types.specs.declared.change.Kind.TheVariants.{Insert, Update, Delete}
use Rattle.cs_types.specs.declared.names.CaptureType.{CaptureType}
use Rattle.cs_types.specs.declared.names.CaptureType.TheVariants.{OldAndNewValues, NewValues, NewRow, NewRowAndOldValues}
use Rattle.cs_types.specs.declared.column_type.ColumnType.{ColumnType}
use Rattle.cs_types.specs.declared.column_type.ColumnType.TheVariants.{Bool as bool_type, Int64, Numeric, Text, Bytes, Date, Timestamp}
use Rattle.cs_types.specs.Digits.{is_digits}
use Rattle.cs_types.specs.Token.{are_token_bytes}

-- the number of 1 to 8 digits
unfoldable pub sequence_reading : List ℕ → Option ℕ
sequence_reading text = if is_digits text && nat_le (length text) 8 then Some (digits_value 10 text) else None

-- the number, where it is one of 63 bits
abbrev pub in_63_bits : ℕ → Option ℕ
in_63_bits n = if nat_lt n (2 ^ 63) then Some n else None

-- the number of one digit or more, where it is one of 63 bits
unfoldable pub digits_reading : List ℕ → Option ℕ
digits_reading text = if is_digits text then in_63_bits (digits_value 10 text) else None

-- 1 to 64 visible bytes of ASCII, without quotes and backslash
unfoldable pub is_transaction : List ℕ → Bool
is_transaction text = nat_lt 0 (length text) && nat_le (length text) 64 && are_token_bytes text

-- a letter of ASCII
abbrev pub is_letter : ℕ → Bool
is_letter c = (nat_le 65 c && nat_le c 90) || (nat_le 97 c && nat_le c 122)

-- a letter, a digit or an underscore
abbrev pub is_name_byte : ℕ → Bool
is_name_byte c = is_letter c || (nat_le 48 c && nat_le c 57) || c == 95

-- each byte is one of a name
abbrev pub are_name_bytes : List ℕ → Bool
are_name_bytes [] = true
are_name_bytes (c ∷ cs) = is_name_byte c && are_name_bytes cs

-- a letter, and each other byte one of a name
abbrev pub begins_as_name : List ℕ → Bool
begins_as_name [] = false
begins_as_name (c ∷ cs) = is_letter c && are_name_bytes cs

-- a letter, then letters, digits and underscores, at most 128 of all
unfoldable pub is_name : List ℕ → Bool
is_name text = begins_as_name text && nat_le (length text) 128

-- a text that is of a kind
abbrev pub where_it_is : (List ℕ → Bool) → List ℕ → Option (List ℕ)
where_it_is test text = if test text then Some text else None

-- the kind of write of a word
abbrev pub kind_reading : List ℕ → Option Kind
kind_reading text =
    if bytes_eq text (codes "INSERT") then Some Insert
    else (if bytes_eq text (codes "UPDATE") then Some Update
    else (if bytes_eq text (codes "DELETE") then Some Delete else None))

-- the words for a capture type
abbrev pub capture_text : CaptureType → List ℕ
capture_text OldAndNewValues = codes "OLD_AND_NEW_VALUES"
capture_text NewValues = codes "NEW_VALUES"
capture_text NewRow = codes "NEW_ROW"
capture_text NewRowAndOldValues = codes "NEW_ROW_AND_OLD_VALUES"

-- the capture type of its words
abbrev pub capture_reading : List ℕ → Option CaptureType
capture_reading text =
    if bytes_eq text (codes "OLD_AND_NEW_VALUES") then Some OldAndNewValues
    else (if bytes_eq text (codes "NEW_VALUES") then Some NewValues
    else (if bytes_eq text (codes "NEW_ROW") then Some NewRow
    else (if bytes_eq text (codes "NEW_ROW_AND_OLD_VALUES") then Some NewRowAndOldValues else None)))

-- the codes of the types (Spanner's TypeCode)
abbrev pub code_text : ColumnType → List ℕ
code_text bool_type = codes "BOOL"
code_text Int64 = codes "INT64"
code_text Numeric = codes "NUMERIC"
code_text Text = codes "STRING"
code_text Bytes = codes "BYTES"
code_text Date = codes "DATE"
code_text Timestamp = codes "TIMESTAMP"

-- the type of a code
abbrev pub code_reading : List ℕ → Option ColumnType
code_reading text =
    if bytes_eq text (codes "BOOL") then Some bool_type
    else (if bytes_eq text (codes "INT64") then Some Int64
    else (if bytes_eq text (codes "NUMERIC") then Some Numeric
    else (if bytes_eq text (codes "STRING") then Some Text
    else (if bytes_eq text (codes "BYTES") then Some Bytes
    else (if bytes_eq text (codes "DATE") then Some Date
    else (if bytes_eq text (codes "TIMESTAMP") then Some Timestamp else None))))))
