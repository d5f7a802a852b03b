-- Tests of what the types of an entry's parts keep.
use Rattle.std.specs.Prelude.{ℕ, Bool, true, ◌&&◌, List, [], ◌∷◌, nat_le, nat_lt, pos, ◌-ℤ◌, int_lt, int_le}
use Rattle.std.specs.Ordering.{nat_cmp, is_lt}
use Rattle.std.specs.Cmp.Lexicographic.{slice_cmp}
use Rattle.cs_types.specs.declared.value.Value.{Value}
use Rattle.cs_types.specs.declared.value.Value.TheVariants.{Null, Bool as Boolean, Int64, Numeric, Text, Bytes, Date, Timestamp}
use Rattle.cs_types.specs.declared.cells.Cell.{Cell}

-- whether a number of microseconds is a stamp
abbrev pub is_stamp : ℕ → Bool
is_stamp us = nat_le 1 us && nat_le us 253402300799999999

-- whether the first cell, if there is one, is of a column above this
abbrev pub is_column_above : Cell → List Cell → Bool
is_column_above c [] = true
is_column_above c (d ∷ cells) = is_lt (slice_cmp nat_cmp c.column d.column)

-- whether columns stand in rising order
abbrev pub are_columns_rising : List Cell → Bool
are_columns_rising [] = true
are_columns_rising (c ∷ cells) = is_column_above c cells && are_columns_rising cells

-- whether each is a byte
abbrev pub are_bytes : List ℕ → Bool
are_bytes [] = true
are_bytes (b ∷ bs) = nat_lt b 256 && are_bytes bs

-- whether a value is in the range of its type
abbrev pub is_in_range : Value → Bool
is_in_range Null = true
is_in_range (Boolean b) = true
is_in_range (Int64 n) = int_le (pos 0 -ℤ pos 9223372036854775808) n && int_lt n (pos 9223372036854775808)
is_in_range (Numeric n) = int_lt (pos 0 -ℤ pos 100000000000000000000000000000000000000) n && int_lt n (pos 100000000000000000000000000000000000000)
is_in_range (Text t) = true
is_in_range (Bytes b) = are_bytes b
is_in_range (Date d) = int_le (pos 0 -ℤ pos 719162) d && int_le d (pos 2932896)
is_in_range (Timestamp t) = int_le (pos 0 -ℤ pos 62135596800000000) t && int_le t (pos 253402300799999999)
