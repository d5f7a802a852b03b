-- The orders of values, of cells and of rows, which are this project's own: by type and then by what is held.
use Rattle.std.specs.Prelude.{ℕ, ℤ, pos, List, [], true, false}
use Rattle.std.specs.declared.cmp.Ordering.{Ordering}
use Rattle.std.specs.Ordering.{nat_cmp, int_cmp, ordering_then}
use Rattle.std.specs.Cmp.Lexicographic.{slice_cmp, lists_total, nat_list_cmp_total}
use Rattle.std.specs.Cmp.{IsTotalOrder, nat_cmp_total, int_cmp_total, on_total, then_total}
use Rattle.cs_types.specs.declared.value.Value.{Value}
use Rattle.cs_types.specs.declared.value.Value.TheVariants.{Null, Bool, Int64, Numeric, Text, Bytes, Date, Timestamp}
use Rattle.cs_types.specs.declared.cells.Cell.{Cell}

-- the place of a value's type among the types
abbrev pub value_rank : Value → ℕ
value_rank Null = 0
value_rank (Bool b) = 1
value_rank (Int64 n) = 2
value_rank (Numeric n) = 3
value_rank (Text t) = 4
value_rank (Bytes b) = 5
value_rank (Date d) = 6
value_rank (Timestamp t) = 7

-- a value's number; false is 0 and true is 1; 0 where it has none
abbrev pub value_number : Value → ℤ
value_number Null = pos 0
value_number (Bool false) = pos 0
value_number (Bool true) = pos 1
value_number (Int64 n) = n
value_number (Numeric n) = n
value_number (Text t) = pos 0
value_number (Bytes b) = pos 0
value_number (Date d) = d
value_number (Timestamp t) = t

-- a value's bytes, none where it is a number
abbrev pub value_bytes : Value → List ℕ
value_bytes Null = []
value_bytes (Bool b) = []
value_bytes (Int64 n) = []
value_bytes (Numeric n) = []
value_bytes (Text t) = t
value_bytes (Bytes b) = b
value_bytes (Date d) = []
value_bytes (Timestamp t) = []

-- by type, then by number, then by bytes
abbrev pub value_cmp : Value → Value → Ordering
value_cmp a b = ordering_then (nat_cmp (value_rank a) (value_rank b)) (ordering_then (int_cmp (value_number a) (value_number b)) (slice_cmp nat_cmp (value_bytes a) (value_bytes b)))

pub values_total : IsTotalOrder value_cmp
values_total = then_total (on_total value_rank nat_cmp_total) (then_total (on_total value_number int_cmp_total) (on_total value_bytes nat_list_cmp_total))

-- by column, then by value
abbrev pub cell_cmp : Cell → Cell → Ordering
cell_cmp a b = ordering_then (slice_cmp nat_cmp a.column b.column) (value_cmp a.value b.value)

-- cell by cell, and a list before those that it begins
abbrev pub cells_cmp : List Cell → List Cell → Ordering
cells_cmp a b = slice_cmp cell_cmp a b

pub cells_total : IsTotalOrder cells_cmp
cells_total = lists_total (then_total (on_total (λ (c : Cell). c.column) nat_list_cmp_total) (on_total (λ (c : Cell). c.value) values_total))
