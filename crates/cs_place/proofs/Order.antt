-- Byte order of places is the order of rows: each value's bytes decide as the value does, and none begins another's.
use Rattle.std.proofs.Common.{◌≡◌, ℕ, ℤ, pos, negsuc, zero, suc, ◌^◌, ◌<◌, List, [], ◌∷◌, ◌++◌, refl, sym, ap, ◌∙◌, subst, arith, true, false, ◌↔◌}
use Rattle.std.specs.declared.cmp.Ordering.{Ordering}
use Rattle.std.specs.declared.cmp.Ordering.TheVariants.{Less, Equal, Greater}
use Rattle.std.specs.Ordering.{nat_cmp, int_cmp, ordering_then, is_lt, is_eq}
use Rattle.std.proofs.lemmas.Int.{ints}
use lib.Signed.{mag}
use Rattle.cs_types.specs.Value.{IsInRange}
use Rattle.std.specs.Cmp.Lexicographic.{slice_cmp, nat_list_cmp_total}
use Rattle.std.proofs.lemmas.Cmp.{tied_itself}
use Rattle.std.proofs.lemmas.Bool.Decides.{nat_tests}
use Rattle.std.proofs.lemmas.List.Elements.{All-head, All-tail}
use Rattle.std.proofs.lemmas.Map.Lookups.{exact_bytes}
use Rattle.cs_types.specs.declared.value.Value.{Value}
use Rattle.cs_types.specs.declared.value.Value.TheVariants.{Null, Bool as Boolean, Int64, Numeric, Text, Bytes, Date, Timestamp}
use Rattle.cs_types.specs.declared.cells.Cell.{Cell}
use Rattle.cs_types.specs.declared.change.RowName.{RowName}
use Rattle.cs_types.specs.Order.{value_cmp, cell_cmp, cells_cmp}
use Rattle.cs_types.specs.Row.{row_cmp}
use Rattle.cs_types.specs.Exact.{same_row-is}
use Rattle.cs_types.specs.Database.{columns, AreInRange, IsName, HaveOneLayout}
use Rattle.cs_place.specs.Place.{text_place, int64_place, numeric_place, date_place, value_place, key_place, place_bytes, table_place}
use Rattle.cs_place.proofs.Numbers.{then_equal, then_then, numbers_in_order}

-- what decides after two lists that begin with a and b, where a and b decide by o
abbrev Decide : List ℕ → List ℕ → Ordering → Type 0
Decide a b o = (xs ys : List ℕ) → slice_cmp nat_cmp (a ++ xs) (b ++ ys) ≡ ordering_then o (slice_cmp nat_cmp xs ys)

below : (b : ℕ) → nat_cmp 0 (suc b) ≡ Less
below b = grind (arith, nat_tests)

above : (a : ℕ) → nat_cmp (suc a) 0 ≡ Greater
above a = grind (arith, nat_tests)

decides_less : (o p : Ordering) → o ≡ Less → ordering_then o p ≡ Less
decides_less o p e = ap (λ x. ordering_then x p) e

decides_greater : (o p : Ordering) → o ≡ Greater → ordering_then o p ≡ Greater
decides_greater o p e = ap (λ x. ordering_then x p) e

texts_in_order : (s t : List ℕ) → Decide (text_place s) (text_place t) (slice_cmp nat_cmp s t)
texts_in_order [] [] xs ys = refl
texts_in_order [] (zero ∷ t) xs ys = refl
texts_in_order [] (suc b ∷ t) xs ys = decides_less (nat_cmp 0 (suc b)) _ (below b)
texts_in_order (zero ∷ s) [] xs ys = refl
texts_in_order (suc a ∷ s) [] xs ys = decides_greater (nat_cmp (suc a) 0) _ (above a)
texts_in_order (zero ∷ s) (zero ∷ t) xs ys = texts_in_order s t xs ys
texts_in_order (zero ∷ s) (suc b ∷ t) xs ys = decides_less (nat_cmp 0 (suc b)) _ (below b) ∙ ap (λ o. ordering_then o (slice_cmp nat_cmp xs ys)) (sym (decides_less (nat_cmp 0 (suc b)) (slice_cmp nat_cmp s t) (below b)))
texts_in_order (suc a ∷ s) (zero ∷ t) xs ys = decides_greater (nat_cmp (suc a) 0) _ (above a) ∙ ap (λ o. ordering_then o (slice_cmp nat_cmp xs ys)) (sym (decides_greater (nat_cmp (suc a) 0) (slice_cmp nat_cmp s t) (above a)))
texts_in_order (suc a ∷ s) (suc b ∷ t) xs ys =
    let first = nat_cmp (suc a) (suc b) in
    ap (ordering_then first) (texts_in_order s t xs ys) ∙ sym (then_then first (slice_cmp nat_cmp s t) (slice_cmp nat_cmp xs ys))

int64s_in_order : (m n : ℤ) → mag m < 2 ^ 63 → mag n < 2 ^ 63 → Decide (int64_place m) (int64_place n) (int_cmp m n)
unfolding int64_place
int64s_in_order m n in_m in_n xs ys = numbers_in_order 8 (2 ^ 63) refl m n in_m in_n xs ys

numeric_bits : (n : ℤ) → IsInRange (Numeric n) → mag n < 2 ^ 127
numeric_bits (pos n) h = omega (arith, ints, h.0, h.1)
numeric_bits (negsuc n) h = omega (arith, ints, h.0, h.1)

date_bits : (days : ℤ) → IsInRange (Date days) → mag days < 2 ^ 31
date_bits (pos n) h = omega (arith, ints, h.0, h.1)
date_bits (negsuc n) h = omega (arith, ints, h.0, h.1)

timestamp_bits : (us : ℤ) → IsInRange (Timestamp us) → mag us < 2 ^ 63
timestamp_bits (pos n) h = omega (arith, ints, h.0, h.1)
timestamp_bits (negsuc n) h = omega (arith, ints, h.0, h.1)

numerics_in_order : (m n : ℤ) → mag m < 2 ^ 127 → mag n < 2 ^ 127 → Decide (numeric_place m) (numeric_place n) (int_cmp m n)
unfolding numeric_place
numerics_in_order m n in_m in_n xs ys = numbers_in_order 16 (2 ^ 127) refl m n in_m in_n xs ys

dates_in_order : (m n : ℤ) → mag m < 2 ^ 31 → mag n < 2 ^ 31 → Decide (date_place m) (date_place n) (int_cmp m n)
unfolding date_place
dates_in_order m n in_m in_n xs ys = numbers_in_order 4 (2 ^ 31) refl m n in_m in_n xs ys

-- what is left of a comparison of values whose types and bytes tie
number_decides : (o p q : Ordering) → o ≡ ordering_then p q → o ≡ ordering_then (ordering_then p Equal) q
number_decides o p q e = e ∙ ap (λ x. ordering_then x q) (sym (then_equal p))

values_in_order : (a b : Value) → IsInRange a → IsInRange b → Decide (value_place a) (value_place b) (value_cmp a b)
values_in_order Null Null in_a in_b xs ys = refl
values_in_order (Boolean false) (Boolean false) in_a in_b xs ys = refl
values_in_order (Boolean false) (Boolean true) in_a in_b xs ys = refl
values_in_order (Boolean true) (Boolean false) in_a in_b xs ys = refl
values_in_order (Boolean true) (Boolean true) in_a in_b xs ys = refl
values_in_order (Int64 m) (Int64 n) in_a in_b xs ys = number_decides _ (int_cmp m n) _ (int64s_in_order m n in_a.sfits in_b.sfits xs ys)
values_in_order (Numeric m) (Numeric n) in_a in_b xs ys = number_decides _ (int_cmp m n) _ (numerics_in_order m n (numeric_bits m in_a) (numeric_bits n in_b) xs ys)
values_in_order (Text s) (Text t) in_a in_b xs ys = texts_in_order s t xs ys
values_in_order (Bytes s) (Bytes t) in_a in_b xs ys = texts_in_order s t xs ys
values_in_order (Date m) (Date n) in_a in_b xs ys = number_decides _ (int_cmp m n) _ (dates_in_order m n (date_bits m in_a) (date_bits n in_b) xs ys)
values_in_order (Timestamp m) (Timestamp n) in_a in_b xs ys = number_decides _ (int_cmp m n) _ (int64s_in_order m n (timestamp_bits m in_a) (timestamp_bits n in_b) xs ys)
values_in_order a b in_a in_b xs ys = refl

keys_in_order : (a b : List Cell) → columns a ≡ columns b → AreInRange a → AreInRange b → slice_cmp nat_cmp (key_place a) (key_place b) ≡ cells_cmp a b
keys_in_order [] [] e in_a in_b = refl
keys_in_order [] (c ∷ b) e in_a in_b = cc
keys_in_order (c ∷ a) [] e in_a in_b = cc
keys_in_order (c ∷ a) (d ∷ b) e in_a in_b =
    let typed = λ (x : Cell). IsInRange x.value in
    let column : c.column ≡ d.column = cc in
    let more : columns a ≡ columns b = cc in
    let tie : slice_cmp nat_cmp c.column d.column ≡ Equal = subst (λ x. slice_cmp nat_cmp c.column x ≡ Equal) column (tied_itself nat_list_cmp_total c.column) in
    let cells : value_cmp c.value d.value ≡ cell_cmp c d = ap (λ o. ordering_then o (value_cmp c.value d.value)) (sym tie) in
    values_in_order c.value d.value (All-head typed c a in_a) (All-head typed d b in_b) (key_place a) (key_place b)
    ∙ (λ i. ordering_then (cells i) (keys_in_order a b more (All-tail typed c a in_a) (All-tail typed d b in_b) i))

-- names without the byte 00, each with one behind it
tables_in_order : (s t : List ℕ) → IsName s → IsName t → (xs ys : List ℕ) → slice_cmp nat_cmp (s ++ 0 ∷ xs) (t ++ 0 ∷ ys) ≡ ordering_then (slice_cmp nat_cmp s t) (slice_cmp nat_cmp xs ys)
tables_in_order [] [] in_s in_t xs ys = refl
tables_in_order [] (b ∷ t) in_s in_t xs ys =
    let above : 0 < b = All-head (λ (x : ℕ). 0 < x) b t in_t in
    let first : nat_cmp 0 b ≡ Less = grind (arith, nat_tests) in
    ap (λ o. ordering_then o (slice_cmp nat_cmp xs (t ++ 0 ∷ ys))) first
tables_in_order (a ∷ s) [] in_s in_t xs ys =
    let above : 0 < a = All-head (λ (x : ℕ). 0 < x) a s in_s in
    let first : nat_cmp a 0 ≡ Greater = grind (arith, nat_tests) in
    ap (λ o. ordering_then o (slice_cmp nat_cmp (s ++ 0 ∷ xs) ys)) first
tables_in_order (a ∷ s) (b ∷ t) in_s in_t xs ys =
    let above = λ (x : ℕ). 0 < x in
    ap (ordering_then (nat_cmp a b)) (tables_in_order s t (All-tail above a s in_s) (All-tail above b t in_t) xs ys)
    ∙ sym (then_then (nat_cmp a b) (slice_cmp nat_cmp s t) (slice_cmp nat_cmp xs ys))

pub rows_in_order : (a b : RowName) → HaveOneLayout a b → slice_cmp nat_cmp (place_bytes a) (place_bytes b) ≡ row_cmp a b
rows_in_order a b h = tables_in_order a.table b.table h.names.0 h.names.1 (key_place a.key) (key_place b.key) ∙ decided (slice_cmp nat_cmp a.table b.table) refl
  where
    decided : (o : Ordering) → slice_cmp nat_cmp a.table b.table ≡ o → ordering_then o (slice_cmp nat_cmp (key_place a.key) (key_place b.key)) ≡ ordering_then o (cells_cmp a.key b.key)
    decided Less e = refl
    decided Equal e = keys_in_order a.key b.key (h.columns_of_one_table (exact_bytes a.table b.table e)) h.values.0 h.values.1
    decided Greater e = refl

pub rows_apart : (a b : RowName) → HaveOneLayout a b → (place_bytes a ≡ place_bytes b) ↔ (a ≡ b)
rows_apart a b h =
    let order : (place_bytes a ≡ place_bytes b) → row_cmp a b ≡ Equal =
    λ e. sym (rows_in_order a b h) ∙ subst (λ x. slice_cmp nat_cmp (place_bytes a) x ≡ Equal) e (tied_itself nat_list_cmp_total (place_bytes a)) in
    ((λ e. (same_row-is a b).0 (ap is_eq (order e))), λ e. ap place_bytes e)

-- nothing is below the empty list
never_below : (o : Ordering) (xs : List ℕ) → is_lt (ordering_then o (slice_cmp nat_cmp xs [])) ≡ is_lt o
never_below Less xs = refl
never_below Equal [] = refl
never_below Equal (x ∷ xs) = refl
never_below Greater xs = refl

pub table_below : (row : RowName) (table : List ℕ) → IsName row.table → IsName table → is_lt (slice_cmp nat_cmp (place_bytes row) (table_place table)) ≡ is_lt (slice_cmp nat_cmp row.table table)
table_below row table in_row in_table = ap is_lt (tables_in_order row.table table in_row in_table (key_place row.key) []) ∙ never_below (slice_cmp nat_cmp row.table table) (key_place row.key)
