-- The order of values and of cells tells all of them apart; so equal ones give the same to a hash.
use Rattle.std.specs.Prelude.{◌≡◌, ◌↔◌, ℕ, ℤ, pos, List, [], ◌∷◌, true, false, cond, ◌==◌}
use Rattle.std.proofs.Common.{refl, sym, ap, subst, ◌∙◌}
use Rattle.std.specs.declared.cmp.Ordering.{Ordering}
use Rattle.std.specs.declared.cmp.Ordering.TheVariants.{Less, Equal, Greater}
use Rattle.std.specs.Ordering.{nat_cmp, int_cmp, ordering_then, is_eq, eq_by_cmp}
use Rattle.std.specs.Cmp.{Equal-is, eq_by_cmp_equiv}
use Rattle.std.specs.Cmp.Lexicographic.{slice_cmp, nat_list_cmp_total}
use Rattle.std.specs.Hash.{HashWrites, Alike, slice}
use Rattle.std.proofs.lemmas.Map.Lookups.{CmpEqualImpliesEq, exact_unsigned, exact_signed, exact_bytes}
use Rattle.cs_types.specs.declared.value.Value.{Value}
use Rattle.cs_types.specs.declared.value.Value.TheVariants.{Null, Bool as a_bool, Int64, Numeric, Text, Bytes, Date, Timestamp}
use Rattle.cs_types.specs.declared.change.RowName.{RowName}
use Rattle.cs_types.specs.Names.{is_same}
use Rattle.cs_types.specs.Fed.{value_fed, cell_fed, row_fed}
use Rattle.cs_types.specs.Row.{row_cmp, same_row, rows_total}
use Rattle.cs_types.specs.Order.{value_rank, value_number, value_bytes, value_cmp, cell_cmp, cells_cmp}

-- the test of one name is equality
pub same_name-is : (a b : List ℕ) → (is_same a b ≡ true) ↔ (a ≡ b)
same_name-is a b = (
  (λ e. exact_bytes a b ((Equal-is (slice_cmp nat_cmp a b)).0 e)),
  λ e. subst (λ x. is_same a x ≡ true) e ((eq_by_cmp_equiv nat_list_cmp_total).refl a),
)

pub both_equal : (o p : Ordering) → ordering_then o p ≡ Equal → (o ≡ Equal) × (p ≡ Equal)
both_equal Less p e = cc
both_equal Equal p e = (refl, e)
both_equal Greater p e = cc

-- the value with this rank, this number and these bytes
abbrev value_of : ℕ → ℤ → List ℕ → Value
value_of r n bs =
    cond (r == 0) Null (cond (r == 1) (a_bool (is_eq (int_cmp n (pos 1)))) (cond (r == 2) (Int64 n) (cond (r == 3) (Numeric n)
    (cond (r == 4) (Text bs) (cond (r == 5) (Bytes bs) (cond (r == 6) (Date n) (Timestamp n)))))))

value_of-parts : (v : Value) → value_of (value_rank v) (value_number v) (value_bytes v) ≡ v
value_of-parts Null = refl
value_of-parts (a_bool false) = refl
value_of-parts (a_bool true) = refl
value_of-parts (Int64 n) = refl
value_of-parts (Numeric n) = refl
value_of-parts (Text t) = refl
value_of-parts (Bytes b) = refl
value_of-parts (Date d) = refl
value_of-parts (Timestamp t) = refl

pub exact_values : CmpEqualImpliesEq value_cmp
exact_values a b e =
    let (ranks, rest) = both_equal (nat_cmp (value_rank a) (value_rank b)) _ e in
    let (numbers, bytes) = both_equal (int_cmp (value_number a) (value_number b)) _ rest in
    let same : value_of (value_rank a) (value_number a) (value_bytes a) ≡ value_of (value_rank b) (value_number b) (value_bytes b) =
    rw (exact_unsigned (value_rank a) (value_rank b) ranks, exact_signed (value_number a) (value_number b) numbers, exact_bytes (value_bytes a) (value_bytes b) bytes) refl in
    sym (value_of-parts a) ∙ same ∙ value_of-parts b

pub exact_cell : CmpEqualImpliesEq cell_cmp
exact_cell a b e =
    let (columns, values) = both_equal (slice_cmp nat_cmp a.column b.column) _ e in
    λ i. record { column = exact_bytes a.column b.column columns i; value = exact_values a.value b.value values i }

pub exact_cells : CmpEqualImpliesEq cells_cmp
exact_cells [] [] e = refl
exact_cells [] (b ∷ more_b) e = cc
exact_cells (a ∷ more_a) [] e = cc
exact_cells (a ∷ more_a) (b ∷ more_b) e =
    let (first, more) = both_equal (cell_cmp a b) _ e in
    λ i. exact_cell a b first i ∷ exact_cells more_a more_b more i

pub exact_row : CmpEqualImpliesEq row_cmp
exact_row a b e =
    let (tables, keys) = both_equal (slice_cmp nat_cmp a.table b.table) _ e in
    λ i. record { table = exact_bytes a.table b.table tables i; key = exact_cells a.key b.key keys i }

-- the test of one row is equality
pub same_row-is : (a b : RowName) → (same_row a b ≡ true) ↔ (a ≡ b)
same_row-is a b = (
  (λ e. exact_row a b ((Equal-is (row_cmp a b)).0 e)),
  λ e. subst (λ x. same_row a x ≡ true) e ((eq_by_cmp_equiv rows_total).refl a),
)

-- what an order tells not apart is the same, and so gives the same to a hash
alike_by : {K : Type 0} (cmp : K → K → Ordering) (F : K → HashWrites) → CmpEqualImpliesEq cmp → Alike (eq_by_cmp cmp) F
alike_by cmp F exact = record { fed = λ x y h. ap F (exact x y ((Equal-is (cmp x y)).0 h)) }

pub values_fed_alike : Alike (eq_by_cmp value_cmp) value_fed
values_fed_alike = alike_by value_cmp value_fed exact_values

pub cells_fed_alike : Alike (eq_by_cmp cells_cmp) (slice cell_fed)
cells_fed_alike = alike_by cells_cmp (slice cell_fed) exact_cells

pub rows_fed_alike : Alike (eq_by_cmp row_cmp) row_fed
rows_fed_alike = alike_by row_cmp row_fed exact_row
