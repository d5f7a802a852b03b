-- A cell for each of rising columns is in order.
use Rattle.std.proofs.Common.{◌≡◌, sym, ap, subst, refl, ℕ, List, [], ◌∷◌, map, nat_cmp}
use Rattle.std.specs.Cmp.Lexicographic.{slice_cmp}
use Rattle.std.specs.List.Sorted.{IsStrictlySortedBy}
use Rattle.cs_types.specs.declared.cells.Cell.{Cell}
use Rattle.cs_types.specs.Cells.{IsRising}
use Rattle.cs_txn.specs.Left.{cells_for}

columns_for : (columns : List (List ℕ)) (set under : List Cell) → map (λ (c : Cell). c.column) (cells_for columns set under) ≡ columns
columns_for [] set under = refl
columns_for (c ∷ cs) set under = ap (λ l. c ∷ l) (columns_for cs set under)

pub rising_for : (columns : List (List ℕ)) (set under : List Cell) → IsStrictlySortedBy (slice_cmp nat_cmp) columns → IsRising (cells_for columns set under)
rising_for columns set under h = let P : List (List ℕ) → Type 0 = λ l. IsStrictlySortedBy (slice_cmp nat_cmp) l in subst P (sym (columns_for columns set under)) h
