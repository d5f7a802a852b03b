-- Some of the cells, in their order, are cells.
use Rattle.std.proofs.Common.{◌≡◌, sym, ap, subst, refl, ℕ, List, [], ◌∷◌, cond, false, true, Bool, All, map, nat_cmp, ◌&&◌}
use Rattle.std.specs.List.{filter}
use Rattle.std.specs.Cmp.Lexicographic.{slice_cmp}
use Rattle.std.specs.List.Sorted.{IsStrictlySortedBy}
use Rattle.std.proofs.lemmas.List.Elements.{All-filter}
use Rattle.std.proofs.lemmas.Bool.{false≢true, true≢false}
use Rattle.std.proofs.lemmas.List.Kept.{IsStrictlySortedBy-filter}
use Rattle.cs_types.specs.declared.cells.Cell.{Cell}
use Rattle.cs_types.specs.Cells.{IsRising}
use Rattle.cs_types.specs.Value.{IsInRange}
use Rattle.cs_schema.specs.declared.types.Watch.{Watch}
use Rattle.cs_txn.specs.declared.txn.Modification.{Modification}
use Rattle.cs_capture.specs.declared.table.Told.{Told}
use Rattle.cs_capture.specs.declared.table.Told.TheVariants.{Nothing, Watched, Modified}
use Rattle.cs_capture.specs.Captured.{is_watched, is_set, is_told, told_cells}

-- whether the cell of a column is told
column_told : Told → Watch → List (List ℕ) → Modification → List ℕ → Bool
column_told Nothing watch key m column = false
column_told Watched watch key m column = is_watched watch key m column
column_told Modified watch key m column = is_watched watch key m column && is_set m.kind m.named column

told_is : (told : Told) (watch : Watch) (key : List (List ℕ)) (m : Modification) (c : Cell) → is_told told watch key m c ≡ column_told told watch key m c.column
unfolding column_told
told_is Nothing watch key m c = refl
told_is Watched watch key m c = refl
told_is Modified watch key m c = refl

-- the columns of the cells that pass are the columns that pass
columns_filter : (q : Cell → Bool) (p : List ℕ → Bool) → ((c : Cell) → q c ≡ p c.column) → (cs : List Cell) → map (λ (c : Cell). c.column) (filter q cs) ≡ filter p (map (λ (c : Cell). c.column) cs)
columns_filter q p same [] = refl
columns_filter q p same (c ∷ cs) = at (q c) (p c.column) (same c) (columns_filter q p same cs)
  where
    at : (a b : Bool) → a ≡ b → map (λ (c : Cell). c.column) (filter q cs) ≡ filter p (map (λ (c : Cell). c.column) cs) → map (λ (c : Cell). c.column) (cond a (c ∷ filter q cs) (filter q cs)) ≡ cond b (c.column ∷ filter p (map (λ (c : Cell). c.column) cs)) (filter p (map (λ (c : Cell). c.column) cs))
    at true true e h = ap (λ l. c.column ∷ l) h
    at true false e h = absurd (true≢false e)
    at false true e h = absurd (false≢true e)
    at false false e h = h

pub told_rising : (told : Told) (watch : Watch) (key : List (List ℕ)) (m : Modification) (cs : List Cell) → IsRising cs → IsRising (told_cells told watch key m cs)
told_rising told watch key m cs h =
    let P : List (List ℕ) → Type 0 = λ l. IsStrictlySortedBy (slice_cmp nat_cmp) l in
    subst P (sym (columns_filter (is_told told watch key m) (column_told told watch key m) (told_is told watch key m) cs)) (IsStrictlySortedBy-filter (slice_cmp nat_cmp) (column_told told watch key m) (map (λ (c : Cell). c.column) cs) h)

abbrev pub cell_in_range : Cell → Type 0
cell_in_range c = IsInRange c.value

pub told_in_range : (told : Told) (watch : Watch) (key : List (List ℕ)) (m : Modification) (cs : List Cell) → All cell_in_range cs → All cell_in_range (told_cells told watch key m cs)
told_in_range told watch key m cs h = All-filter (is_told told watch key m) cell_in_range cs h
