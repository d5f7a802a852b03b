-- What a write leaves in the columns that it does not name, and what it found there.
use Rattle.std.proofs.Common.{◌≡◌, ◌∙◌, sym, ap, refl, ℕ, List, [], ◌∷◌, Some, None, cond, false, true, Bool, is_some, true≢false, nat_cmp, rules}
use Rattle.std.specs.declared.option.Option.{Option}
use Rattle.std.specs.Cmp.Lexicographic.{slice_cmp}
use Rattle.std.specs.Cmp.{Equal-is}
use Rattle.std.proofs.lemmas.Map.Lookups.{exact_bytes}
use Rattle.cs_types.specs.declared.value.Value.{Value}
use Rattle.cs_types.specs.declared.value.Value.TheVariants.{Null}
use Rattle.cs_types.specs.declared.cells.Cell.{Cell}
use Rattle.cs_types.specs.declared.change.Kind.{Kind}
use Rattle.cs_types.specs.declared.change.Kind.TheVariants.{Insert, Update, Delete}
use Rattle.cs_types.specs.Names.{is_same, is_among, columns_of}
use Rattle.cs_txn.specs.Left.{found_in, or_null, or_under, value_over, cells_for, cells_or_none, row_cells, cells_left}
use Rattle.cs_txn.specs.History.{IsAllowed, AsItWas, Leaves}

found_for : (column : List ℕ) (columns : List (List ℕ)) (set under : List Cell) → found_in column (cells_for columns set under) ≡ cond (is_among column columns) (Some (value_over column set under)) None
found_for column [] set under = refl
found_for column (c ∷ cs) set under = at (is_same c column) refl (found_for column cs set under)
  where
    at : (b : Bool) → is_same c column ≡ b → found_in column (cells_for cs set under) ≡ cond (is_among column cs) (Some (value_over column set under)) None → cond b (Some (value_over c set under)) (found_in column (cells_for cs set under)) ≡ cond (cond b true (is_among column cs)) (Some (value_over column set under)) None
    at true e r = ap (λ x. Some (value_over x set under)) (exact_bytes c column ((Equal-is (slice_cmp nat_cmp c column)).0 e))
    at false e r = r

unnamed : (column : List ℕ) (cells : List Cell) → is_among column (columns_of cells) ≡ false → found_in column cells ≡ None
unnamed column [] e = refl
unnamed column (c ∷ cs) e = at (is_same c.column column) e (unnamed column cs)
  where
    at : (b : Bool) → cond b true (is_among column (columns_of cs)) ≡ false → (is_among column (columns_of cs) ≡ false → found_in column cs ≡ None) → cond b (Some c.value) (found_in column cs) ≡ None
    at true e r = absurd (true≢false e)
    at false e r = r e

pub columns_for : (columns : List (List ℕ)) (set under : List Cell) → columns_of (cells_for columns set under) ≡ columns
columns_for [] set under = refl
columns_for (c ∷ cs) set under = ap (λ l. c ∷ l) (columns_for cs set under)

value_unnamed : (column : List ℕ) (set under : List Cell) → is_among column (columns_of set) ≡ false → value_over column set under ≡ or_null (found_in column under)
value_unnamed column set under e = ap (λ o. or_under o (found_in column under)) (unnamed column set e)

null_either : (b : Bool) (v : Value) → v ≡ Null → or_null (cond b (Some v) None) ≡ Null
null_either true v e = e
null_either false v e = refl

inserted : (columns : List (List ℕ)) (set : List Cell) (column : List ℕ) → is_among column (columns_of set) ≡ false → or_null (found_in column (cells_for columns set [])) ≡ Null
inserted columns set column e = ap or_null (found_for column columns set []) ∙ null_either (is_among column columns) (value_over column set []) (value_unnamed column set [] e)

updated : (columns : List (List ℕ)) (set under : List Cell) (column : List ℕ) → is_among column (columns_of set) ≡ false → found_in column (cells_for columns set under) ≡ found_in column (cells_for columns [] under)
updated columns set under column e =
    found_for column columns set under ∙ ap (λ v. cond (is_among column columns) (Some v) None) (value_unnamed column set under e) ∙ sym (found_for column columns [] under)

pub leaves : (columns : List (List ℕ)) (k : Kind) (set : List Cell) (s : Option (List Cell)) → IsAllowed k (is_some s) → ((name : List ℕ) → is_among name (columns_of set) ≡ true → is_among name columns ≡ true) → Leaves k (columns_of set) (row_cells columns s) (cells_left columns k set s)
leaves columns Insert set None h n = (refl, inserted columns set, λ name i. ap (is_among name) (columns_for columns set []) ∙ n name i)
leaves columns Insert set (Some s) h n = absurd (true≢false h)
leaves columns Update set None h n = absurd (true≢false (sym h))
leaves columns Update set (Some s) h n = (columns_for columns set s ∙ sym (columns_for columns [] s), updated columns set s, λ name i. ap (is_among name) (columns_for columns set s) ∙ n name i)
leaves columns Delete set s h n = refl

some_either : (b : Bool) (v w : Value) → cond b (Some v) None ≡ Some w → w ≡ v
some_either true v w e = search rules
some_either false v w e = absurd (true≢false (sym (ap is_some e)))

pub as_it_was : (columns : List (List ℕ)) (s : Option (List Cell)) → AsItWas (row_cells columns s) (cells_or_none s)
as_it_was columns None column v e = absurd (true≢false (sym (ap is_some e)))
as_it_was columns (Some s) column v e = some_either (is_among column columns) (value_over column [] s) v (sym (found_for column columns [] s) ∙ e)
