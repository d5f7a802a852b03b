-- One step of a map of columns.
use Rattle.std.proofs.Common.{◌≡◌, ◌∙◌, sym, ap, ℕ, zero, suc, ◌+◌, ◌<◌, List, [], ◌∷◌, length, drop, get_or, Some, cond, false, true, Bool, arith, nat_cmp}
use Rattle.std.specs.Prelude.{slice_get}
use Rattle.std.specs.Cmp.Lexicographic.{slice_cmp}
use Rattle.std.specs.BTreeMap.{BTreeMap, get, is_at}
use Rattle.std.proofs.lemmas.List.{drop_more}
use Rattle.cs_schema.specs.declared.types.Column.{Column}
use Rattle.cs_txn.specs.Columns.{column_named}
use Rattle.cs_txn.specs.Finding.{column_at, LeadsFrom}

get_at : {X : Type 0} (xs : List X) (i : ℕ) (x : X) → i < length xs → x ≡ get_or xs i x → slice_get xs i ≡ Some x
get_at [] i x lt e = absurd (omega (arith, lt))
get_at (y ∷ ys) zero x lt e = ap Some (sym e)
get_at (y ∷ ys) (suc i) x lt e = get_at ys i x (omega (arith, lt)) e

drop_next : (columns : List Column) (i : ℕ) (x : Column) → i < length columns → x ≡ get_or columns i x → drop i columns ≡ x ∷ drop (i + 1) columns
drop_next columns i x lt e = drop_more columns i x lt ∙ ap (λ (y : Column). y ∷ drop (i + 1) columns) (sym e)

pub leads_step : (m n : BTreeMap (List ℕ) ℕ) (columns : List Column) (i j : ℕ) (x : Column) → j ≡ i + 1 → i < length columns → x ≡ get_or columns i x
    → LeadsFrom j columns m
    → ((q : List ℕ) → get (slice_cmp nat_cmp) n q ≡ cond (is_at (slice_cmp nat_cmp x.name) q) (Some i) (get (slice_cmp nat_cmp) m q))
    → LeadsFrom i columns n
leads_step m n columns i j x is lt e h u q =
    ap (column_at columns) (u q) ∙ at (is_at (slice_cmp nat_cmp x.name) q) ∙ sym (ap (column_named q) (drop_next columns i x lt e))
  where
    at : (b : Bool) → column_at columns (cond b (Some i) (get (slice_cmp nat_cmp) m q)) ≡ cond b (Some x) (column_named q (drop (i + 1) columns))
    at true = get_at columns i x lt e
    at false = h q ∙ ap (λ k. column_named q (drop k columns)) is
