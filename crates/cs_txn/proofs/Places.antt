-- The map of places, and what stands at a place.
use Rattle.std.proofs.Common.{◌≡◌, ◌∙◌, ◌<◌, sym, ap, refl, map, ℕ, zero, suc, arith, get_or, List, [], ◌∷◌, ◌++◌, length, Some, None, cond, false, true, Bool, is_some, true≢false}
use Rattle.std.specs.declared.option.Option.{Option}
use Rattle.std.specs.List.{slice_get}
use Rattle.std.specs.Option.{option_or}
use Rattle.std.specs.Cmp.{Equal-is}
use Rattle.cs_types.specs.Exact.{exact_row}
use Rattle.std.specs.HashMap.{HashMap, get}
use Rattle.cs_types.specs.declared.change.RowName.{RowName}
use Rattle.cs_types.specs.Row.{row_cmp, same_row}
use Rattle.cs_schema.specs.declared.types.Table.{Table}
use Rattle.cs_txn.specs.declared.txn.Modification.{Modification}
use Rattle.cs_schema.specs.Tables.{next_place}
use Rattle.cs_txn.specs.Digests.{row_digest, row_eq}
use Rattle.cs_txn.specs.History.{last_of, modifications_from}
use Rattle.cs_txn.specs.Places.{last_place, standing, lasts_of, rows_of, lasts_in, place_at, PlacesOf}
use Rattle.cs_txn.specs.declared.txn.Write.{Write}
use Rattle.cs_txn.specs.declared.txn.Txn.{Txn}

-- a place that is there has a modification
Fits : List Modification → Option ℕ → Type 0
Fits ms None = Unit {0}
Fits ms (Some i) = (m : Modification) × (slice_get ms i ≡ Some m)

pub last_stands : (row : RowName) (ms : List Modification) → (standing ms (last_place row ms) ≡ last_of row ms) × (is_some (last_place row ms) ≡ is_some (last_of row ms))
last_stands row [] = (refl, refl)
last_stands row (m ∷ ms) = at (last_place row ms) (last_of row ms) (same_row m.row row) (last_stands row ms).0 (last_stands row ms).1
  where
    at : (p : Option ℕ) (o : Option Modification) (b : Bool) → standing ms p ≡ o → is_some p ≡ is_some o
        → (standing (m ∷ ms) (option_or (next_place p) (cond b (Some 0) None)) ≡ option_or o (cond b (Some m) None)) × (is_some (option_or (next_place p) (cond b (Some 0) None)) ≡ is_some (option_or o (cond b (Some m) None)))
    at None None true e f = (refl, refl)
    at None None false e f = (refl, refl)
    at None (Some x) b e f = absurd (true≢false (sym f))
    at (Some i) None b e f = absurd (true≢false f)
    at (Some i) (Some x) b e f = (e, refl)

-- rows of two numbers are two
pub apart : (a b : RowName) (d e : ℕ) → d ≡ row_digest a → e ≡ row_digest b → (d ≡ e → ⊥) → false ≡ same_row a b
apart a b d e one two differ = by (same_row a b) refl
  where
    by : (v : Bool) → same_row a b ≡ v → false ≡ v
    by false t = refl
    by true t = absurd (differ (one ∙ ap row_digest (exact_row a b ((Equal-is (row_cmp a b)).0 t)) ∙ sym two))

pub place_more : (row : RowName) (ms : List Modification) (m : Modification) → last_place row (ms ++ m ∷ []) ≡ cond (same_row m.row row) (Some (length ms)) (last_place row ms)
place_more row [] m = elim (same_row m.row row) as (λ b. option_or {T = ℕ} None (cond b (Some 0) None) ≡ cond b (Some 0) None) [ true ↦ refl | false ↦ refl ]
place_more row (x ∷ ms) m =
    ap (λ o. option_or (next_place o) (cond (same_row x.row row) (Some 0) None)) (place_more row ms m)
    ∙ elim (same_row m.row row) as (λ b. option_or (next_place (cond b (Some (length ms)) (last_place row ms))) (cond (same_row x.row row) (Some 0) None) ≡ cond b (Some (suc (length ms))) (last_place row (x ∷ ms))) [ true ↦ refl | false ↦ refl ]

module _ {S : Type 0} where
  pub places_same : (m n : HashMap RowName ℕ S) (ms : List Modification) → PlacesOf ms m → ((q : RowName) → get row_eq n q ≡ get row_eq m q) → PlacesOf ms n
  places_same m n ms h u q = u q ∙ h q

  pub places_more : (m n : HashMap RowName ℕ S) (ms : List Modification) (x : Modification) → PlacesOf ms m
      → ((q : RowName) → get row_eq n q ≡ cond (row_eq x.row q) (Some (length ms)) (get row_eq m q))
      → PlacesOf (ms ++ x ∷ []) n
  places_more m n ms x h u q = u q ∙ ap (cond (same_row x.row q) (Some (length ms))) (h q) ∙ sym (place_more q ms x)

  -- the places of a transaction's rows

  pub lasts_alike : (rows : HashMap RowName ℕ S) (ms : List Modification) (ws : List Write) → PlacesOf ms rows → lasts_in rows (rows_of ws) ≡ lasts_of ms ws
  lasts_alike rows ms [] h = refl
  lasts_alike rows ms (w ∷ ws) h = ap (λ p. p ∷ lasts_in rows (rows_of ws)) (h w.row) ∙ ap (λ l. last_place w.row ms ∷ l) (lasts_alike rows ms ws h)

pub added_rows : (tables : List Table) (base : List Modification) (txn : Txn) (ws : List Write) → rows_of ws ≡ map (λ (m : Modification). m.row) (modifications_from tables base txn ws)
added_rows tables base txn [] = refl
added_rows tables base txn (w ∷ ws) = ap (λ l. w.row ∷ l) (added_rows tables base txn ws)

one_stands : (ms : List Modification) (ws : List Write) (i : ℕ) (w : Write) → i < length ws → w ≡ get_or ws i w → standing ms (place_at (lasts_of ms ws) i) ≡ last_of w.row ms
one_stands ms [] i w lt e = absurd (omega (arith, lt))
one_stands ms (v ∷ ws) zero w lt e = (last_stands v.row ms).0 ∙ ap (λ (x : Write). last_of x.row ms) (sym e)
one_stands ms (v ∷ ws) (suc i) w lt e = one_stands ms ws i w (omega (arith, lt)) e

pub stands_at : (ms : List Modification) (ws : List Write) (lasts : List (Option ℕ)) (i : ℕ) (w : Write) → lasts ≡ lasts_of ms ws → i < length ws → w ≡ get_or ws i w → standing ms (place_at lasts i) ≡ last_of w.row ms
stands_at ms ws lasts i w is lt e = ap (λ l. standing ms (place_at l i)) is ∙ one_stands ms ws i w lt e
