-- The map of the items' places, and what stands at a place.
use Rattle.std.proofs.Common.{◌≡◌, ◌∙◌, sym, ap, refl, ℕ, suc, ◌+◌, ◌<◌, List, [], ◌∷◌, ◌++◌, length, take, get_or, Some, None, cond, false, true, Bool, is_some, true≢false, arith}
use Rattle.std.specs.declared.option.Option.{Option}
use Rattle.std.specs.Ordering.{nat_cmp}
use Rattle.std.specs.Cmp.Lexicographic.{slice_cmp}
use Rattle.std.specs.List.{slice_get}
use Rattle.std.specs.BTreeMap.{BTreeMap, get, is_at}
use Rattle.std.proofs.lemmas.List.{length-take-le}
use Rattle.cs_schema.specs.declared.types.Watched.{Watched}
use Rattle.std.specs.Option.{option_or}
use Rattle.cs_types.specs.Names.{is_same}
use Rattle.cs_schema.specs.Tables.{next_place}
use Rattle.cs_schema.specs.WatchList.{item_of, place_of, ItemPlaces}
use Rattle.cs_schema.proofs.Again.{take_next}

-- what stands at a place, if there is one
abbrev pub item_standing : List Watched → Option ℕ → Option Watched
item_standing ws None = None
item_standing ws (Some i) = slice_get ws i

pub item_stands : (table : List ℕ) (ws : List Watched) → (item_standing ws (place_of table ws) ≡ item_of table ws) × (is_some (place_of table ws) ≡ is_some (item_of table ws))
item_stands table [] = (refl, refl)
item_stands table (w ∷ ws) = at (place_of table ws) (item_of table ws) (is_same w.table table) (item_stands table ws).0 (item_stands table ws).1
  where
    at : (p : Option ℕ) (o : Option Watched) (b : Bool) → item_standing ws p ≡ o → is_some p ≡ is_some o
        → (item_standing (w ∷ ws) (option_or (next_place p) (cond b (Some 0) None)) ≡ option_or o (cond b (Some w) None)) × (is_some (option_or (next_place p) (cond b (Some 0) None)) ≡ is_some (option_or o (cond b (Some w) None)))
    at None None true e f = (refl, refl)
    at None None false e f = (refl, refl)
    at None (Some x) b e f = absurd (true≢false (sym f))
    at (Some i) None b e f = absurd (true≢false f)
    at (Some i) (Some x) b e f = (e, refl)

item_more : (table : List ℕ) (ws : List Watched) (w : Watched) → place_of table (ws ++ w ∷ []) ≡ cond (is_same w.table table) (Some (length ws)) (place_of table ws)
item_more table [] w = elim (is_same w.table table) as (λ b. option_or {T = ℕ} None (cond b (Some 0) None) ≡ cond b (Some 0) None) [ true ↦ refl | false ↦ refl ]
item_more table (x ∷ ws) w =
    ap (λ o. option_or (next_place o) (cond (is_same x.table table) (Some 0) None)) (item_more table ws w)
    ∙ elim (is_same w.table table) as (λ b. option_or (next_place (cond b (Some (length ws)) (place_of table ws))) (cond (is_same x.table table) (Some 0) None) ≡ cond b (Some (suc (length ws))) (place_of table (x ∷ ws))) [ true ↦ refl | false ↦ refl ]

pub items_step : (m n : BTreeMap (List ℕ) ℕ) (ws : List Watched) (i place : ℕ) (w : Watched) → i < length ws → w ≡ get_or ws i w → place ≡ i
    → ItemPlaces (take i ws) m
    → ((q : List ℕ) → get (slice_cmp nat_cmp) n q ≡ cond (is_at (slice_cmp nat_cmp w.table) q) (Some place) (get (slice_cmp nat_cmp) m q))
    → ItemPlaces (take (i + 1) ws) n
items_step m n ws i place w lt e at h u q =
    let len : place ≡ length (take i ws) = at ∙ sym (length-take-le i ws (omega (arith, lt))) in
    u q
    ∙ ap (λ p. cond (is_at (slice_cmp nat_cmp w.table) q) (Some p) (get (slice_cmp nat_cmp) m q)) len
    ∙ ap (cond (is_at (slice_cmp nat_cmp w.table) q) (Some (length (take i ws)))) (h q)
    ∙ sym (item_more q (take i ws) w)
    ∙ ap (place_of q) (sym (take_next ws i w lt e))
