-- The row that may be read next: it is one that may, and there is one where some may.
use Rattle.std.proofs.Common.{◌≡◌, ◌⊎◌, ℕ, zero, suc, ◌+◌, ◌-◌, ◌%◌, ◌<◌, ◌≤◌, min, Bool, true, false, cond, ◌&&◌, List, [], ◌∷◌, length, map, filter, get_or, Option, Some, None, IfSome, IfNone, ⊎_elim, inl, inr, sym, refl, ap, ◌∙◌, not, ◌↔◌, subst, arith, true≢false, Contains, eqb}
use Rattle.std.proofs.lemmas.Bool.{cases_lt, cases_Bool, and_parts, and_from, eq-eqb}
use Rattle.std.proofs.lemmas.Nat.{mod_below}
use Rattle.cs_types.specs.Members.{in_nil, in_head, in_tail, in_cons, in_filter, from_filter, from_map}
use Rattle.cs_schedule.specs.declared.row.Row.{Row}
use Rattle.cs_schedule.specs.Board.{IsOrdered, row_of, is_ended, has_ended, have_ended, may_read, least_behind, fewest_tries, is_chosen, places, element, turn, ready_with, ready_place}
use Rattle.cs_schedule.specs.Consistent.{HasEnded, IsReady}
use Rattle.cs_schedule.proofs.Folding.{row_in, in_row}
use Rattle.cs_schedule.proofs.Places.{same_at}
use Rattle.cs_schedule.proofs.Tools.{not_true}
use Rattle.cs_schedule.proofs.Updating.{token_of}

-- ---- places

in_places : (test : Row → Bool) (n : ℕ) (rows : List Row) (k : ℕ) → Contains (places test n rows) k → (n ≤ k) × (k - n < length rows) × ((d : Row) → test (get_or rows (k - n) d) ≡ true)
in_places test n [] k i = absurd (in_nil k i)
in_places test n (r ∷ rows) k i = by (test r) refl i (in_places test (suc n) rows k)
  where
    later : (suc n ≤ k) × (k - suc n < length rows) × ((d : Row) → test (get_or rows (k - suc n) d) ≡ true) → (n ≤ k) × (k - n < suc (length rows)) × ((d : Row) → test (get_or (r ∷ rows) (k - n) d) ≡ true)
    later u =
        let one : k - n ≡ suc (k - suc n) = omega (arith, u.0) in
        (omega (arith, u.0), omega (arith, one, u.1), λ d. ap (λ j. test (get_or (r ∷ rows) j d)) one ∙ u.2 d)

    by : (b : Bool) → test r ≡ b → Contains (cond b (n ∷ places test (suc n) rows) (places test (suc n) rows)) k → (Contains (places test (suc n) rows) k → (suc n ≤ k) × (k - suc n < length rows) × ((d : Row) → test (get_or rows (k - suc n) d) ≡ true)) → (n ≤ k) × (k - n < suc (length rows)) × ((d : Row) → test (get_or (r ∷ rows) (k - n) d) ≡ true)
    by true q j f =
        ⊎_elim
        (λ (e : k ≡ n). let none : k - n ≡ 0 = omega (arith, e) in (omega (arith, e), omega (arith, none), λ d. ap (λ j. test (get_or (r ∷ rows) j d)) none ∙ q))
        (λ (l : Contains (places test (suc n) rows) k). later (f l))
        (in_cons n k (places test (suc n) rows) j)
    by false q j f = later (f j)

place_in : (test : Row → Bool) (n : ℕ) (rows : List Row) (i : ℕ) (d : Row) → i < length rows → test (get_or rows i d) ≡ true → Contains (places test n rows) (n + i)
place_in test n [] i d l h = absurd (omega (arith, l))
place_in test n (r ∷ rows) zero d l h =
    let same : n + 0 ≡ n = omega arith in
    subst (λ z. Contains z (n + 0)) (sym (ap (λ b. cond b (n ∷ places test (suc n) rows) (places test (suc n) rows)) h))
    (subst (λ k. Contains (n ∷ places test (suc n) rows) k) (sym same) (in_head n (places test (suc n) rows)))
place_in test n (r ∷ rows) (suc i) d l h = by (test r) (subst (λ k. Contains (places test (suc n) rows) k) same (place_in test (suc n) rows i d (omega (arith, l)) h))
  where
    same : suc n + i ≡ n + suc i
    same = omega arith

    by : (b : Bool) → Contains (places test (suc n) rows) (n + suc i) → Contains (cond b (n ∷ places test (suc n) rows) (places test (suc n) rows)) (n + suc i)
    by true j = in_tail n (n + suc i) (places test (suc n) rows) j
    by false j = j

element_in : (xs : List ℕ) (k x : ℕ) → element xs k ≡ Some x → Contains xs x
element_in [] k x h = absurd cc
element_in (y ∷ xs) k x h = by (eqb k 0) h (element_in xs (k - 1) x)
  where
    by : (b : Bool) → cond b (Some y) (element xs (k - 1)) ≡ Some x → (element xs (k - 1) ≡ Some x → Contains xs x) → Contains (y ∷ xs) x
    by true g f = let same : x ≡ y = cc in subst (λ z. Contains (y ∷ xs) z) (sym same) (in_head y xs)
    by false g f = in_tail y x xs (f g)

element_some : (xs : List ℕ) (k : ℕ) → k < length xs → element xs k ≡ None → ⊥
element_some [] k l h = omega (arith, l)
element_some (y ∷ xs) k l h = by (eqb k 0) refl h (λ m. element_some xs (k - 1) m)
  where
    by : (b : Bool) → eqb k 0 ≡ b → cond b (Some y) (element xs (k - 1)) ≡ None → (k - 1 < length xs → element xs (k - 1) ≡ None → ⊥) → ⊥
    by true q g f = absurd cc
    by false q g f =
        f (⊎_elim
        (λ (z : k < 1). let zero_k : k ≡ 0 = omega (arith, z) in absurd (true≢false (sym (eq-eqb k 0 zero_k) ∙ q)))
        (λ (z : 1 ≤ k). omega (arith, l, z))
        (cases_lt k 1)) g

turn_in : (xs : List ℕ) (order x : ℕ) → turn xs order ≡ Some x → Contains xs x
turn_in [] order x h = absurd cc
turn_in (y ∷ xs) order x h = element_in (y ∷ xs) (order % length (y ∷ xs)) x h

turn_some : (xs : List ℕ) (order : ℕ) → turn xs order ≡ None → xs ≡ []
turn_some [] order h = refl
turn_some (y ∷ xs) order h = absurd (element_some (y ∷ xs) (order % length (y ∷ xs)) (mod_below order (length (y ∷ xs)) (omega arith)) h)

-- ---- the fewest tries

no_some : (n : ℕ) → Some n ≡ None → ⊥
no_some n h = cc

no_none : (n : ℕ) → None ≡ Some n → ⊥
no_none n h = cc

some_least : (best : Option ℕ) (ns : List ℕ) → least_behind best ns ≡ None → (best ≡ None) × (ns ≡ [])
some_least best [] h = (h, refl)
some_least None (n ∷ ns) h = absurd (no_some n (some_least (Some n) ns h).0)
some_least (Some m) (n ∷ ns) h = absurd (no_some (min m n) (some_least (Some (min m n)) ns h).0)

least_is : (best : Option ℕ) (ns : List ℕ) (n : ℕ) → least_behind best ns ≡ Some n → (best ≡ Some n) ⊎ Contains ns n
least_is best [] n h = inl h
least_is None (m ∷ ns) n h =
    ⊎_elim
    (λ (e : Some m ≡ Some n). let same : n ≡ m = cc in inr (subst (λ z. Contains (m ∷ ns) z) (sym same) (in_head m ns)))
    (λ (j : Contains ns n). inr (in_tail m n ns j))
    (least_is (Some m) ns n h)
least_is (Some b) (m ∷ ns) n h =
    ⊎_elim
    (λ (e : Some (min b m) ≡ Some n).
    let same : min b m ≡ n = cc in
    ⊎_elim
    (λ (l : b < m). let is : b ≡ n = omega (arith, l, same) in inl (ap Some is))
    (λ (l : m ≤ b). let is : n ≡ m = omega (arith, l, same) in inr (subst (λ z. Contains (m ∷ ns) z) (sym is) (in_head m ns)))
    (cases_lt b m))
    (λ (j : Contains ns n). inr (in_tail m n ns j))
    (least_is (Some (min b m)) ns n h)

-- ---- the row

chosen_reads : (rows : List Row) (n : ℕ) (r : Row) → is_chosen rows n r ≡ true → may_read rows r ≡ true
chosen_reads rows n r h = (and_parts (may_read rows r) (eqb r.tries n) h).0

with_at : (rows : List Row) (o : Option ℕ) (order i : ℕ) → ready_with rows o order ≡ Some i → (i < length rows) × ((d : Row) → may_read rows (get_or rows i d) ≡ true)
with_at rows None order i h = absurd cc
with_at rows (Some n) order i h =
    let u = in_places (is_chosen rows n) 0 rows i (turn_in (places (is_chosen rows n) 0 rows) order i h) in
    let same : i - 0 ≡ i = omega arith in
    (omega (arith, u.1, same), λ d. chosen_reads rows n (get_or rows i d) (subst (λ k. is_chosen rows n (get_or rows k d) ≡ true) same (u.2 d)))

pub ready_at : (rows : List Row) (order : ℕ) (o : Option ℕ) → o ≡ ready_place rows order → IfSome o (λ i. (i < length rows) × ((d : Row) → may_read rows (get_or rows i d) ≡ true))
ready_at rows order None h = tt
ready_at rows order (Some i) h = with_at rows (fewest_tries rows rows) order i (sym h)

not_among : (rows : List Row) (p : Row → Bool) (i : ℕ) (d : Row) → i < length rows → filter p rows ≡ [] → p (get_or rows i d) ≡ false
not_among rows p i d l h = ⊎_elim
    (λ (q : p (get_or rows i d) ≡ true). absurd (in_nil (get_or rows i d) (subst (λ z. Contains z (get_or rows i d)) h (in_filter p (get_or rows i d) rows (i, l, same_at rows i (get_or rows i d) d l) q))))
    (λ (q : p (get_or rows i d) ≡ false). q)
    (cases_Bool (p (get_or rows i d)))

map_none : (f : Row → ℕ) (xs : List Row) → map f xs ≡ [] → xs ≡ []
map_none f [] h = refl
map_none f (x ∷ xs) h = absurd (grind (arith, h))

with_none : (rows : List Row) (o : Option ℕ) (order : ℕ) → fewest_tries rows rows ≡ o → ready_with rows o order ≡ None → (i : ℕ) (d : Row) → i < length rows → may_read rows (get_or rows i d) ≡ false
with_none rows None order e h i d l =
    not_among rows (may_read rows) i d l (map_none (λ (r : Row). r.tries) (filter (may_read rows) rows) (some_least None (map (λ (r : Row). r.tries) (filter (may_read rows) rows)) e).1)
with_none rows (Some n) order e h i d l =
    let none = turn_some (places (is_chosen rows n) 0 rows) order h in
    ⊎_elim
    (λ (q : None ≡ Some n). absurd (no_none n q))
    (λ (j : Contains (map (λ (r : Row). r.tries) (filter (may_read rows) rows)) n).
    let u = from_map (λ (r : Row). r.tries) n (filter (may_read rows) rows) j in
    let v = from_filter (may_read rows) u.0 rows u.1 in
    let chosen : is_chosen rows n (get_or rows v.0.0 u.0) ≡ true = subst (λ (z : Row). is_chosen rows n z ≡ true) (sym v.0.2) (and_from (may_read rows u.0) (eqb u.0.tries n) v.1 (eq-eqb u.0.tries n (sym u.2))) in
    absurd (in_nil (0 + v.0.0) (subst (λ z. Contains z (0 + v.0.0)) none (place_in (is_chosen rows n) 0 rows v.0.0 u.0 v.0.1 chosen))))
    (least_is None (map (λ (r : Row). r.tries) (filter (may_read rows) rows)) n e)

pub ready_none : (rows : List Row) (order : ℕ) (o : Option ℕ) → o ≡ ready_place rows order → IfNone o ((i : ℕ) (d : Row) → i < length rows → may_read rows (get_or rows i d) ≡ false)
ready_none rows order None h = with_none rows (fewest_tries rows rows) order refl (sym h)
ready_none rows order (Some i) h = tt

-- ---- what may be read is ready

ended : (rows : List Row) (t : List ℕ) → has_ended rows t ≡ true → HasEnded rows t
ended rows t h = by (row_of rows t) refl h
  where
    by : (o : Option Row) → row_of rows t ≡ o → is_ended o ≡ true → HasEnded rows t
    by None q k = absurd (true≢false (sym k))
    by (Some r) q k = (r, row_in rows t r q, token_of rows t r q, k)

all_ended : (rows : List Row) (ts : List (List ℕ)) → have_ended rows ts ≡ true → (t : List ℕ) → Contains ts t → HasEnded rows t
all_ended rows [] h t i = absurd (in_nil t i)
all_ended rows (u ∷ ts) h t i =
    let p = and_parts (has_ended rows u) (have_ended rows ts) h in
    ⊎_elim (λ (e : t ≡ u). subst (HasEnded rows) (sym e) (ended rows u p.0)) (λ (j : Contains ts t). all_ended rows ts p.1 t j) (in_cons u t ts i)

have_all : (rows : List Row) (ts : List (List ℕ)) → IsOrdered rows → ((t : List ℕ) → Contains ts t → HasEnded rows t) → have_ended rows ts ≡ true
have_all rows [] O h = refl
have_all rows (u ∷ ts) O h =
    let e = h u (in_head u ts) in
    and_from (has_ended rows u) (have_ended rows ts) (ap is_ended (in_row rows u e.0 O e.1 e.2) ∙ e.3) (have_all rows ts O (λ t i. h t (in_tail u t ts i)))

pub reads_ready : (rows : List Row) (r : Row) → IsOrdered rows → Contains rows r → (may_read rows r ≡ true) ↔ (IsReady rows r × (r.leased ≡ false))
reads_ready rows r O i = (
  λ h.
      let p = and_parts (not r.finished && not r.leased) (have_ended rows r.parents) h in
      let q = and_parts (not r.finished) (not r.leased) p.0 in
      (record { there = i; unfinished = not_true r.finished q.0; parents = all_ended rows r.parents p.1 }, not_true r.leased q.1),
  λ h. and_from (not r.finished && not r.leased) (have_ended rows r.parents) (and_from (not r.finished) (not r.leased) (ap not h.0.unfinished) (ap not h.1)) (have_all rows r.parents O h.0.parents),
)
