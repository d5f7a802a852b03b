-- One change more in the index.
use Rattle.std.proofs.Common.{◌≡◌, ◌≢◌, ◌⊎◌, ◌<◌, ◌≤◌, ◌+◌, ℕ, Bool, true, false, cond, List, [], ◌∷◌, ◌++◌, length, All, Contains, get_or, Option, None, Some, refl, sym, ap, subst, ◌∙◌, arith, inl, inr, true≢false}
use Rattle.std.specs.declared.cmp.Ordering.{Ordering}
use Rattle.std.specs.declared.cmp.Ordering.TheVariants.{Less, Equal, Greater}
use Rattle.std.specs.Ordering.{nat_cmp, ordering_then, is_eq}
use Rattle.std.specs.Cmp.{Equal-is, eq_by_cmp_equiv}
use Rattle.std.specs.Cmp.Lexicographic.{slice_cmp, nat_list_cmp_total}
use Rattle.std.specs.BTreeMap.{BTreeMap, get, is_at}
use Rattle.std.specs.List.Sorted.{IsPermutation}
use Rattle.std.proofs.lemmas.Bool.{cases_lt}
use Rattle.std.proofs.lemmas.Map.Lookups.{exact_bytes}
use Rattle.std.proofs.lemmas.List.{get_or_append_left, get_or_default, get_or_push, length-append}
use Rattle.std.proofs.lemmas.List.Elements.{All-push, All-weaker, Contains-append_left, Contains-push}
use Rattle.std.proofs.lemmas.List.Sorted.{All-permutation, Contains-permutation}
use Rattle.cs_types.specs.Row.{row_cmp}
use Rattle.cs_types.specs.declared.change.Change.{Change}
use Rattle.cs_types.specs.declared.change.RowName.{RowName}
use Rattle.cs_types.specs.Exact.{same_row-is}
use Rattle.cs_output.specs.Line.{change_line}
use Rattle.cs_audit.specs.declared.conditions.Name.{Name}
use Rattle.cs_audit.specs.Index.{DifferBy, DifferInLines, ArePlacesBy, name_cmp, IsLatest, ArePrevious, AreEntries}

-- a number below the next one is below this one, or is it
pub below_next : (p i : ℕ) → p < i + 1 → (p < i) ⊎ (p ≡ i)
below_next p i lt = by (cases_lt p i)
  where
    by : (p < i) ⊎ (i ≤ p) → (p < i) ⊎ (p ≡ i)
    by (inl less) = inl less
    by (inr more) = inr (omega arith)

module _ {K X : Type 0} (cmp : K → K → Ordering) (exact : (a b : K) → is_eq (cmp a b) ≡ true → a ≡ b) (same : (a : K) → is_eq (cmp a a) ≡ true) where
  -- what a map has after an insertion
  pub after_insert : (m n : BTreeMap K X) (k : K) (v : X) → ((q : K) → get cmp n q ≡ cond (is_at (cmp k) q) (Some v) (get cmp m q)) → (q : K)
      → ((k ≡ q) × (get cmp n q ≡ Some v)) ⊎ ((k ≢ q) × (get cmp n q ≡ get cmp m q))
  after_insert m n k v update q = by (is_at (cmp k) q) refl
    where
      by : (b : Bool) → is_at (cmp k) q ≡ b → ((k ≡ q) × (get cmp n q ≡ Some v)) ⊎ ((k ≢ q) × (get cmp n q ≡ get cmp m q))
      by true e = inl (exact k q e, update q ∙ ap (λ b. cond b (Some v) (get cmp m q)) e)
      by false e = inr ((λ is. true≢false (sym (subst (λ x. is_eq (cmp k x) ≡ true) is (same k)) ∙ e)), update q ∙ ap (λ b. cond b (Some v) (get cmp m q)) e)

pub exact_text : (a b : List ℕ) → is_eq (slice_cmp nat_cmp a b) ≡ true → a ≡ b
exact_text a b e = exact_bytes a b ((Equal-is (slice_cmp nat_cmp a b)).0 e)

pub same_text : (a : List ℕ) → is_eq (slice_cmp nat_cmp a a) ≡ true
same_text a = (eq_by_cmp_equiv nat_list_cmp_total).refl a

exact_row : (a b : RowName) → is_eq (row_cmp a b) ≡ true → a ≡ b
exact_row a b e = (same_row-is a b).0 e

same_row' : (a : RowName) → is_eq (row_cmp a a) ≡ true
same_row' a = (same_row-is a a).1 refl

-- the change at a place
pub at_place : (wanted : List Change) (i : ℕ) (c : Change) → i < length wanted → c ≡ get_or wanted i c → (d : Change) → get_or wanted i d ≡ c
at_place wanted i c within is d = get_or_default wanted i d c within ∙ sym is

-- the places of keys
module _ {K : Type 0} (cmp : K → K → Ordering) (exact : (a b : K) → is_eq (cmp a b) ≡ true → a ≡ b) (same : (a : K) → is_eq (cmp a a) ≡ true) (key : Change → K) where
  pub places_more : (m n : BTreeMap K ℕ) (wanted : List Change) (i : ℕ) (c : Change) (k : K) → ((p : ℕ) (d : Change) → p < i → key (get_or wanted p d) ≢ k) → i < length wanted → c ≡ get_or wanted i c → k ≡ key c
      → ((q : K) → get cmp n q ≡ cond (is_at (cmp k) q) (Some i) (get cmp m q)) → ArePlacesBy cmp key m wanted i → ArePlacesBy cmp key n wanted (i + 1)
  places_more m n wanted i c k new within is key_is update old = record {
    has = λ p d lt. has p d (below_next p i lt) (at (key (get_or wanted p d)));
    only = λ q p e. only q p e (at q);
  }
    where
      here : (d : Change) → k ≡ key (get_or wanted i d)
      here d = key_is ∙ sym (ap key (at_place wanted i c within is d))

      at : (q : K) → ((k ≡ q) × (get cmp n q ≡ Some i)) ⊎ ((k ≢ q) × (get cmp n q ≡ get cmp m q))
      at q = after_insert cmp exact same m n k i update q

      has : (p : ℕ) (d : Change) → (p < i) ⊎ (p ≡ i) → ((k ≡ key (get_or wanted p d)) × (get cmp n (key (get_or wanted p d)) ≡ Some i))
          ⊎ ((k ≢ key (get_or wanted p d)) × (get cmp n (key (get_or wanted p d)) ≡ get cmp m (key (get_or wanted p d)))) → get cmp n (key (get_or wanted p d)) ≡ Some p
      has p d (inl less) (inl found) = absurd (new p d less (sym found.0))
      has p d (inl less) (inr other) = other.1 ∙ old.has p d less
      has p d (inr now) (inl found) = found.1 ∙ ap Some (sym now)
      has p d (inr now) (inr other) = absurd (other.0 (here d ∙ ap (λ j. key (get_or wanted j d)) (sym now)))

      only : (q : K) (p : ℕ) → get cmp n q ≡ Some p → ((k ≡ q) × (get cmp n q ≡ Some i)) ⊎ ((k ≢ q) × (get cmp n q ≡ get cmp m q)) → (p < i + 1) × ((d : Change) → q ≡ key (get_or wanted p d))
      only q p e (inl found) =
          let some : Some i ≡ Some p = sym found.1 ∙ e in
          let now : i ≡ p = cc in
          (omega arith, λ d. sym found.0 ∙ here d ∙ ap (λ j. key (get_or wanted j d)) now)
      only q p e (inr other) = let before = old.only q p (sym other.1 ∙ e) in (omega (arith, before.0), before.1)

  -- a key that is not there is that of no change so far
  pub new_key : (m : BTreeMap K ℕ) (wanted : List Change) (i : ℕ) (k : K) → ArePlacesBy cmp key m wanted i → get cmp m k ≡ None → (p : ℕ) (d : Change) → p < i → key (get_or wanted p d) ≢ k
  new_key m wanted i k are gone p d less = λ e. let no : Some p ≡ None = sym (are.has p d less) ∙ ap (get cmp m) e ∙ gone in cc

  -- a key that is there stands twice
  pub key_twice : (m : BTreeMap K ℕ) (wanted : List Change) (i p : ℕ) (c : Change) (k : K) → ArePlacesBy cmp key m wanted i → get cmp m k ≡ Some p → i < length wanted → c ≡ get_or wanted i c → k ≡ key c
      → DifferBy key wanted → ⊥
  key_twice m wanted i p c k are there within is key_is differ =
      let found = are.only k p there in
      differ p i c found.0 within (sym (found.1 c) ∙ key_is ∙ ap key is)

  pub differ_more : (wanted : List Change) (n : ℕ) (c : Change) (k : K) → n < length wanted → c ≡ get_or wanted n c → k ≡ key c → ((p : ℕ) (d : Change) → p < n → key (get_or wanted p d) ≢ k)
      → ((i j : ℕ) (d : Change) → i < j → j < n → key (get_or wanted i d) ≢ key (get_or wanted j d)) → (i j : ℕ) (d : Change) → i < j → j < n + 1 → key (get_or wanted i d) ≢ key (get_or wanted j d)
  differ_more wanted n c k within is key_is new old i j d less lt = by (below_next j n lt)
    where
      by : (j < n) ⊎ (j ≡ n) → key (get_or wanted i d) ≢ key (get_or wanted j d)
      by (inl before) = old i j d less before
      by (inr now) = λ e. new i d (omega (arith, less, now)) (e ∙ ap (λ q. key (get_or wanted q d)) now ∙ ap key (at_place wanted n c within is d) ∙ sym key_is)

-- where the changes differ, each key is new
pub line_is_new : (wanted : List Change) (i : ℕ) (c : Change) (line : List ℕ) → DifferInLines wanted → i < length wanted → c ≡ get_or wanted i c → line ≡ change_line c → (p : ℕ) (d : Change) → p < i → change_line (get_or wanted p d) ≢ line
line_is_new wanted i c line differ within is line_is p d less = λ e. differ p i d less within (e ∙ line_is ∙ sym (ap change_line (at_place wanted i c within is d)))

pub exact_name : (a b : Name) → is_eq (name_cmp a b) ≡ true → a ≡ b
exact_name a b e =
    let both = both_equal (row_cmp a.row b.row) (slice_cmp nat_cmp a.tx b.tx) ((Equal-is (name_cmp a b)).0 e) in
    let rows : a.row ≡ b.row = exact_row a.row b.row (ap is_eq both.0) in
    let txs : a.tx ≡ b.tx = exact_text a.tx b.tx (ap is_eq both.1) in
    λ i. record { row = rows i; tx = txs i }
  where
    both_equal : (o p : Ordering) → ordering_then o p ≡ Equal → (o ≡ Equal) × (p ≡ Equal)
    both_equal Less p e = cc
    both_equal Equal p e = (refl, e)
    both_equal Greater p e = cc

pub same_name : (a : Name) → is_eq (name_cmp a a) ≡ true
same_name a = rw ((Equal-is (row_cmp a.row a.row)).0 (same_row' a.row)) (same_text a.tx)

-- the last places of rows
pub latest_more : (m n : BTreeMap RowName ℕ) (wanted : List Change) (i : ℕ) (c : Change) → i < length wanted → c ≡ get_or wanted i c
    → ((q : RowName) → get row_cmp n q ≡ cond (is_at (row_cmp c.row) q) (Some i) (get row_cmp m q)) → ((row : RowName) → IsLatest wanted i row (get row_cmp m row))
    → (row : RowName) → IsLatest wanted (i + 1) row (get row_cmp n row)
latest_more m n wanted i c within is update old row = by (after_insert row_cmp exact_row same_row' m n c.row i update row)
  where
    here : (d : Change) → (get_or wanted i d).row ≡ c.row
    here d = ap (λ (x : Change). x.row) (at_place wanted i c within is d)

    other : c.row ≢ row → (r : ℕ) (d : Change) → (r < i) ⊎ (r ≡ i) → (r < i → (get_or wanted r d).row ≢ row) → (get_or wanted r d).row ≢ row
    other ne r d (inl less) before = before less
    other ne r d (inr now) before = λ e. ne (sym (here d) ∙ ap (λ k. (get_or wanted k d).row) (sym now) ∙ e)

    older : c.row ≢ row → (o : Option ℕ) → IsLatest wanted i row o → IsLatest wanted (i + 1) row o
    older ne None h = λ q d lt. other ne q d (below_next q i lt) (λ less. h q d less)
    older ne (Some q) h = (omega (arith, h.0), h.1, λ r d low high. other ne r d (below_next r i high) (λ less. h.2 r d low less))

    by : ((c.row ≡ row) × (get row_cmp n row ≡ Some i)) ⊎ ((c.row ≢ row) × (get row_cmp n row ≡ get row_cmp m row)) → IsLatest wanted (i + 1) row (get row_cmp n row)
    by (inl found) = subst (IsLatest wanted (i + 1) row) (sym found.1) (omega arith, (λ d. here d ∙ found.0), λ r d low high. absurd (omega (arith, low, high)))
    by (inr apart) = subst (IsLatest wanted (i + 1) row) (sym apart.1) (older apart.0 (get row_cmp m row) (old row))

pub previous_more : (old new : List (Option ℕ)) (wanted : List Change) (i : ℕ) (c : Change) (o : Option ℕ) → i < length wanted → c ≡ get_or wanted i c → IsLatest wanted i c.row o
    → new ≡ old ++ o ∷ [] → ArePrevious old wanted i → ArePrevious new wanted (i + 1)
previous_more old new wanted i c o within is latest pushed before = record {
  count = omega (arith, ap length pushed, length-append {A = Option ℕ} old (o ∷ []), before.count);
  each = λ p d lt. subst (λ (l : List (Option ℕ)). IsLatest wanted p (get_or wanted p d).row (get_or l p None)) (sym pushed) (by p d (below_next p i lt));
}
  where
    by : (p : ℕ) (d : Change) → (p < i) ⊎ (p ≡ i) → IsLatest wanted p (get_or wanted p d).row (get_or (old ++ o ∷ []) p None)
    by p d (inl less) = subst (IsLatest wanted p (get_or wanted p d).row) (sym (get_or_append_left old (o ∷ []) None p (omega (arith, less, before.count)))) (before.each p d less)
    by p d (inr now) =
        subst (λ k. IsLatest wanted k (get_or wanted k d).row (get_or (old ++ o ∷ []) k None)) (sym now)
        (subst (λ (x : Option ℕ). IsLatest wanted i (get_or wanted i d).row x) (sym (get_or_push old o None i before.count))
        (subst (λ (r : RowName). IsLatest wanted i r o) (sym (ap (λ (x : Change). x.row) (at_place wanted i c within is d))) latest))

-- the stamps and places
pub entries_more : (old new : List (ℕ × ℕ)) (wanted : List Change) (i : ℕ) (c : Change) → i < length wanted → c ≡ get_or wanted i c
    → new ≡ old ++ (c.stamp, i) ∷ [] → AreEntries old wanted i → AreEntries new wanted (i + 1)
entries_more old new wanted i c within is pushed before = record {
  within = subst (All (λ (e : ℕ × ℕ). e.1 < i + 1)) (sym pushed) (All-push (λ (e : ℕ × ℕ). e.1 < i + 1) old (c.stamp, i) (All-weaker (λ (e : ℕ × ℕ). e.1 < i) (λ (e : ℕ × ℕ). e.1 < i + 1) (λ e lt. omega (arith, lt)) old before.within) (omega arith));
  all = λ p d lt. subst (λ (l : List (ℕ × ℕ)). Contains l ((get_or wanted p d).stamp, p)) (sym pushed) (by p d (below_next p i lt));
}
  where
    by : (p : ℕ) (d : Change) → (p < i) ⊎ (p ≡ i) → Contains (old ++ (c.stamp, i) ∷ []) ((get_or wanted p d).stamp, p)
    by p d (inl less) = Contains-append_left old ((c.stamp, i) ∷ []) ((get_or wanted p d).stamp, p) (before.all p d less)
    by p d (inr now) =
        subst (λ k. Contains (old ++ (c.stamp, i) ∷ []) ((get_or wanted k d).stamp, k)) (sym now)
        (subst (λ s. Contains (old ++ (c.stamp, i) ∷ []) (s, i)) (sym (ap (λ (x : Change). x.stamp) (at_place wanted i c within is d))) (Contains-push old (c.stamp, i)))

pub entries_sorted : (old new : List (ℕ × ℕ)) (wanted : List Change) (n : ℕ) → IsPermutation old new → AreEntries old wanted n → AreEntries new wanted n
entries_sorted old new wanted n moved before = record {
  within = All-permutation (λ (e : ℕ × ℕ). e.1 < n) old new moved before.within;
  all = λ p d lt. Contains-permutation old new ((get_or wanted p d).stamp, p) moved (before.all p d lt);
}
