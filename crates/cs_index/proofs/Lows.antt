-- Parts in order of low that tie in none: what stands before one is what the parts of lower lows have.
use Rattle.std.proofs.Common.{◌≡◌, ℕ, ◌<◌, ◌≤◌, Bool, true, false, cond, nat_lt, List, [], ◌∷◌, ◌++◌, length, get_or, filter, sum_by, refl, sym, ap, ◌∙◌, arith, All, AllPairs, nat_cmp, Ordering, is_lt, true≢false}
use Rattle.std.specs.declared.cmp.Ordering.TheVariants.{Less, Equal, Greater}
use Rattle.std.specs.Ordering.{is_eq, ordering_reverse}
use Rattle.std.specs.Cmp.{IsTotalOrder}
use Rattle.std.specs.Cmp.Lexicographic.{slice_cmp, nat_list_cmp_total}
use Rattle.std.specs.List.{IsDistinct}
use Rattle.std.specs.List.Sorted.{IsPermutation}
use Rattle.std.proofs.lemmas.Bool.{ltb-false}
use Rattle.std.proofs.lemmas.Cmp.{on_total, eq_by_cmp_equiv}
use Rattle.std.proofs.lemmas.List.Elements.{All-head, All-tail, filter_passes}
use Rattle.std.proofs.lemmas.List.Kept.{AllPairs-filter}
use Rattle.std.proofs.lemmas.List.Sorted.{sum_by-IsPermutation}
use Rattle.std.proofs.lemmas.List.Sums.{sum_by-cons, sum_by-append}
use Rattle.std.proofs.lemmas.Map.Keys.{IsDistinct-from_apart, IsDistinct-IsPermutation, apart_from_distinct}
use Rattle.cs_place.specs.declared.part.Part.{Part}
use Rattle.cs_place.specs.Part.{is_below}
use Rattle.cs_index.proofs.Filters.{sum_kept, sum_filter, sum_same}

abbrev low_cmp : Part → Part → Ordering
low_cmp a b = slice_cmp nat_cmp a.range.low.bytes b.range.low.bytes

abbrev pub ties : Part → Part → Bool
ties a b = is_eq (low_cmp a b)

low_total : IsTotalOrder low_cmp
low_total = on_total (λ (p : Part). p.range.low.bytes) nat_list_cmp_total

flips : (a b : Part) → ties a b ≡ ties b a
flips a b = (eq_by_cmp_equiv low_total).symm a b

-- what does not tie and is not above is below
below_from : (a b : Part) → ties a b ≡ false → is_below b.range.low a.range.low ≡ false → is_below a.range.low b.range.low ≡ true
below_from a b t f = by (low_cmp a b) (low_cmp b a) (low_total.antisymm b a) t f
  where
    by : (o p : Ordering) → p ≡ ordering_reverse o → is_eq o ≡ false → is_lt p ≡ false → is_lt o ≡ true
    by Less p e t f = refl
    by Equal p e t f = cc
    by Greater p e t f = absurd (true≢false (sym (ap is_lt e) ∙ f))

sum_none : (f : Part → ℕ) (xs : List Part) → All (λ x. f x ≡ 0) xs → sum_by f xs ≡ 0
sum_none f [] h = refl
sum_none f (x ∷ xs) h = sum_by-cons f x xs ∙ (let a = All-head (λ y. f y ≡ 0) x xs h in let b = sum_none f xs (All-tail (λ y. f y ≡ 0) x xs h) in omega (arith, a, b))

module _ (R : Part → ℕ) where
  abbrev has : Part → Bool
  has q = nat_lt 0 (R q)

  -- of the parts that have one, no two tie
  abbrev pub DoNotTie : List Part → Type 0
  DoNotTie parts = AllPairs (λ a b. has a ≡ true → has b ≡ true → ties a b ≡ false) parts

  none_of : (q : Part) → has q ≡ false → R q ≡ 0
  none_of q e = let l = ltb-false 0 (R q) e in omega (arith, l)

  pub all_of : (parts order : List Part) → IsPermutation (filter has parts) order → sum_by R parts ≡ sum_by R order
  all_of parts order same = sum_kept has R none_of parts ∙ sym (sum_by-IsPermutation R (filter has parts) order same)

  -- the parts of an order that begins with these
  pub record IsBetween (parts front : List Part) (part : Part) (back : List Part) : Type 0 where
    pub same : IsPermutation (filter has parts) (front ++ part ∷ back)
    pub below : All (λ q. is_below q.range.low part.range.low ≡ true) front
    pub above : All (λ q. is_below q.range.low part.range.low ≡ false) (part ∷ back)

  pub first_is : (parts front : List Part) (part : Part) (back : List Part) → IsBetween parts front part back → sum_by R (filter (λ q. is_below q.range.low part.range.low) parts) ≡ sum_by R front
  first_is parts front part back h =
      let g : Part → ℕ = λ q. cond (is_below q.range.low part.range.low) (R q) 0 in
      sum_filter (λ q. is_below q.range.low part.range.low) R parts
      ∙ sum_kept has g (λ q e. by (is_below q.range.low part.range.low) (R q) (none_of q e)) parts
      ∙ sym (sum_by-IsPermutation g (filter has parts) (front ++ part ∷ back) h.same)
      ∙ sum_by-append g front (part ∷ back)
      ∙ (let a = sum_same g R front (λ k d l. ap (λ b. cond b (R (get_or front k d)) 0) (h.below k d l)) in
      let b = sum_none g (part ∷ back) (λ k d l. ap (λ b. cond b (R (get_or (part ∷ back) k d)) 0) (h.above k d l)) in
      omega (arith, a, b))
    where
      by : (b : Bool) (n : ℕ) → n ≡ 0 → cond b n 0 ≡ 0
      by true n e = e
      by false n e = refl

  -- in order of low each part is below those behind it
  module _ (parts order : List Part) (apart : DoNotTie parts) (same : IsPermutation (filter has parts) order) where
    distinct : IsDistinct ties order
    distinct = IsDistinct-IsPermutation ties flips (filter has parts) order same
        (IsDistinct-from_apart ties (filter has parts) (λ i j d l m.
        AllPairs-filter (λ a b. has a ≡ true → has b ≡ true → ties a b ≡ false) has parts apart i j d l m (filter_passes has parts i d (omega arith)) (filter_passes has parts j d m)))

    pub rises : ((i j : ℕ) (d : Part) → i ≤ j → j < length order → is_below (get_or order j d).range.low (get_or order i d).range.low ≡ false) → (i j : ℕ) (d : Part) → i < j → j < length order → is_below (get_or order i d).range.low (get_or order j d).range.low ≡ true
    rises sorted i j d l m = below_from (get_or order i d) (get_or order j d) (apart_from_distinct ties order i j d distinct l m) (sorted i j d (omega arith) m)
