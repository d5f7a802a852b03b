-- The parts of a sound layout that are live at one moment have different lows, so that sorted by low they rise.
use Rattle.std.proofs.Common.{◌≡◌, ◌≢◌, ℕ, suc, ◌≤◌, Bool, true, false, List, [], ◌∷◌, filter, get_or, ⊎_elim, sym, refl, ap, ◌∙◌, subst, true≢false, Contains, arith}
use Rattle.std.specs.Ordering.{nat_cmp, is_lt}
use Rattle.std.specs.Cmp.{eq_by_cmp_equiv}
use Rattle.std.specs.Cmp.Lexicographic.{slice_cmp, nat_list_cmp_total}
use Rattle.std.specs.List.{AllPairs, AllByRecursion, IsDistinct}
use Rattle.std.specs.List.Sorted.{IsPermutation, IsSortedByKey}
use Rattle.std.proofs.lemmas.List.Kept.{AllPairs-filter}
use Rattle.std.proofs.lemmas.List.Sorted.{ranks_by, sorted_far, IsPermutation-sym, Contains-permutation, length_permutation}
use Rattle.std.proofs.lemmas.Map.Keys.{IsDistinct-IsPermutation, apart_from_distinct}
use Rattle.cs_types.specs.Names.{is_same}
use Rattle.cs_types.specs.Members.{in_head, in_tail, in_filter, from_filter, filter_shorter}
use Rattle.cs_place.specs.declared.place.Place.{Place}
use Rattle.cs_place.specs.declared.part.Part.{Part}
use Rattle.cs_place.specs.Held.{live_is}
use Rattle.cs_place.specs.Part.{is_below, IsLive, Holds, is_live}
use Rattle.cs_place.specs.Layout.{IsSoundLayout}
use Rattle.cs_partitions.specs.Layout.{IsLower}
use Rattle.cs_partitions.specs.Views.{AreLiveByLow}
use Rattle.cs_partitions.proofs.Order.{same_place, same_or_above, below_not_itself}
use Rattle.cs_partitions.proofs.Pairs.{pairs_more}
use Rattle.cs_partitions.proofs.Naming.{same_is, same_itself}

-- a list whose elements differ by a test, pair by pair

all_of : {A : Type 0} (P : A → Type 0) (xs : List A) → ((y : A) → Contains xs y → P y) → AllByRecursion P xs
all_of P [] f = tt
all_of P (x ∷ xs) f = (f x (in_head x xs), all_of P xs (λ y i. f y (in_tail x y xs i)))

distinct_of : {A : Type 0} (e : A → A → Bool) (xs : List A) → AllPairs (λ a b. e a b ≡ false) xs → IsDistinct e xs
unfolding IsDistinct
distinct_of e [] h = tt
distinct_of e (x ∷ xs) h =
    (all_of (λ y. e x y ≡ false) xs (λ y i. subst (λ z. e x z ≡ false) i.2 (h 0 (suc i.0) y (omega arith) (omega (arith, i.1)))), distinct_of e xs (λ i j d l m. h (suc i) (suc j) d (omega (arith, l)) (omega (arith, m))))

same_low : Part → Part → Bool
same_low a b = is_same a.range.low.bytes b.range.low.bytes

same_low_flips : (a b : Part) → same_low a b ≡ same_low b a
unfolding same_low
same_low_flips a b = (eq_by_cmp_equiv nat_list_cmp_total).symm a.range.low.bytes b.range.low.bytes

module _ (created : ℕ) (parts : List Part) (h : IsSoundLayout created parts) (moment : ℕ) where
  abbrev live : Part → Bool
  live p = is_live p moment

  -- two live parts with one low both have that place
  one_of_a_low : (p q : Part) → Contains parts p → Contains parts q → IsLive p moment → IsLive q moment → p.range.low ≡ q.range.low → p ≡ q
  one_of_a_low p q i j a b e =
      let late : created ≤ moment = omega (arith, h.begins p i, a.born) in
      let holds_p : Holds p p.range.low moment = record { inside = (below_not_itself p.range.low, h.ranges p i); live = a } in
      let holds_q : Holds q q.range.low moment = record { inside = (below_not_itself q.range.low, h.ranges q j); live = b } in
      let one = h.held p.range.low moment late in
      one.3 p i holds_p ∙ sym (one.3 q j (subst (λ x. Holds q x moment) (sym e) holds_q))

  lows_differ : AllPairs (λ a b. same_low a b ≡ false) (filter live parts)
  unfolding same_low
  lows_differ = pairs_more (λ (a b : Part). a.token ≢ b.token) (λ (a b : Part). same_low a b ≡ false) (filter live parts) differ (AllPairs-filter (λ (a b : Part). a.token ≢ b.token) live parts h.tokens)
    where
      differ : (x y : Part) → Contains (filter live parts) x → Contains (filter live parts) y → x.token ≢ y.token → same_low x y ≡ false
      differ x y i j tokens = by (same_low x y) refl
        where
          by : (b : Bool) → same_low x y ≡ b → b ≡ false
          by false e = refl
          by true e =
              let k = from_filter live x parts i in
              let m = from_filter live y parts j in
              let low : x.range.low ≡ y.range.low = same_place x.range.low y.range.low (same_is x.range.low.bytes y.range.low.bytes e) in
              absurd (tokens (ap (λ (z : Part). z.token) (one_of_a_low x y k.0 m.0 ((live_is x moment).0 k.1) ((live_is y moment).0 m.1) low)))

  pub live_are : (sorted : List Part) → IsPermutation (filter live parts) sorted → IsSortedByKey (λ (p : Part). p.range.low.bytes) (slice_cmp nat_cmp) sorted → AreLiveByLow parts moment sorted
  unfolding same_low
  live_are sorted moved order = record {
    all = λ p i l. Contains-permutation (filter live parts) sorted p moved (in_filter live p parts i ((live_is p moment).1 l));
    only = λ p i. let r = from_filter live p parts (Contains-permutation sorted (filter live parts) p (IsPermutation-sym (filter live parts) sorted moved) i) in (r.0, (live_is p moment).0 r.1);
    rising = rising;
    few = omega (arith, length_permutation (filter live parts) sorted moved, filter_shorter live parts);
  }
    where
      distinct : IsDistinct same_low sorted
      distinct = IsDistinct-IsPermutation same_low same_low_flips (filter live parts) sorted moved (distinct_of same_low (filter live parts) lows_differ)

      rising : AllPairs IsLower sorted
      rising i j d l m =
          let a : Part = get_or sorted i d in
          let b : Part = get_or sorted j d in
          let not_above : is_below b.range.low a.range.low ≡ false = sorted_far (λ (x y : Part). is_lt (slice_cmp nat_cmp x.range.low.bytes y.range.low.bytes)) (ranks_by nat_list_cmp_total (λ (x : Part). x.range.low.bytes)) sorted order i j d (omega (arith, l)) m in
          let apart : same_low a b ≡ false = apart_from_distinct same_low sorted i j d distinct l m in
          ⊎_elim
          (λ (e : b.range.low ≡ a.range.low). absurd (true≢false (sym (same_itself a.range.low.bytes) ∙ ap (λ (z : Place). is_same a.range.low.bytes z.bytes) (sym e) ∙ apart)))
          (λ (k : is_below a.range.low b.range.low ≡ true). k)
          (same_or_above b.range.low a.range.low not_above)
