-- Parts put in order of low: those that stand so already stay, and those of which each pair has an order come to stand so.
use Rattle.std.proofs.Common.{◌≡◌, ◌≢◌, ◌⊎◌, ℕ, suc, ◌≤◌, Bool, true, false, cond, List, [], ◌∷◌, length, filter, ⊎_elim, inl, inr, refl, sym, ap, ◌∙◌, subst, Contains, AllPairs, true≢false, arith}
use Rattle.std.specs.declared.cmp.Ordering.{Ordering}
use Rattle.std.specs.declared.cmp.Ordering.TheVariants.{Less, Equal, Greater}
use Rattle.std.specs.Ordering.{is_lt}
use Rattle.std.specs.Cmp.Lexicographic.{nat_list_cmp_total}
use Rattle.cs_types.specs.Members.{Pairwise, in_nil, in_head, in_tail, in_cons, in_filter, from_filter, filter_shorter, pairs_to, pairs_from, pairs_two, pairs_filter, pairs_weaker}
use Rattle.cs_place.specs.declared.place.Place.{Place}
use Rattle.cs_place.specs.declared.part.Part.{Part}
use Rattle.cs_place.specs.Held.{live_is}
use Rattle.cs_place.specs.Layout.{IsSoundLayout}
use Rattle.cs_place.specs.Part.{is_below, is_live, IsLive}
use Rattle.cs_partitions.specs.Layout.{IsLower}
use Rattle.cs_partitions.specs.Views.{AreLiveByLow}
use Rattle.cs_steps.specs.Steps.{put_by_low, by_low}

is_less : (o : Ordering) → is_lt o ≡ true → o ≡ Less
is_less Less e = refl
is_less Equal e = absurd (true≢false (sym e))
is_less Greater e = absurd (true≢false (sym e))

lower_then : (a b c : Part) → IsLower a b → IsLower b c → IsLower a c
lower_then a b c p q = ap is_lt (nat_list_cmp_total.trans a.range.low.bytes b.range.low.bytes c.range.low.bytes (is_less _ p) (is_less _ q))

-- ---- the same parts

from_put : (p : Part) (ps : List Part) (x : Part) → Contains (put_by_low p ps) x → (x ≡ p) ⊎ Contains ps x
from_put p [] x h = in_cons p x [] h
from_put p (q ∷ qs) x h = by (is_below p.range.low q.range.low) (from_put p qs x) h
  where
    by : (b : Bool) → (Contains (put_by_low p qs) x → (x ≡ p) ⊎ Contains qs x) → Contains (cond b (p ∷ q ∷ qs) (q ∷ put_by_low p qs)) x → (x ≡ p) ⊎ Contains (q ∷ qs) x
    by true f k = in_cons p x (q ∷ qs) k
    by false f k = ⊎_elim
        (λ (s : x ≡ q). inr (subst (λ z. Contains (q ∷ qs) z) (sym s) (in_head q qs)))
        (λ (j : Contains (put_by_low p qs) x). ⊎_elim (λ (s : x ≡ p). inl s) (λ (i : Contains qs x). inr (in_tail q x qs i)) (f j))
        (in_cons q x (put_by_low p qs) k)

into_put : (p : Part) (ps : List Part) (x : Part) → (x ≡ p) ⊎ Contains ps x → Contains (put_by_low p ps) x
into_put p [] x (inl s) = subst (λ z. Contains (p ∷ []) z) (sym s) (in_head p [])
into_put p [] x (inr h) = absurd (in_nil x h)
into_put p (q ∷ qs) x h = by (is_below p.range.low q.range.low) (into_put p qs x) h
  where
    by : (b : Bool) → ((x ≡ p) ⊎ Contains qs x → Contains (put_by_low p qs) x) → (x ≡ p) ⊎ Contains (q ∷ qs) x → Contains (cond b (p ∷ q ∷ qs) (q ∷ put_by_low p qs)) x
    by true f (inl s) = subst (λ z. Contains (p ∷ q ∷ qs) z) (sym s) (in_head p (q ∷ qs))
    by true f (inr k) = in_tail p x (q ∷ qs) k
    by false f (inl s) = in_tail q x (put_by_low p qs) (f (inl s))
    by false f (inr k) = ⊎_elim
        (λ (s : x ≡ q). subst (λ z. Contains (q ∷ put_by_low p qs) z) (sym s) (in_head q (put_by_low p qs)))
        (λ (j : Contains qs x). in_tail q x (put_by_low p qs) (f (inr j)))
        (in_cons q x qs k)

from_low : (ps : List Part) (x : Part) → Contains (by_low ps) x → Contains ps x
from_low [] x h = h
from_low (p ∷ ps) x h = ⊎_elim
    (λ (s : x ≡ p). subst (λ z. Contains (p ∷ ps) z) (sym s) (in_head p ps))
    (λ (j : Contains (by_low ps) x). in_tail p x ps (from_low ps x j))
    (from_put p (by_low ps) x h)

into_low : (ps : List Part) (x : Part) → Contains ps x → Contains (by_low ps) x
into_low [] x h = h
into_low (p ∷ ps) x h = into_put p (by_low ps) x (⊎_elim (λ (s : x ≡ p). inl s) (λ (j : Contains ps x). inr (into_low ps x j)) (in_cons p x ps h))

length_put : (p : Part) (ps : List Part) → length (put_by_low p ps) ≡ suc (length ps)
length_put p [] = refl
length_put p (q ∷ qs) = by (is_below p.range.low q.range.low) (length_put p qs)
  where
    by : (b : Bool) → length (put_by_low p qs) ≡ suc (length qs) → length (cond b (p ∷ q ∷ qs) (q ∷ put_by_low p qs)) ≡ suc (suc (length qs))
    by true h = refl
    by false h = ap suc h

length_low : (ps : List Part) → length (by_low ps) ≡ length ps
length_low [] = refl
length_low (p ∷ ps) = length_put p (by_low ps) ∙ ap suc (length_low ps)

-- ---- in order

abbrev HaveOrder : Part → Part → Type 0
HaveOrder a b = IsLower a b ⊎ IsLower b a

put_rises : (p : Part) (ps : List Part) → Pairwise IsLower ps → ((x : Part) → Contains ps x → HaveOrder p x) → Pairwise IsLower (put_by_low p ps)
put_rises p [] h k = (λ y j. absurd (in_nil y j), tt)
put_rises p (q ∷ qs) h k = by (is_below p.range.low q.range.low) refl (k q (in_head q qs)) (put_rises p qs h.1 (λ x j. k x (in_tail q x qs j)))
  where
    by : (b : Bool) → is_below p.range.low q.range.low ≡ b → HaveOrder p q → Pairwise IsLower (put_by_low p qs) → Pairwise IsLower (cond b (p ∷ q ∷ qs) (q ∷ put_by_low p qs))
    by true e o f = (λ y j. ⊎_elim (λ (s : y ≡ q). subst (IsLower p) (sym s) e) (λ (i : Contains qs y). lower_then p q y e (h.0 y i)) (in_cons q y qs j), h)
    by false e (inl l) f = absurd (true≢false (sym l ∙ e))
    by false e (inr l) f = (λ y j. ⊎_elim (λ (s : y ≡ p). subst (IsLower q) (sym s) l) (λ (i : Contains qs y). h.0 y i) (from_put p qs y j), f)

low_rises : (ps : List Part) → Pairwise HaveOrder ps → Pairwise IsLower (by_low ps)
low_rises [] h = tt
low_rises (p ∷ ps) h = put_rises p (by_low ps) (low_rises ps h.1) (λ x j. h.0 x (from_low ps x j))

put_first : (p : Part) (ps : List Part) → ((x : Part) → Contains ps x → IsLower p x) → put_by_low p ps ≡ p ∷ ps
put_first p [] h = refl
put_first p (q ∷ qs) h = ap (λ b. cond b (p ∷ q ∷ qs) (q ∷ put_by_low p qs)) (h q (in_head q qs))

stays : (ps : List Part) → Pairwise IsLower ps → by_low ps ≡ ps
stays [] h = refl
stays (p ∷ ps) h = ap (put_by_low p) (stays ps h.1) ∙ put_first p ps h.0

-- parts that rise are in order of low
pub rising_stay : (ps : List Part) → AllPairs IsLower ps → by_low ps ≡ ps
rising_stay ps h = stays ps (pairs_from IsLower ps h)

-- the parts that are live at a moment, put in order of low, are those of a layout that are so
module _ (created : ℕ) (parts : List Part) (S : IsSoundLayout created parts) (moment : ℕ) (known : List Part) (h : AreLiveByLow parts moment known) where
  abbrev live : List Part
  live = filter (λ q. is_live q moment) parts

  is_known : (p : Part) → Contains live p → Contains known p
  is_known p i = let u = from_filter (λ q. is_live q moment) p parts i in h.all p u.0 ((live_is p moment).0 u.1)

  in_order : Pairwise HaveOrder live
  in_order = pairs_weaker (λ (x y : Part). x.token ≢ y.token) HaveOrder live differ (pairs_filter (λ (x y : Part). x.token ≢ y.token) (λ q. is_live q moment) parts (pairs_from (λ (x y : Part). x.token ≢ y.token) parts S.tokens))
    where
      differ : (x y : Part) → Contains live x → Contains live y → x.token ≢ y.token → HaveOrder x y
      differ x y i j d =
          ⊎_elim
          (λ (e : x ≡ y). absurd (d (ap (λ (z : Part). z.token) e)))
          (λ (o : HaveOrder x y). o)
          (pairs_two IsLower known (pairs_from IsLower known h.rising) x y (is_known x i) (is_known y j))

  pub live_low : AreLiveByLow parts moment (by_low live)
  live_low = record {
    all = λ p i l. into_low live p (in_filter (λ q. is_live q moment) p parts i ((live_is p moment).1 l));
    only = λ p i. let u = from_filter (λ q. is_live q moment) p parts (from_low live p i) in (u.0, (live_is p moment).0 u.1);
    rising = pairs_to IsLower (by_low live) (low_rises live in_order);
    few = omega (arith, length_low live, filter_shorter (λ q. is_live q moment) parts);
  }
