-- Slots in sorted lists: put and taken out, places that move on, and the slots of places with numbers.
use Rattle.std.proofs.Common.{◌≡◌, ◌⊎◌, ℕ, zero, suc, ◌+◌, ◌<◌, ◌≤◌, Bool, true, false, cond, Option, Some, None, List, [], ◌∷◌, length, map, get_or, set, take, ⊎_elim, inl, inr, sym, refl, ap, ◌∙◌, subst, arith, true≢false, Contains, leb, eqb}
use Rattle.std.specs.List.{insert, remove}
use Rattle.std.proofs.lemmas.Bool.{cases_lt, leb-true, le-leb, eqb-true, eq-eqb, and_parts, and_from}
use Rattle.cs_types.specs.Members.{in_nil, in_head, in_tail, in_cons}
use Rattle.cs_schedule.specs.declared.slots.Slot.{Slot}
use Rattle.cs_schedule.specs.Index.{slot_le, same_slot, AreSorted, put_slot, take_slot, put_key, take_key, slots_from, behind, IsFirstWith}
use Rattle.cs_schedule.proofs.Unfinished.{above, not_le, not_eq}

-- ---- the order

abbrev pub Before : Slot → Slot → Type 0
Before a b = (a.key < b.key) ⊎ ((a.key ≡ b.key) × (a.place ≤ b.place))

abbrev pub Under : Slot → Slot → Type 0
Under a b = (a.key < b.key) ⊎ ((a.key ≡ b.key) × (a.place < b.place))

pub le_true : (a b : Slot) → slot_le a b ≡ true → Before a b
le_true a b h = by (eqb a.key b.key) refl h
  where
    by : (x : Bool) → eqb a.key b.key ≡ x → cond x (leb a.place b.place) (leb a.key b.key) ≡ true → Before a b
    by true q k = inr (eqb-true a.key b.key q, leb-true a.place b.place k)
    by false q k =
        let l = leb-true a.key b.key k in
        ⊎_elim
        (λ (m : a.key < b.key). inl m)
        (λ (m : b.key ≤ a.key). let e : a.key ≡ b.key = omega (arith, l, m) in absurd (true≢false (sym (eq-eqb a.key b.key e) ∙ q)))
        (cases_lt a.key b.key)

pub le_false : (a b : Slot) → slot_le a b ≡ false → Under b a
le_false a b h = by (eqb a.key b.key) refl h
  where
    by : (x : Bool) → eqb a.key b.key ≡ x → cond x (leb a.place b.place) (leb a.key b.key) ≡ false → Under b a
    by true q k = inr (sym (eqb-true a.key b.key q), above a.place b.place k)
    by false q k = inl (above a.key b.key k)

pub true_le : (a b : Slot) → Before a b → slot_le a b ≡ true
true_le a b (inl l) = ap (λ x. cond x (leb a.place b.place) (leb a.key b.key)) (not_eq a.key b.key (λ e. omega (arith, l, e))) ∙ le-leb a.key b.key (omega (arith, l))
true_le a b (inr h) = ap (λ x. cond x (leb a.place b.place) (leb a.key b.key)) (eq-eqb a.key b.key h.0) ∙ le-leb a.place b.place h.1

pub false_le : (a b : Slot) → Under b a → slot_le a b ≡ false
false_le a b (inl l) = ap (λ x. cond x (leb a.place b.place) (leb a.key b.key)) (not_eq a.key b.key (λ e. omega (arith, l, e))) ∙ not_le a.key b.key l
false_le a b (inr h) = ap (λ x. cond x (leb a.place b.place) (leb a.key b.key)) (eq-eqb a.key b.key (sym h.0)) ∙ not_le a.place b.place h.1

under_before : (a b : Slot) → Under a b → Before a b
under_before a b (inl l) = inl l
under_before a b (inr h) = inr (h.0, omega (arith, h.1))

trans : (a b c : Slot) → Before a b → Before b c → Before a c
trans a b c (inl l) (inl m) = inl (omega (arith, l, m))
trans a b c (inl l) (inr m) = inl (omega (arith, l, m.0))
trans a b c (inr l) (inl m) = inl (omega (arith, l.0, m))
trans a b c (inr l) (inr m) = inr (l.0 ∙ m.0, omega (arith, l.1, m.1))

before_under : (a b c : Slot) → Before a b → Under b c → Under a c
before_under a b c (inl l) (inl m) = inl (omega (arith, l, m))
before_under a b c (inl l) (inr m) = inl (omega (arith, l, m.0))
before_under a b c (inr l) (inl m) = inl (omega (arith, l.0, m))
before_under a b c (inr l) (inr m) = inr (l.0 ∙ m.0, omega (arith, l.1, m.1))

under_self : (a b : Slot) → Under a b → Before b a → ⊥
under_self a b (inl l) (inl m) = omega (arith, l, m)
under_self a b (inl l) (inr m) = omega (arith, l, m.0)
under_self a b (inr l) (inl m) = omega (arith, l.0, m)
under_self a b (inr l) (inr m) = omega (arith, l.1, m.1)

slot_is : (a b : Slot) → a.key ≡ b.key → a.place ≡ b.place → a ≡ b
slot_is a b p q = λ i. record { key = p i; place = q i }

both_before : (a b : Slot) → Before a b → Before b a → a ≡ b
both_before a b (inl l) (inl m) = absurd (omega (arith, l, m))
both_before a b (inl l) (inr m) = absurd (omega (arith, l, m.0))
both_before a b (inr l) (inl m) = absurd (omega (arith, l.0, m))
both_before a b (inr l) (inr m) = slot_is a b l.0 (omega (arith, l.1, m.1))

pub same_true : (a b : Slot) → same_slot a b ≡ true → a ≡ b
same_true a b h = let p = and_parts (eqb a.key b.key) (eqb a.place b.place) h in slot_is a b (eqb-true a.key b.key p.0) (eqb-true a.place b.place p.1)

pub same_self : (a : Slot) → same_slot a a ≡ true
same_self a = and_from (eqb a.key a.key) (eqb a.place a.place) (eq-eqb a.key a.key refl) (eq-eqb a.place a.place refl)

pub not_same : (a b : Slot) → Under a b → same_slot a b ≡ false
not_same a b u = by (same_slot a b) refl
  where
    by : (x : Bool) → same_slot a b ≡ x → same_slot a b ≡ false
    by true q = absurd (under_self a b u (subst (λ z. Before z a) (same_true a b q) (inr (refl, omega arith))))
    by false q = q

-- ---- put and taken out

two_heads : (a b : Slot) (z : List Slot) → cond (slot_le a b) (a ∷ b ∷ z) (b ∷ a ∷ z) ≡ cond (slot_le b a) (b ∷ a ∷ z) (a ∷ b ∷ z)
two_heads a b z = by (slot_le a b) (slot_le b a) refl refl
  where
    by : (x y : Bool) → slot_le a b ≡ x → slot_le b a ≡ y → cond x (a ∷ b ∷ z) (b ∷ a ∷ z) ≡ cond y (b ∷ a ∷ z) (a ∷ b ∷ z)
    by true true p q = let same = both_before a b (le_true a b p) (le_true b a q) in λ i. same i ∷ sym same i ∷ z
    by true false p q = refl
    by false true p q = refl
    by false false p q = absurd (under_self b a (le_false a b p) (under_before a b (le_false b a q)))

pub put_swap : (a b : Slot) (ms : List Slot) → put_slot a (put_slot b ms) ≡ put_slot b (put_slot a ms)
put_swap a b [] = two_heads a b []
put_swap a b (m ∷ ms) = by (slot_le a m) (slot_le b m) refl refl (put_swap a b ms)
  where
    by : (x y : Bool) → slot_le a m ≡ x → slot_le b m ≡ y → put_slot a (put_slot b ms) ≡ put_slot b (put_slot a ms) → put_slot a (cond y (b ∷ m ∷ ms) (m ∷ put_slot b ms)) ≡ put_slot b (cond x (a ∷ m ∷ ms) (m ∷ put_slot a ms))
    by true true p q f =
        ap (λ z. cond (slot_le a b) (a ∷ b ∷ m ∷ ms) (b ∷ cond z (a ∷ m ∷ ms) (m ∷ put_slot a ms))) p
        ∙ two_heads a b (m ∷ ms)
        ∙ ap (λ z. cond (slot_le b a) (b ∷ a ∷ m ∷ ms) (a ∷ cond z (b ∷ m ∷ ms) (m ∷ put_slot b ms))) (sym q)
    by true false p q f =
        let u = before_under a m b (le_true a m p) (le_false b m q) in
        ap (λ z. cond z (a ∷ m ∷ put_slot b ms) (m ∷ put_slot a (put_slot b ms))) p
        ∙ sym (ap (λ z. cond z (b ∷ a ∷ m ∷ ms) (a ∷ cond (slot_le b m) (b ∷ m ∷ ms) (m ∷ put_slot b ms))) (false_le b a u) ∙ ap (λ z. a ∷ cond z (b ∷ m ∷ ms) (m ∷ put_slot b ms)) q)
    by false true p q f =
        let u = before_under b m a (le_true b m q) (le_false a m p) in
        ap (λ z. cond z (a ∷ b ∷ m ∷ ms) (b ∷ cond (slot_le a m) (a ∷ m ∷ ms) (m ∷ put_slot a ms))) (false_le a b u)
        ∙ ap (λ z. b ∷ cond z (a ∷ m ∷ ms) (m ∷ put_slot a ms)) p
        ∙ sym (ap (λ z. cond z (b ∷ m ∷ put_slot a ms) (m ∷ put_slot b (put_slot a ms))) q)
    by false false p q f =
        ap (λ z. cond z (a ∷ m ∷ put_slot b ms) (m ∷ put_slot a (put_slot b ms))) p
        ∙ ap (λ l. m ∷ l) f
        ∙ sym (ap (λ z. cond z (b ∷ m ∷ put_slot a ms) (m ∷ put_slot b (put_slot a ms))) q)

-- what was put is taken out
take_put : (n : Slot) (ms : List Slot) → take_slot n (put_slot n ms) ≡ ms
take_put n [] = ap (λ b. cond b [] (n ∷ [])) (same_self n)
take_put n (m ∷ ms) = by (slot_le n m) refl (take_put n ms)
  where
    by : (x : Bool) → slot_le n m ≡ x → take_slot n (put_slot n ms) ≡ ms → take_slot n (cond x (n ∷ m ∷ ms) (m ∷ put_slot n ms)) ≡ m ∷ ms
    by true p f = ap (λ b. cond b (m ∷ ms) (n ∷ take_slot n (m ∷ ms))) (same_self n)
    by false p f = ap (λ b. cond b (put_slot n ms) (m ∷ take_slot n (put_slot n ms))) (not_same m n (le_false n m p)) ∙ ap (λ l. m ∷ l) f

pub from_put : (n : Slot) (ms : List Slot) (k : Slot) → Contains (put_slot n ms) k → (k ≡ n) ⊎ Contains ms k
from_put n [] k i = in_cons n k [] i
from_put n (m ∷ ms) k i = by (slot_le n m) i (from_put n ms k)
  where
    by : (b : Bool) → Contains (cond b (n ∷ m ∷ ms) (m ∷ put_slot n ms)) k → (Contains (put_slot n ms) k → (k ≡ n) ⊎ Contains ms k) → (k ≡ n) ⊎ Contains (m ∷ ms) k
    by true j f = in_cons n k (m ∷ ms) j
    by false j f = ⊎_elim (λ (e : k ≡ m). inr (subst (λ z. Contains (m ∷ ms) z) (sym e) (in_head m ms))) (λ (l : Contains (put_slot n ms) k). ⊎_elim (λ (e : k ≡ n). inl e) (λ (o : Contains ms k). inr (in_tail m k ms o)) (f l)) (in_cons m k (put_slot n ms) j)

pub in_put : (n : Slot) (ms : List Slot) → Contains (put_slot n ms) n
in_put n [] = in_head n []
in_put n (m ∷ ms) = by (slot_le n m) (in_put n ms)
  where
    by : (b : Bool) → Contains (put_slot n ms) n → Contains (cond b (n ∷ m ∷ ms) (m ∷ put_slot n ms)) n
    by true f = in_head n (m ∷ ms)
    by false f = in_tail m n (put_slot n ms) f

pub put_keeps : (n : Slot) (ms : List Slot) (k : Slot) → Contains ms k → Contains (put_slot n ms) k
put_keeps n [] k i = absurd (in_nil k i)
put_keeps n (m ∷ ms) k i = by (slot_le n m) (put_keeps n ms k)
  where
    by : (b : Bool) → (Contains ms k → Contains (put_slot n ms) k) → Contains (cond b (n ∷ m ∷ ms) (m ∷ put_slot n ms)) k
    by true f = in_tail n k (m ∷ ms) i
    by false f = ⊎_elim (λ (e : k ≡ m). subst (λ z. Contains (m ∷ put_slot n ms) z) (sym e) (in_head m (put_slot n ms))) (λ (j : Contains ms k). in_tail m k (put_slot n ms) (f j)) (in_cons m k ms i)

pub put_sorted : (n : Slot) (ms : List Slot) → AreSorted ms → AreSorted (put_slot n ms)
put_sorted n [] h = (λ k i. absurd (in_nil k i), tt)
put_sorted n (m ∷ ms) h = by (slot_le n m) refl (put_sorted n ms h.1)
  where
    by : (b : Bool) → slot_le n m ≡ b → AreSorted (put_slot n ms) → AreSorted (cond b (n ∷ m ∷ ms) (m ∷ put_slot n ms))
    by true q f = (
      λ k i. ⊎_elim
          (λ (e : k ≡ m). subst (λ z. slot_le n z ≡ true) (sym e) q)
          (λ (j : Contains ms k). true_le n k (trans n m k (le_true n m q) (le_true m k (h.0 k j))))
          (in_cons m k ms i),
      h,
    )
    by false q f = (
      λ k i. ⊎_elim
          (λ (e : k ≡ n). subst (λ z. slot_le m z ≡ true) (sym e) (true_le m n (under_before m n (le_false n m q))))
          (λ (j : Contains ms k). h.0 k j)
          (from_put n ms k i),
      f,
    )

out_from : (n : Slot) (ms : List Slot) (k : Slot) → Contains (take_slot n ms) k → Contains ms k
out_from n [] k i = i
out_from n (m ∷ ms) k i = by (same_slot m n) i (out_from n ms k)
  where
    by : (b : Bool) → Contains (cond b ms (m ∷ take_slot n ms)) k → (Contains (take_slot n ms) k → Contains ms k) → Contains (m ∷ ms) k
    by true j f = in_tail m k ms j
    by false j f = ⊎_elim (λ (e : k ≡ m). subst (λ z. Contains (m ∷ ms) z) (sym e) (in_head m ms)) (λ (l : Contains (take_slot n ms) k). in_tail m k ms (f l)) (in_cons m k (take_slot n ms) j)

pub take_sorted : (n : Slot) (ms : List Slot) → AreSorted ms → AreSorted (take_slot n ms)
take_sorted n [] h = tt
take_sorted n (m ∷ ms) h = by (same_slot m n) (take_sorted n ms h.1)
  where
    by : (b : Bool) → AreSorted (take_slot n ms) → AreSorted (cond b ms (m ∷ take_slot n ms))
    by true f = h.1
    by false f = (λ k i. h.0 k (out_from n ms k i), f)

pub put_longer : (n : Slot) (ms : List Slot) → length (put_slot n ms) ≡ suc (length ms)
put_longer n [] = refl
put_longer n (m ∷ ms) = by (slot_le n m) (put_longer n ms)
  where
    by : (b : Bool) → length (put_slot n ms) ≡ suc (length ms) → length (cond b (n ∷ m ∷ ms) (m ∷ put_slot n ms)) ≡ suc (suc (length ms))
    by true f = refl
    by false f = ap suc f

pub take_shorter : (n : Slot) (ms : List Slot) → Contains ms n → suc (length (take_slot n ms)) ≡ length ms
take_shorter n [] i = absurd (in_nil n i)
take_shorter n (m ∷ ms) i = by (same_slot m n) refl (take_shorter n ms)
  where
    by : (b : Bool) → same_slot m n ≡ b → (Contains ms n → suc (length (take_slot n ms)) ≡ length ms) → suc (length (cond b ms (m ∷ take_slot n ms))) ≡ suc (length ms)
    by true q f = refl
    by false q f = ⊎_elim (λ (e : n ≡ m). absurd (true≢false (sym (subst (λ z. same_slot m z ≡ true) (sym e) (same_self m)) ∙ q))) (λ (j : Contains ms n). ap suc (f j)) (in_cons m n ms i)

-- ---- places in a sorted list

pub slot_at : (n : Slot) (ms : List Slot) (i : ℕ) → i ≤ length ms → ((k : ℕ) (d : Slot) → k < i → slot_le n (get_or ms k d) ≡ false) → ((k : ℕ) (d : Slot) → k < length ms → i ≤ k → slot_le n (get_or ms k d) ≡ true) → put_slot n ms ≡ insert ms i n
slot_at n [] zero l below over = refl
slot_at n [] (suc i) l below over = absurd (omega (arith, l))
slot_at n (m ∷ ms) zero l below over = ap (λ b. cond b (n ∷ m ∷ ms) (m ∷ put_slot n ms)) (over 0 n (omega arith) (omega arith))
slot_at n (m ∷ ms) (suc i) l below over =
    ap (λ b. cond b (n ∷ m ∷ ms) (m ∷ put_slot n ms)) (below 0 n (omega arith))
    ∙ ap (λ l. m ∷ l) (slot_at n ms i (omega (arith, l)) (λ k d o. below (suc k) d (omega (arith, o))) (λ k d o u. over (suc k) d (omega (arith, o)) (omega (arith, u))))

-- a slot that is there stands at the first place that is not before it
pub out_at : (n : Slot) (ms : List Slot) (i : ℕ) → AreSorted ms → Contains ms n → i ≤ length ms → ((k : ℕ) (d : Slot) → k < i → slot_le n (get_or ms k d) ≡ false) → ((k : ℕ) (d : Slot) → k < length ms → i ≤ k → slot_le n (get_or ms k d) ≡ true) → (i < length ms) × (take_slot n ms ≡ remove ms i)
out_at n [] i h c l below over = absurd (in_nil n c)
out_at n (m ∷ ms) zero h c l below over =
    let low = le_true n m (over 0 n (omega arith) (omega arith)) in
    let same : m ≡ n = ⊎_elim (λ (e : n ≡ m). sym e) (λ (j : Contains ms n). both_before m n (le_true m n (h.0 n j)) low) (in_cons m n ms c) in
    (omega arith, ap (λ b. cond b ms (m ∷ take_slot n ms)) (subst (λ z. same_slot m z ≡ true) same (same_self m)))
out_at n (m ∷ ms) (suc i) h c l below over =
    let high = le_false n m (below 0 n (omega arith)) in
    let there : Contains ms n = ⊎_elim (λ (e : n ≡ m). absurd (under_self m n high (subst (λ z. Before z m) (sym e) (inr (refl, omega arith))))) (λ (j : Contains ms n). j) (in_cons m n ms c) in
    let u = out_at n ms i h.1 there (omega (arith, l)) (λ k d o. below (suc k) d (omega (arith, o))) (λ k d o v. over (suc k) d (omega (arith, o)) (omega (arith, v))) in
    (omega (arith, u.0), ap (λ b. cond b ms (m ∷ take_slot n ms)) (not_same m n high) ∙ ap (λ l. m ∷ l) u.1)

pub at_in : (ms : List Slot) (i : ℕ) (d : Slot) → i < length ms → Contains ms (get_or ms i d)
at_in [] i d l = absurd (omega (arith, l))
at_in (a ∷ ms) zero d l = in_head a ms
at_in (a ∷ ms) (suc i) d l = in_tail a (get_or ms i d) ms (at_in ms i d (omega (arith, l)))

pub at_any : (xs : List Slot) (k : ℕ) (e d : Slot) → k < length xs → get_or xs k e ≡ get_or xs k d
at_any [] k e d n = absurd (omega (arith, n))
at_any (x ∷ xs) zero e d n = refl
at_any (x ∷ xs) (suc k) e d n = at_any xs k e d (omega (arith, n))

pub sorted_at : (ms : List Slot) (i j : ℕ) (d : Slot) → AreSorted ms → i ≤ j → j < length ms → Before (get_or ms i d) (get_or ms j d)
sorted_at [] i j d h l o = absurd (omega (arith, o))
sorted_at (m ∷ ms) zero zero d h l o = inr (refl, omega arith)
sorted_at (m ∷ ms) zero (suc j) d h l o = le_true m (get_or ms j d) (h.0 (get_or ms j d) (at_in ms j d (omega (arith, o))))
sorted_at (m ∷ ms) (suc i) zero d h l o = absurd (omega (arith, l))
sorted_at (m ∷ ms) (suc i) (suc j) d h l o = sorted_at ms i j d h.1 (omega (arith, l)) (omega (arith, o))

pub over_more : (ms : List Slot) (n x : Slot) (i j : ℕ) (d : Slot) → AreSorted ms → i ≤ j → j < length ms → slot_le n (get_or ms i x) ≡ true → slot_le n (get_or ms j d) ≡ true
over_more ms n x i j d h l o low =
    let same : get_or ms i x ≡ get_or ms i d = at_any ms i x d (omega (arith, l, o)) in
    true_le n (get_or ms j d) (trans n (get_or ms i d) (get_or ms j d) (subst (λ z. Before n z) same (le_true n (get_or ms i x) low)) (sorted_at ms i j d h l o))

pub below_less : (ms : List Slot) (n x : Slot) (i j : ℕ) (d : Slot) → AreSorted ms → j ≤ i → i < length ms → slot_le n (get_or ms i x) ≡ false → slot_le n (get_or ms j d) ≡ false
below_less ms n x i j d h l o high =
    let same : get_or ms i x ≡ get_or ms i d = at_any ms i x d o in
    false_le n (get_or ms j d) (before_under (get_or ms j d) (get_or ms i d) n (sorted_at ms j i d h l o) (subst (λ z. Under z n) same (le_false n (get_or ms i x) high)))

pub key_more : (ms : List Slot) (n : ℕ) (x : Slot) (i j : ℕ) (d : Slot) → AreSorted ms → i ≤ j → j < length ms → n < (get_or ms i x).key → n < (get_or ms j d).key
key_more ms n x i j d h l o low =
    let same : get_or ms i x ≡ get_or ms i d = at_any ms i x d (omega (arith, l, o)) in
    by (sorted_at ms i j d h l o) (ap (λ (z : Slot). z.key) same)
  where
    by : Before (get_or ms i d) (get_or ms j d) → (get_or ms i x).key ≡ (get_or ms i d).key → n < (get_or ms j d).key
    by (inl m) q = omega (arith, low, m, q)
    by (inr m) q = omega (arith, low, m.0, q)

pub key_less : (ms : List Slot) (n : ℕ) (x : Slot) (i j : ℕ) (d : Slot) → AreSorted ms → j ≤ i → i < length ms → (get_or ms i x).key ≤ n → (get_or ms j d).key ≤ n
key_less ms n x i j d h l o low =
    let same : get_or ms i x ≡ get_or ms i d = at_any ms i x d o in
    by (sorted_at ms j i d h l o) (ap (λ (z : Slot). z.key) same)
  where
    by : Before (get_or ms j d) (get_or ms i d) → (get_or ms i x).key ≡ (get_or ms i d).key → (get_or ms j d).key ≤ n
    by (inl m) q = omega (arith, low, m, q)
    by (inr m) q = omega (arith, low, m.0, q)

-- ---- places with numbers

key_swap : (o q : Option ℕ) (p r : ℕ) (ss : List Slot) → put_key o p (put_key q r ss) ≡ put_key q r (put_key o p ss)
key_swap None q p r ss = refl
key_swap (Some m) None p r ss = refl
key_swap (Some m) (Some n) p r ss = put_swap (record { key = m; place = p }) (record { key = n; place = r }) ss

take_put_key : (o : Option ℕ) (p : ℕ) (ss : List Slot) → take_key o p (put_key o p ss) ≡ ss
take_put_key None p ss = refl
take_put_key (Some m) p ss = take_put (record { key = m; place = p }) ss

key_sorted : (o : Option ℕ) (p : ℕ) (ss : List Slot) → AreSorted ss → AreSorted (put_key o p ss)
key_sorted None p ss h = h
key_sorted (Some m) p ss h = put_sorted (record { key = m; place = p }) ss h

pub slots_sorted : (p : ℕ) (os : List (Option ℕ)) → AreSorted (slots_from p os)
slots_sorted p [] = tt
slots_sorted p (o ∷ os) = key_sorted o p (slots_from (suc p) os) (slots_sorted (suc p) os)

set_slots : (p : ℕ) (os : List (Option ℕ)) (i : ℕ) (o : Option ℕ) → i < length os → slots_from p (set os i o) ≡ put_key o (p + i) (slots_from p (set os i None))
set_slots p [] i o l = absurd (omega (arith, l))
set_slots p (x ∷ os) zero o l = let same : p ≡ p + 0 = omega arith in ap (λ k. put_key o k (slots_from (suc p) os)) same
set_slots p (x ∷ os) (suc i) o l =
    let same : suc p + i ≡ p + suc i = omega arith in
    ap (put_key x p) (set_slots (suc p) os i o (omega (arith, l)))
    ∙ key_swap x o p (suc p + i) (slots_from (suc p) (set os i None))
    ∙ ap (λ k. put_key o k (put_key x p (slots_from (suc p) (set os i None)))) same

set_same : (os : List (Option ℕ)) (i : ℕ) (o : Option ℕ) → i < length os → get_or os i None ≡ o → set os i o ≡ os
set_same [] i o l e = absurd (omega (arith, l))
set_same (x ∷ os) zero o l e = ap (λ z. z ∷ os) (sym e)
set_same (x ∷ os) (suc i) o l e = ap (λ z. x ∷ z) (set_same os i o (omega (arith, l)) e)

-- a place that has a number gives its slot up
pub take_slots : (os : List (Option ℕ)) (i : ℕ) (o : Option ℕ) → i < length os → get_or os i None ≡ o → take_key o i (slots_from 0 os) ≡ slots_from 0 (set os i None)
take_slots os i o l e =
    let same : 0 + i ≡ i = omega arith in
    ap (take_key o i) (ap (slots_from 0) (sym (set_same os i o l e)) ∙ set_slots 0 os i o l ∙ ap (λ k. put_key o k (slots_from 0 (set os i None))) same)
    ∙ take_put_key o i (slots_from 0 (set os i None))

-- a place without a number gets one
pub put_slots : (os : List (Option ℕ)) (i : ℕ) (o : Option ℕ) → i < length os → put_key o i (slots_from 0 (set os i None)) ≡ slots_from 0 (set os i o)
put_slots os i o l =
    let same : 0 + i ≡ i = omega arith in
    sym (set_slots 0 os i o l ∙ ap (λ k. put_key o k (slots_from 0 (set os i None))) same)

pub put_slots_at : (os : List (Option ℕ)) (i : ℕ) (o : Option ℕ) → i < length os → get_or os i None ≡ None → put_key o i (slots_from 0 os) ≡ slots_from 0 (set os i o)
put_slots_at os i o l e = ap (λ z. put_key o i (slots_from 0 z)) (sym (set_same os i None l e)) ∙ put_slots os i o l

pub slots_length : (p : ℕ) (os : List (Option ℕ)) → length (slots_from p os) ≤ length os
slots_length p [] = omega arith
slots_length p (None ∷ os) = let f = slots_length (suc p) os in omega (arith, f)
slots_length p (Some k ∷ os) = let f = slots_length (suc p) os in let l = put_longer (record { key = k; place = p }) (slots_from (suc p) os) in omega (arith, f, l)

pub slots_less : (p : ℕ) (os : List (Option ℕ)) (i : ℕ) → i < length os → get_or os i None ≡ None → length (slots_from p os) < length os
slots_less p [] i l e = absurd (omega (arith, l))
slots_less p (None ∷ os) zero l e = let f = slots_length (suc p) os in omega (arith, f)
slots_less p (Some k ∷ os) zero l e = absurd cc
slots_less p (None ∷ os) (suc i) l e = let f = slots_less (suc p) os i (omega (arith, l)) e in omega (arith, f)
slots_less p (Some k ∷ os) (suc i) l e = let f = slots_less (suc p) os i (omega (arith, l)) e in let l = put_longer (record { key = k; place = p }) (slots_from (suc p) os) in omega (arith, f, l)

pub length_set : (os : List (Option ℕ)) (i : ℕ) (o : Option ℕ) → length (set os i o) ≡ length os
length_set [] i o = refl
length_set (x ∷ os) zero o = refl
length_set (x ∷ os) (suc i) o = ap suc (length_set os i o)

pub get_set : (os : List (Option ℕ)) (i : ℕ) (o : Option ℕ) → i < length os → get_or (set os i o) i None ≡ o
get_set [] i o l = absurd (omega (arith, l))
get_set (x ∷ os) zero o l = refl
get_set (x ∷ os) (suc i) o l = get_set os i o (omega (arith, l))

pub set_set : (os : List (Option ℕ)) (i : ℕ) (o q : Option ℕ) → set (set os i o) i q ≡ set os i q
set_set [] i o q = refl
set_set (x ∷ os) zero o q = refl
set_set (x ∷ os) (suc i) o q = ap (λ l. x ∷ l) (set_set os i o q)

-- ---- members

-- the slot is one of the places from p on
pub record IsSlotOf (p : ℕ) (os : List (Option ℕ)) (s : Slot) : Type 0 where
  pub index : ℕ
  pub inside : index < length os
  pub place : s.place ≡ p + index
  pub key : get_or os index None ≡ Some s.key

from_key : (o : Option ℕ) (p : ℕ) (ss : List Slot) (s : Slot) → Contains (put_key o p ss) s → ((o ≡ Some s.key) × (s.place ≡ p)) ⊎ Contains ss s
from_key None p ss s i = inr i
from_key (Some k) p ss s i = ⊎_elim (λ (e : s ≡ record { key = k; place = p }). inl (ap (λ (z : Slot). Some z.key) (sym e), ap (λ (z : Slot). z.place) e)) (λ (j : Contains ss s). inr j) (from_put (record { key = k; place = p }) ss s i)

pub in_slots : (p : ℕ) (os : List (Option ℕ)) (s : Slot) → Contains (slots_from p os) s → IsSlotOf p os s
in_slots p [] s i = absurd (in_nil s i)
in_slots p (o ∷ os) s i = by (from_key o p (slots_from (suc p) os) s i) (in_slots (suc p) os s)
  where
    by : ((o ≡ Some s.key) × (s.place ≡ p)) ⊎ Contains (slots_from (suc p) os) s → (Contains (slots_from (suc p) os) s → IsSlotOf (suc p) os s) → IsSlotOf p (o ∷ os) s
    by (inl e) f = record { index = 0; inside = omega arith; place = e.1 ∙ omega arith; key = e.0 }
    by (inr j) f = let u = f j in record { index = suc u.index; inside = omega (arith, u.inside); place = omega (arith, u.place); key = u.key }

key_keeps : (o : Option ℕ) (p : ℕ) (ss : List Slot) (s : Slot) → Contains ss s → Contains (put_key o p ss) s
key_keeps None p ss s i = i
key_keeps (Some k) p ss s i = put_keeps (record { key = k; place = p }) ss s i

pub slots_in : (p : ℕ) (os : List (Option ℕ)) (i k : ℕ) → i < length os → get_or os i None ≡ Some k → Contains (slots_from p os) (record { key = k; place = p + i })
slots_in p [] i k l e = absurd (omega (arith, l))
slots_in p (o ∷ os) zero k l e =
    let same : p ≡ p + 0 = omega arith in
    subst (λ z. Contains (put_key z p (slots_from (suc p) os)) (record { key = k; place = p + 0 })) (sym e)
    (subst (λ z. Contains (put_slot (record { key = k; place = p }) (slots_from (suc p) os)) (record { key = k; place = z })) same (in_put (record { key = k; place = p }) (slots_from (suc p) os)))
slots_in p (o ∷ os) (suc i) k l e =
    let same : suc p + i ≡ p + suc i = omega arith in
    key_keeps o p (slots_from (suc p) os) (record { key = k; place = p + suc i })
    (subst (λ z. Contains (slots_from (suc p) os) (record { key = k; place = z })) same (slots_in (suc p) os i k (omega (arith, l)) e))

pub slot_there : (os : List (Option ℕ)) (i k : ℕ) → i < length os → get_or os i None ≡ Some k → Contains (slots_from 0 os) (record { key = k; place = i })
slot_there os i k l e = let same : 0 + i ≡ i = omega arith in subst (λ z. Contains (slots_from 0 os) (record { key = k; place = z })) same (slots_in 0 os i k l e)

-- ---- places that move on

up : ℕ → ℕ → ℕ
up b p = cond (leb b p) (suc p) p

up_cases : (b p : ℕ) → ((b ≤ p) × (up b p ≡ suc p)) ⊎ ((p < b) × (up b p ≡ p))
unfolding up
up_cases b p = by (leb b p) refl
  where
    by : (x : Bool) → leb b p ≡ x → ((b ≤ p) × (cond x (suc p) p ≡ suc p)) ⊎ ((p < b) × (cond x (suc p) p ≡ p))
    by true q = inl (leb-true b p q, refl)
    by false q = inr (above b p q, refl)

up_le : (b p r : ℕ) → p ≤ r → up b p ≤ up b r
up_le b p r l = by (up_cases b p) (up_cases b r)
  where
    by : ((b ≤ p) × (up b p ≡ suc p)) ⊎ ((p < b) × (up b p ≡ p)) → ((b ≤ r) × (up b r ≡ suc r)) ⊎ ((r < b) × (up b r ≡ r)) → up b p ≤ up b r
    by (inl x) (inl y) = omega (arith, l, x.0, x.1, y.0, y.1)
    by (inl x) (inr y) = omega (arith, l, x.0, x.1, y.0, y.1)
    by (inr x) (inl y) = omega (arith, l, x.0, x.1, y.0, y.1)
    by (inr x) (inr y) = omega (arith, l, x.0, x.1, y.0, y.1)

up_lt : (b p r : ℕ) → p < r → up b p < up b r
up_lt b p r l = by (up_cases b p) (up_cases b r)
  where
    by : ((b ≤ p) × (up b p ≡ suc p)) ⊎ ((p < b) × (up b p ≡ p)) → ((b ≤ r) × (up b r ≡ suc r)) ⊎ ((r < b) × (up b r ≡ r)) → up b p < up b r
    by (inl x) (inl y) = omega (arith, l, x.0, x.1, y.0, y.1)
    by (inl x) (inr y) = omega (arith, l, x.0, x.1, y.0, y.1)
    by (inr x) (inl y) = omega (arith, l, x.0, x.1, y.0, y.1)
    by (inr x) (inr y) = omega (arith, l, x.0, x.1, y.0, y.1)

behind_up : (b : ℕ) (s : Slot) → (behind b s).place ≡ up b s.place
unfolding up
behind_up b s = refl

behind_before : (b : ℕ) (a c : Slot) → Before a c → Before (behind b a) (behind b c)
unfolding up
behind_before b a c (inl l) = inl l
behind_before b a c (inr h) = inr (h.0, up_le b a.place c.place h.1)

behind_under : (b : ℕ) (a c : Slot) → Under a c → Under (behind b a) (behind b c)
unfolding up
behind_under b a c (inl l) = inl l
behind_under b a c (inr h) = inr (h.0, up_lt b a.place c.place h.1)

behind_le : (b : ℕ) (a c : Slot) → slot_le (behind b a) (behind b c) ≡ slot_le a c
behind_le b a c = by (slot_le a c) refl
  where
    by : (x : Bool) → slot_le a c ≡ x → slot_le (behind b a) (behind b c) ≡ x
    by true q = true_le (behind b a) (behind b c) (behind_before b a c (le_true a c q))
    by false q = false_le (behind b a) (behind b c) (behind_under b c a (le_false a c q))

behind_put : (b : ℕ) (s : Slot) (ss : List Slot) → map (behind b) (put_slot s ss) ≡ put_slot (behind b s) (map (behind b) ss)
behind_put b s [] = refl
behind_put b s (a ∷ ss) = by (slot_le s a) (behind_put b s ss) ∙ ap (λ x. cond x (behind b s ∷ behind b a ∷ map (behind b) ss) (behind b a ∷ put_slot (behind b s) (map (behind b) ss))) (sym (behind_le b s a))
  where
    by : (x : Bool) → map (behind b) (put_slot s ss) ≡ put_slot (behind b s) (map (behind b) ss) → map (behind b) (cond x (s ∷ a ∷ ss) (a ∷ put_slot s ss)) ≡ cond x (behind b s ∷ behind b a ∷ map (behind b) ss) (behind b a ∷ put_slot (behind b s) (map (behind b) ss))
    by true f = refl
    by false f = ap (λ l. behind b a ∷ l) f

behind_key : (b : ℕ) (o : Option ℕ) (p r : ℕ) (ss : List Slot) → up b p ≡ r → map (behind b) (put_key o p ss) ≡ put_key o r (map (behind b) ss)
unfolding up
behind_key b None p r ss e = refl
behind_key b (Some k) p r ss e = behind_put b (record { key = k; place = p }) ss ∙ ap (λ z. put_slot (record { key = k; place = z }) (map (behind b) ss)) e

up_over : (b p : ℕ) → b ≤ p → up b p ≡ suc p
up_over b p l = ⊎_elim (λ (x : (b ≤ p) × (up b p ≡ suc p)). x.1) (λ (x : (p < b) × (up b p ≡ p)). absurd (omega (arith, l, x.0))) (up_cases b p)

up_under : (b p : ℕ) → p < b → up b p ≡ p
up_under b p l = ⊎_elim (λ (x : (b ≤ p) × (up b p ≡ suc p)). absurd (omega (arith, l, x.0))) (λ (x : (p < b) × (up b p ≡ p)). x.1) (up_cases b p)

shifted : (b p : ℕ) (os : List (Option ℕ)) → b ≤ p → slots_from (suc p) os ≡ map (behind b) (slots_from p os)
shifted b p [] l = refl
shifted b p (o ∷ os) l = ap (put_key o (suc p)) (shifted b (suc p) os (omega (arith, l))) ∙ sym (behind_key b o p (suc p) (slots_from (suc p) os) (up_over b p l))

insert_from : (p : ℕ) (os : List (Option ℕ)) (i : ℕ) → i ≤ length os → slots_from p (insert os i None) ≡ map (behind (p + i)) (slots_from p os)
insert_from p os zero l = shifted (p + 0) p os (omega arith)
insert_from p [] (suc i) l = absurd (omega (arith, l))
insert_from p (o ∷ os) (suc i) l =
    let same : suc p + i ≡ p + suc i = omega arith in
    ap (put_key o p) (insert_from (suc p) os i (omega (arith, l)) ∙ ap (λ b. map (behind b) (slots_from (suc p) os)) same)
    ∙ sym (behind_key (p + suc i) o p p (slots_from (suc p) os) (up_under (p + suc i) p (omega arith)))

-- a place put among others moves those behind it on
pub insert_slots : (os : List (Option ℕ)) (i : ℕ) → i ≤ length os → map (behind i) (slots_from 0 os) ≡ slots_from 0 (insert os i None)
insert_slots os i l = let same : 0 + i ≡ i = omega arith in sym (insert_from 0 os i l ∙ ap (λ b. map (behind b) (slots_from 0 os)) same)

-- where all places are before, none moves
pub behind_all : (b : ℕ) (ss : List Slot) → ((s : Slot) → Contains ss s → s.place < b) → map (behind b) ss ≡ ss
behind_all b [] h = refl
behind_all b (s ∷ ss) h =
    ap (λ z. z ∷ map (behind b) ss) (slot_is (behind b s) s refl (behind_up b s ∙ up_under b s.place (h s (in_head s ss))))
    ∙ ap (λ l. s ∷ l) (behind_all b ss (λ a i. h a (in_tail s a ss i)))

-- ---- a list changed from its front on

abbrev pub upto : (Slot → Slot) → ℕ → List Slot → List Slot
upto f zero ss = ss
upto f (suc i) [] = []
upto f (suc i) (s ∷ ss) = f s ∷ upto f i ss

pub upto_length : (f : Slot → Slot) (i : ℕ) (ss : List Slot) → length (upto f i ss) ≡ length ss
upto_length f zero ss = refl
upto_length f (suc i) [] = refl
upto_length f (suc i) (s ∷ ss) = ap suc (upto_length f i ss)

pub upto_at : (f : Slot → Slot) (i : ℕ) (ss : List Slot) (d : Slot) → get_or (upto f i ss) i d ≡ get_or ss i d
upto_at f zero ss d = refl
upto_at f (suc i) [] d = refl
upto_at f (suc i) (s ∷ ss) d = upto_at f i ss d

pub upto_next : (f : Slot → Slot) (i : ℕ) (ss : List Slot) (d : Slot) → i < length ss → set (upto f i ss) i (f (get_or ss i d)) ≡ upto f (suc i) ss
upto_next f i [] d l = absurd (omega (arith, l))
upto_next f zero (s ∷ ss) d l = refl
upto_next f (suc i) (s ∷ ss) d l = ap (λ z. f s ∷ z) (upto_next f i ss d (omega (arith, l)))

pub upto_all : (f : Slot → Slot) (i : ℕ) (ss : List Slot) → length ss ≤ i → upto f i ss ≡ map f ss
upto_all f zero [] l = refl
upto_all f (suc i) [] l = refl
upto_all f zero (s ∷ ss) l = absurd (omega (arith, l))
upto_all f (suc i) (s ∷ ss) l = ap (λ z. f s ∷ z) (upto_all f i ss (omega (arith, l)))

-- ---- the first place with a number

at_least : (s : Slot) (k from : ℕ) → s.key ≡ k → Before (record { key = k; place = from }) s → from ≤ s.place
at_least s k from e (inl l) = absurd (omega (arith, l, e))
at_least s k from e (inr l) = l.1

before_all : (ss : List Slot) (i : ℕ) (n : Slot) → AreSorted ss → i ≤ length ss → ((k : ℕ) (d : Slot) → k < i → slot_le n (get_or ss k d) ≡ false) → (s : Slot) (j : Contains ss s) → Before n s → i ≤ j.0
before_all ss i n h l below s j b =
    ⊎_elim
    (λ (o : j.0 < i). absurd (under_self s n (le_false n s (subst (λ z. slot_le n z ≡ false) j.2 (below j.0 s o))) b))
    (λ (o : i ≤ j.0). o)
    (cases_lt j.0 i)

asked_before : (s : Slot) (k from : ℕ) → s.key ≡ k → from ≤ s.place → Before (record { key = k; place = from }) s
asked_before s k from e l = inr (sym e, l)

pub first_none : (ss : List Slot) (k from i : ℕ) → AreSorted ss → i ≡ length ss → ((j : ℕ) (d : Slot) → j < i → slot_le (record { key = k; place = from }) (get_or ss j d) ≡ false) → (s : Slot) → Contains ss s → s.key ≡ k → from ≤ s.place → ⊥
first_none ss k from i h e below s j q l =
    let o = before_all ss i (record { key = k; place = from }) h (omega (arith, e)) below s j (asked_before s k from q l) in
    omega (arith, o, e, j.1)

first_here : (ss : List Slot) (k from i : ℕ) (x : Slot) → AreSorted ss → i < length ss → x ≡ get_or ss i x → ((j : ℕ) (d : Slot) → j < i → slot_le (record { key = k; place = from }) (get_or ss j d) ≡ false) → slot_le (record { key = k; place = from }) x ≡ true → x.key ≡ k → IsFirstWith ss k from (Some x.place)
first_here ss k from i x h inside is below over q = (
  subst (λ z. Contains ss z) (slot_is x (record { key = k; place = x.place }) q refl) (i, inside, sym is),
  at_least x k from q (le_true (record { key = k; place = from }) x over),
  λ s j e l.
      let o = before_all ss i (record { key = k; place = from }) h (omega (arith, inside)) below s j (asked_before s k from e l) in
      by s e (subst (λ z. Before x z) j.2 (subst (λ z. Before z (get_or ss j.0 s)) (sym (is ∙ at_any ss i x s inside)) (sorted_at ss i j.0 s h o j.1))),
)
  where
    by : (s : Slot) → s.key ≡ k → Before x s → x.place ≤ s.place
    by s e (inl l) = absurd (omega (arith, l, e, q))
    by s e (inr l) = l.1

none_here : (ss : List Slot) (k from i : ℕ) (x : Slot) → AreSorted ss → i < length ss → x ≡ get_or ss i x → ((j : ℕ) (d : Slot) → j < i → slot_le (record { key = k; place = from }) (get_or ss j d) ≡ false) → slot_le (record { key = k; place = from }) x ≡ true → (x.key ≡ k → ⊥) → (s : Slot) → Contains ss s → s.key ≡ k → from ≤ s.place → ⊥
none_here ss k from i x h inside is below over q s j e l =
    let o = before_all ss i (record { key = k; place = from }) h (omega (arith, inside)) below s j (asked_before s k from e l) in
    by (le_true (record { key = k; place = from }) x over) (subst (λ z. Before x z) j.2 (subst (λ z. Before z (get_or ss j.0 s)) (sym (is ∙ at_any ss i x s inside)) (sorted_at ss i j.0 s h o j.1)))
  where
    by : Before (record { key = k; place = from }) x → Before x s → ⊥
    by (inl a) (inl b) = omega (arith, a, b, e)
    by (inl a) (inr b) = omega (arith, a, b.0, e)
    by (inr a) b = q (sym a.0)

pub first_some : (ss : List Slot) (k from i : ℕ) (x : Slot) → AreSorted ss → i < length ss → ((j : ℕ) (d : Slot) → j < i → slot_le (record { key = k; place = from }) (get_or ss j d) ≡ false) → ((j : ℕ) (d : Slot) → j < length ss → i ≤ j → slot_le (record { key = k; place = from }) (get_or ss j d) ≡ true) → (get_or ss i x).key ≡ k → IsFirstWith ss k from (Some (get_or ss i x).place)
first_some ss k from i x h inside below over q = first_here ss k from i (get_or ss i x) h inside (at_any ss i x (get_or ss i x) inside) below (over i x inside (omega arith)) q

pub first_other : (ss : List Slot) (k from i : ℕ) (x : Slot) → AreSorted ss → i < length ss → ((j : ℕ) (d : Slot) → j < i → slot_le (record { key = k; place = from }) (get_or ss j d) ≡ false) → ((j : ℕ) (d : Slot) → j < length ss → i ≤ j → slot_le (record { key = k; place = from }) (get_or ss j d) ≡ true) → ((get_or ss i x).key ≡ k → ⊥) → (s : Slot) → Contains ss s → s.key ≡ k → from ≤ s.place → ⊥
first_other ss k from i x h inside below over q = none_here ss k from i (get_or ss i x) h inside (at_any ss i x (get_or ss i x) inside) below (over i x inside (omega arith)) q

-- ---- places one after another

take_from : (p : ℕ) (os : List (Option ℕ)) (i : ℕ) → i < length os → slots_from p (take (suc i) os) ≡ put_key (get_or os i None) (p + i) (slots_from p (take i os))
take_from p [] i l = absurd (omega (arith, l))
take_from p (x ∷ os) zero l = let same : p ≡ p + 0 = omega arith in ap (λ k. put_key x k []) same
take_from p (x ∷ os) (suc i) l =
    let same : suc p + i ≡ p + suc i = omega arith in
    ap (put_key x p) (take_from (suc p) os i (omega (arith, l)))
    ∙ key_swap x (get_or os i None) p (suc p + i) (slots_from (suc p) (take i os))
    ∙ ap (λ k. put_key (get_or os i None) k (put_key x p (slots_from (suc p) (take i os)))) same

pub take_next : (os : List (Option ℕ)) (i : ℕ) (o : Option ℕ) → i < length os → get_or os i None ≡ o → put_key o i (slots_from 0 (take i os)) ≡ slots_from 0 (take (i + 1) os)
take_next os i o l e =
    let same : 0 + i ≡ i = omega arith in
    let next : i + 1 ≡ suc i = omega arith in
    sym (ap (λ k. slots_from 0 (take k os)) next ∙ take_from 0 os i l ∙ ap (λ k. put_key (get_or os i None) k (slots_from 0 (take i os))) same ∙ ap (λ z. put_key z i (slots_from 0 (take i os))) e)

take_most : (os : List (Option ℕ)) (i : ℕ) → length (take i os) ≤ i
take_most os zero = omega arith
take_most [] (suc i) = omega arith
take_most (x ∷ os) (suc i) = let f = take_most os i in omega (arith, f)

pub take_length : (os : List (Option ℕ)) (i : ℕ) → length (slots_from 0 (take i os)) ≤ i
take_length os i = let f = take_most os i in let l = slots_length 0 (take i os) in omega (arith, f, l)

pub take_past : (os : List (Option ℕ)) (i : ℕ) → length os ≤ i → take i os ≡ os
take_past [] zero l = refl
take_past [] (suc i) l = refl
take_past (x ∷ os) zero l = absurd (omega (arith, l))
take_past (x ∷ os) (suc i) l = ap (λ z. x ∷ z) (take_past os i (omega (arith, l)))
