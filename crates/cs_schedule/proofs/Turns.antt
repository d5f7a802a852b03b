-- The slots in front: whose turn it is to be read, the lowest pair, and the least moment.
use Rattle.std.proofs.Common.{◌≡◌, ◌⊎◌, ℕ, zero, suc, ◌-◌, ◌%◌, ◌<◌, ◌≤◌, min, Bool, true, false, cond, not, ◌&&◌, Option, Some, None, List, [], ◌∷◌, length, map, filter, take, get_or, ⊎_elim, inl, inr, sym, refl, ap, ◌∙◌, subst, arith, Contains, leb, eqb}
use Rattle.std.proofs.lemmas.Bool.{cases_lt, cases_Bool, le-leb, eqb-true, eq-eqb}
use Rattle.std.proofs.lemmas.Nat.{mod_below}
use Rattle.std.specs.declared.cmp.Ordering.TheVariants.{Less}
use Rattle.std.specs.Ordering.{nat_cmp}
use Rattle.std.specs.Cmp.Lexicographic.{slice_cmp}
use Rattle.cs_types.specs.Members.{in_nil, in_head, in_tail, from_map}
use Rattle.cs_schedule.specs.declared.row.Row.{Row}
use Rattle.cs_schedule.specs.declared.slots.Slot.{Slot}
use Rattle.cs_schedule.specs.Board.{IsOrdered, has_ended, have_ended, may_read, fewer, least_behind, fewest_tries, is_chosen, places, element, turn, ready_with, ready_place, IsLowestPair}
use Rattle.cs_schedule.specs.Index.{slot_le, AreSorted, put_slot, put_key, slots_from, keys, open_key, opens_of, missing, tries_if, free_key, free_of, with_key, first_turn, token_number}
use Rattle.cs_schedule.specs.Open.{put_number, open_of, DoRise}
use Rattle.cs_schedule.proofs.Indexed.{length_keys, key_at, row_there}
use Rattle.cs_schedule.proofs.Places.{ordered_at}
use Rattle.cs_schedule.proofs.Sorted.{Before, Under, le_true, le_false, at_in, at_any, sorted_at, slots_sorted, in_slots, slot_there}
use Rattle.cs_schedule.proofs.Unfinished.{not_le, not_eq, open_rises}

-- ---- the moments of the slots are those of the unfinished rows

front : (n : ℕ) (ms : List ℕ) → ((k : ℕ) → Contains ms k → n ≤ k) → put_number n ms ≡ n ∷ ms
front n [] h = refl
front n (m ∷ ms) h = ap (λ b. cond b (n ∷ m ∷ ms) (m ∷ put_number n ms)) (le-leb n m (h m (in_head m ms)))

keys_put : (s : Slot) (ss : List Slot) → AreSorted ss → keys (put_slot s ss) ≡ put_number s.key (keys ss)
keys_put s [] h = refl
keys_put s (a ∷ ss) h = by (slot_le s a) refl (keys_put s ss h.1)
  where
    low : Before s a → s.key ≤ a.key
    low (inl l) = omega (arith, l)
    low (inr l) = omega (arith, l.0)

    all : (k : ℕ) → Contains (keys ss) k → a.key ≤ k
    all k i = let u = from_map (λ (z : Slot). z.key) k ss i in at u.0 (le_true a u.0 (h.0 u.0 u.1)) u.2
      where
        at : (z : Slot) → Before a z → k ≡ z.key → a.key ≤ k
        at z (inl l) e = omega (arith, l, e)
        at z (inr l) e = omega (arith, l.0, e)

    high : Under a s → keys (put_slot s ss) ≡ put_number s.key (keys ss) → a.key ∷ keys (put_slot s ss) ≡ cond (leb s.key a.key) (s.key ∷ a.key ∷ keys ss) (a.key ∷ put_number s.key (keys ss))
    high (inl l) f = ap (λ z. a.key ∷ z) f ∙ sym (ap (λ b. cond b (s.key ∷ a.key ∷ keys ss) (a.key ∷ put_number s.key (keys ss))) (not_le s.key a.key l))
    high (inr l) f =
        ap (λ z. a.key ∷ z) (f ∙ ap (λ n. put_number n (keys ss)) (sym l.0) ∙ front a.key (keys ss) all)
        ∙ ap (λ n. n ∷ a.key ∷ keys ss) l.0
        ∙ sym (ap (λ b. cond b (s.key ∷ a.key ∷ keys ss) (a.key ∷ put_number s.key (keys ss))) (le-leb s.key a.key (omega (arith, l.0))))

    by : (b : Bool) → slot_le s a ≡ b → keys (put_slot s ss) ≡ put_number s.key (keys ss) → keys (cond b (s ∷ a ∷ ss) (a ∷ put_slot s ss)) ≡ cond (leb s.key a.key) (s.key ∷ a.key ∷ keys ss) (a.key ∷ put_number s.key (keys ss))
    by true q f = sym (ap (λ b. cond b (s.key ∷ a.key ∷ keys ss) (a.key ∷ put_number s.key (keys ss))) (le-leb s.key a.key (low (le_true s a q))))
    by false q f = high (le_false s a q) f

keys_from : (p : ℕ) (rows : List Row) → keys (slots_from p (map open_key rows)) ≡ open_of rows
keys_from p [] = refl
keys_from p (r ∷ rows) = by r.finished (keys_from (suc p) rows)
  where
    by : (b : Bool) → keys (slots_from (suc p) (map open_key rows)) ≡ open_of rows → keys (put_key (cond b None (Some r.through)) p (slots_from (suc p) (map open_key rows))) ≡ cond b (open_of rows) (put_number r.through (open_of rows))
    by true f = f
    by false f = keys_put (record { key = r.through; place = p }) (slots_from (suc p) (map open_key rows)) (slots_sorted (suc p) (map open_key rows)) ∙ ap (put_number r.through) f

pub keys_opens : (ss : List Slot) (rows : List Row) → ss ≡ opens_of rows → keys ss ≡ open_of rows
keys_opens ss rows e = ap keys e ∙ keys_from 0 rows

pub keys_rise : (ss : List Slot) (rows : List Row) → ss ≡ opens_of rows → DoRise (keys ss)
keys_rise ss rows e = subst DoRise (sym (keys_opens ss rows e)) (open_rises rows)

pub key_first : (ss : List Slot) (d : Slot) (n : ℕ) → 0 < length ss → get_or (keys ss) 0 n ≡ (get_or ss 0 d).key
key_first [] d n l = absurd (omega (arith, l))
key_first (s ∷ ss) d n l = refl

pub keys_length : (ss : List Slot) → length (keys ss) ≡ length ss
keys_length [] = refl
keys_length (s ∷ ss) = ap suc (keys_length ss)

pub none_of : (ss : List Slot) → length ss < 1 → ss ≡ []
none_of [] l = refl
none_of (s ∷ ss) l = absurd (omega (arith, l))

-- ---- the lowest pair

open_some : (r : Row) (k : ℕ) → open_key r ≡ Some k → (r.finished ≡ false) × (r.through ≡ k)
open_some r k h = by r.finished refl h
  where
    by : (b : Bool) → r.finished ≡ b → cond b None (Some r.through) ≡ Some k → (r.finished ≡ false) × (r.through ≡ k)
    by true q g = absurd cc
    by false q g = (q, cc)

open_is : (r : Row) → r.finished ≡ false → open_key r ≡ Some r.through
open_is r h = ap (λ b. cond b None (Some r.through)) h

open_there : (rows : List Row) (a : Row) (i : Contains rows a) → a.finished ≡ false → Contains (opens_of rows) (record { key = a.through; place = i.0 })
open_there rows a i u = slot_there (map open_key rows) i.0 a.through (omega (arith, i.1, length_keys open_key rows)) (key_at open_key rows i.0 a i.1 (sym i.2) ∙ open_is a u)

head_inside : (rows : List Row) (s : Slot) → Contains (opens_of rows) s → s.place < length rows
head_inside rows s i = let u = in_slots 0 (map open_key rows) s i in omega (arith, u.inside, u.place, length_keys open_key rows)

pub place_inside : (rows : List Row) (ss : List Slot) (i : ℕ) (d : Slot) → ss ≡ opens_of rows → i < length ss → (get_or ss i d).place < length rows
place_inside rows ss i d e l = head_inside rows (get_or ss i d) (subst (λ z. Contains z (get_or ss i d)) e (at_in ss i d l))

pub all_finished : (rows : List Row) → opens_of rows ≡ [] → (r : Row) → Contains rows r → r.finished ≡ true
all_finished rows e r i =
    ⊎_elim
    (λ (h : r.finished ≡ true). h)
    (λ (h : r.finished ≡ false). absurd (in_nil (record { key = r.through; place = i.0 }) (subst (λ z. Contains z (record { key = r.through; place = i.0 })) e (open_there rows r i h))))
    (cases_Bool r.finished)

pub lowest_is : (rows : List Row) (ss : List Slot) (s : Slot) (x : Row) → IsOrdered rows → ss ≡ opens_of rows → 0 < length ss → s ≡ get_or ss 0 s → x ≡ get_or rows s.place x → IsLowestPair rows s.key x.token
lowest_is rows ss s x h e l is its =
    let there : Contains (opens_of rows) s = subst (λ z. Contains z s) e (0, l, sym is) in
    let u = in_slots 0 (map open_key rows) s there in
    let same : u.index ≡ s.place = omega (arith, u.place) in
    let inside : s.place < length rows = head_inside rows s there in
    let open_x = open_some x s.key (sym (key_at open_key rows s.place x inside its) ∙ subst (λ z. get_or (map open_key rows) z None ≡ Some s.key) same u.key) in
    record {
      row = x;
      there = row_there rows s.place x inside its;
      unfinished = open_x.0;
      its_through = open_x.1;
      its_token = refl;
      least = λ a i k. by a i (first (record { key = a.through; place = i.0 }) (subst (λ z. Contains z (record { key = a.through; place = i.0 })) (sym e) (open_there rows a i k))) inside;
    }
  where
    sorted : AreSorted ss
    sorted = subst AreSorted (sym e) (slots_sorted 0 (map open_key rows))

    first : (b : Slot) → Contains ss b → Before s b
    first b i = subst (λ z. Before z b) (sym is) (subst (λ z. Before (get_or ss 0 s) z) i.2 (subst (λ z. Before (get_or ss 0 s) z) (at_any ss i.0 s b i.1) (sorted_at ss 0 i.0 s sorted (omega arith) i.1)))

    by : (a : Row) (i : Contains rows a) → Before s (record { key = a.through; place = i.0 }) → s.place < length rows → (s.key < a.through) ⊎ ((s.key ≡ a.through) × ((x.token ≡ a.token) ⊎ (slice_cmp nat_cmp x.token a.token ≡ Less)))
    by a i (inl m) n = inl m
    by a i (inr m) n = inr (
      m.0,
      ⊎_elim
          (λ (o : s.place < i.0). inr (subst (λ (z : Row). slice_cmp nat_cmp z.token a.token ≡ Less) (row_any rows s.place a x n ∙ sym its) (subst (λ (z : Row). slice_cmp nat_cmp (get_or rows s.place a).token z.token ≡ Less) i.2 (ordered_at rows h s.place i.0 a o i.1))))
          (λ (o : i.0 ≤ s.place). let one : i.0 ≡ s.place = omega (arith, o, m.1) in inl (ap (λ (z : Row). z.token) (its ∙ row_any rows s.place x a n ∙ subst (λ z. get_or rows z a ≡ a) one i.2)))
          (cases_lt s.place i.0),
    )
      where
        row_any : (xs : List Row) (k : ℕ) (e d : Row) → k < length xs → get_or xs k e ≡ get_or xs k d
        row_any [] k e d n = absurd (omega (arith, n))
        row_any (y ∷ xs) zero e d n = refl
        row_any (y ∷ xs) (suc k) e d n = row_any xs k e d (omega (arith, n))

-- ---- which rows may be read

missing_have : (rows : List Row) (ts : List (List ℕ)) → ((have_ended rows ts ≡ true) × (missing (has_ended rows) ts ≡ None)) ⊎ ((have_ended rows ts ≡ false) × (n : ℕ) × (missing (has_ended rows) ts ≡ Some n))
missing_have rows [] = inl (refl, refl)
missing_have rows (t ∷ ts) = by (has_ended rows t) (missing_have rows ts)
  where
    by : (b : Bool) → ((have_ended rows ts ≡ true) × (missing (has_ended rows) ts ≡ None)) ⊎ ((have_ended rows ts ≡ false) × (n : ℕ) × (missing (has_ended rows) ts ≡ Some n)) → (((b && have_ended rows ts) ≡ true) × (cond b (missing (has_ended rows) ts) (Some (token_number t)) ≡ None)) ⊎ (((b && have_ended rows ts) ≡ false) × (n : ℕ) × (cond b (missing (has_ended rows) ts) (Some (token_number t)) ≡ Some n))
    by true f = f
    by false f = inr (refl, token_number t, refl)

free_reads : (rows : List Row) (r : Row) → free_key (has_ended rows) r ≡ cond (may_read rows r) (Some r.tries) None
free_reads rows r = by r.finished r.leased (missing_have rows r.parents)
  where
    by : (a b : Bool) → ((have_ended rows r.parents ≡ true) × (missing (has_ended rows) r.parents ≡ None)) ⊎ ((have_ended rows r.parents ≡ false) × (n : ℕ) × (missing (has_ended rows) r.parents ≡ Some n)) → cond a None (cond b None (tries_if (missing (has_ended rows) r.parents) r)) ≡ cond (not a && not b && have_ended rows r.parents) (Some r.tries) None
    by true b f = refl
    by false true f = refl
    by false false (inl e) = ap (λ z. tries_if z r) e.1 ∙ sym (ap (λ c. cond c (Some r.tries) None) e.0)
    by false false (inr e) = ap (λ z. tries_if z r) e.2 ∙ sym (ap (λ c. cond c (Some r.tries) None) e.0)

-- ---- the fewest tries

head_key : List Slot → Option ℕ
head_key [] = None
head_key (s ∷ ss) = Some s.key

head_put : (s : Slot) (ss : List Slot) → head_key (put_slot s ss) ≡ fewer (head_key ss) s.key
unfolding head_key
head_put s [] = refl
head_put s (a ∷ ss) = by (slot_le s a) refl
  where
    low : Before s a → s.key ≡ min a.key s.key
    low (inl l) = omega (arith, l)
    low (inr l) = omega (arith, l.0)

    high : Under a s → a.key ≡ min a.key s.key
    high (inl l) = omega (arith, l)
    high (inr l) = omega (arith, l.0)

    by : (b : Bool) → slot_le s a ≡ b → head_key (cond b (s ∷ a ∷ ss) (a ∷ put_slot s ss)) ≡ Some (min a.key s.key)
    by true q = ap Some (low (le_true s a q))
    by false q = ap Some (high (le_false s a q))

both : Option ℕ → Option ℕ → Option ℕ
both None o = o
both (Some b) None = Some b
both (Some b) (Some m) = Some (min b m)

both_none : (o : Option ℕ) → both o None ≡ o
unfolding both
both_none None = refl
both_none (Some b) = refl

both_more : (o p : Option ℕ) (n : ℕ) → both (fewer o n) p ≡ both o (fewer p n)
unfolding both
both_more None None n = refl
both_more None (Some m) n = ap Some (omega arith)
both_more (Some b) None n = refl
both_more (Some b) (Some m) n = ap Some (omega arith)

module _ (all : List Row) where
  slots : ℕ → List Row → List Slot
  slots p rows = slots_from p (map (free_key (has_ended all)) rows)

  fewest_at : (best : Option ℕ) (p : ℕ) (rows : List Row) → least_behind best (map (λ (r : Row). r.tries) (filter (may_read all) rows)) ≡ both best (head_key (slots p rows))
  unfolding slots head_key
  fewest_at best p [] = sym (both_none best)
  fewest_at best p (r ∷ rows) = by (may_read all r) refl (λ o. fewest_at o (suc p) rows)
    where
      rest : List Slot
      rest = slots (suc p) rows

      by : (b : Bool) → may_read all r ≡ b → ((o : Option ℕ) → least_behind o (map (λ (z : Row). z.tries) (filter (may_read all) rows)) ≡ both o (head_key (slots (suc p) rows))) → least_behind best (map (λ (z : Row). z.tries) (cond b (r ∷ filter (may_read all) rows) (filter (may_read all) rows))) ≡ both best (head_key (put_key (free_key (has_ended all) r) p (slots (suc p) rows)))
      by true q f =
          f (fewer best r.tries)
          ∙ both_more best (head_key (slots (suc p) rows)) r.tries
          ∙ sym (ap (both best) (ap (λ z. head_key (put_key z p (slots (suc p) rows))) (free_reads all r ∙ ap (λ c. cond c (Some r.tries) None) q) ∙ head_put (record { key = r.tries; place = p }) (slots (suc p) rows)))
      by false q f = f best ∙ sym (ap (λ z. both best (head_key (put_key z p (slots (suc p) rows)))) (free_reads all r ∙ ap (λ c. cond c (Some r.tries) None) q))

-- ---- whose turn it is

with_put : (n : ℕ) (s : Slot) (ss : List Slot) → ((a : Slot) → Contains ss a → s.place < a.place) → with_key n (put_slot s ss) ≡ cond (eqb s.key n) (s ∷ with_key n ss) (with_key n ss)
with_put n s [] h = refl
with_put n s (a ∷ ss) h = by (slot_le s a) refl (with_put n s ss (λ b i. h b (in_tail a b ss i)))
  where
    less : Under a s → a.key < s.key
    less (inl l) = l
    less (inr l) = let m = h a (in_head a ss) in absurd (omega (arith, l.1, m))

    later : (b : Bool) → eqb s.key n ≡ b → a.key < s.key → with_key n (put_slot s ss) ≡ cond b (s ∷ with_key n ss) (with_key n ss) → cond (eqb a.key n) (a ∷ with_key n (put_slot s ss)) (with_key n (put_slot s ss)) ≡ cond b (s ∷ cond (eqb a.key n) (a ∷ with_key n ss) (with_key n ss)) (cond (eqb a.key n) (a ∷ with_key n ss) (with_key n ss))
    later true q l f =
        let e = eqb-true s.key n q in
        let other = not_eq a.key n (λ g. omega (arith, l, e, g)) in
        ap (λ c. cond c (a ∷ with_key n (put_slot s ss)) (with_key n (put_slot s ss))) other ∙ f ∙ sym (ap (λ c. s ∷ cond c (a ∷ with_key n ss) (with_key n ss)) other)
    later false q l f = ap (λ z. cond (eqb a.key n) (a ∷ z) z) f

    by : (b : Bool) → slot_le s a ≡ b → with_key n (put_slot s ss) ≡ cond (eqb s.key n) (s ∷ with_key n ss) (with_key n ss) → with_key n (cond b (s ∷ a ∷ ss) (a ∷ put_slot s ss)) ≡ cond (eqb s.key n) (s ∷ with_key n (a ∷ ss)) (with_key n (a ∷ ss))
    by true q f = refl
    by false q f = later (eqb s.key n) refl (less (le_false s a q)) f

abbrev pub slot_places : List Slot → List ℕ
slot_places ss = map (λ s. s.place) ss

chosen_at : (all : List Row) (n p : ℕ) (rows : List Row) → places (is_chosen all n) p rows ≡ slot_places (with_key n (slots_from p (map (free_key (has_ended all)) rows)))
chosen_at all n p [] = refl
chosen_at all n p (r ∷ rows) = by (may_read all r) refl (chosen_at all n (suc p) rows)
  where
    rest : List Slot
    rest = slots_from (suc p) (map (free_key (has_ended all)) rows)

    later : (a : Slot) → Contains (slots_from (suc p) (map (free_key (has_ended all)) rows)) a → p < a.place
    later a i = let u = in_slots (suc p) (map (free_key (has_ended all)) rows) a i in omega (arith, u.place)

    here : (b : Bool) → places (is_chosen all n) (suc p) rows ≡ slot_places (with_key n (slots_from (suc p) (map (free_key (has_ended all)) rows))) → cond b (p ∷ places (is_chosen all n) (suc p) rows) (places (is_chosen all n) (suc p) rows) ≡ slot_places (cond b (record { key = r.tries; place = p } ∷ with_key n (slots_from (suc p) (map (free_key (has_ended all)) rows))) (with_key n (slots_from (suc p) (map (free_key (has_ended all)) rows))))
    here true f = ap (λ z. p ∷ z) f
    here false f = f

    by : (b : Bool) → may_read all r ≡ b → places (is_chosen all n) (suc p) rows ≡ slot_places (with_key n (slots_from (suc p) (map (free_key (has_ended all)) rows))) → cond (b && eqb r.tries n) (p ∷ places (is_chosen all n) (suc p) rows) (places (is_chosen all n) (suc p) rows) ≡ slot_places (with_key n (put_key (free_key (has_ended all) r) p (slots_from (suc p) (map (free_key (has_ended all)) rows))))
    by true q f =
        here (eqb r.tries n) f
        ∙ sym (ap slot_places (ap (λ z. with_key n (put_key z p (slots_from (suc p) (map (free_key (has_ended all)) rows)))) (free_reads all r ∙ ap (λ c. cond c (Some r.tries) None) q) ∙ with_put n (record { key = r.tries; place = p }) (slots_from (suc p) (map (free_key (has_ended all)) rows)) later))
    by false q f = f ∙ sym (ap (λ z. slot_places (with_key n (put_key z p (slots_from (suc p) (map (free_key (has_ended all)) rows))))) (free_reads all r ∙ ap (λ c. cond c (Some r.tries) None) q))

turn_with : (rows : List Row) (order : ℕ) (ss : List Slot) (o : Option ℕ) → o ≡ head_key ss → ((n : ℕ) → places (is_chosen rows n) 0 rows ≡ slot_places (with_key n ss)) → ready_with rows o order ≡ first_turn ss order
unfolding head_key
turn_with rows order [] o e h = ap (λ z. ready_with rows z order) e
turn_with rows order (s ∷ ss) o e h = ap (λ z. ready_with rows z order) e ∙ ap (λ z. turn z order) (h s.key)

pub turn_ready : (rows : List Row) (ss : List Slot) (order : ℕ) → ss ≡ free_of (has_ended rows) rows → first_turn ss order ≡ ready_place rows order
unfolding slots both
turn_ready rows ss order e =
    ap (λ z. first_turn z order) e
    ∙ sym (turn_with rows order (free_of (has_ended rows) rows) (fewest_tries rows rows) (fewest_at rows None 0 rows) (λ n. chosen_at rows n 0 rows))

-- ---- the slots with the number of the first

take_front : (n : ℕ) (ss : List Slot) (c : ℕ) → c ≤ length ss → ((k : ℕ) (d : Slot) → k < c → eqb (get_or ss k d).key n ≡ true) → ((k : ℕ) (d : Slot) → k < length ss → c ≤ k → eqb (get_or ss k d).key n ≡ false) → with_key n ss ≡ take c ss
take_front n [] zero l h o = refl
take_front n [] (suc c) l h o = absurd (omega (arith, l))
take_front n (s ∷ ss) zero l h o = ap (λ b. cond b (s ∷ with_key n ss) (with_key n ss)) (o 0 s (omega arith) (omega arith)) ∙ take_front n ss zero (omega arith) (λ k d m. absurd (omega (arith, m))) (λ k d m i. o (suc k) d (omega (arith, m)) (omega arith))
take_front n (s ∷ ss) (suc c) l h o = ap (λ b. cond b (s ∷ with_key n ss) (with_key n ss)) (h 0 s (omega arith)) ∙ ap (λ z. s ∷ z) (take_front n ss c (omega (arith, l)) (λ k d m. h (suc k) d (omega (arith, m))) (λ k d m i. o (suc k) d (omega (arith, m)) (omega (arith, i))))

element_front : (ss : List Slot) (c j : ℕ) (d : Slot) → j < c → c ≤ length ss → element (slot_places (take c ss)) j ≡ Some (get_or ss j d).place
element_front [] c j d l m = absurd (omega (arith, l, m))
element_front (s ∷ ss) zero j d l m = absurd (omega (arith, l))
element_front (s ∷ ss) (suc c) zero d l m = refl
element_front (s ∷ ss) (suc c) (suc j) d l m = let back : suc j - 1 ≡ j = omega arith in ap (λ b. cond b (Some s.place) (element (slot_places (take c ss)) (suc j - 1))) (not_eq (suc j) 0 (λ e. omega (arith, e))) ∙ ap (element (slot_places (take c ss))) back ∙ element_front ss c j d (omega (arith, l)) (omega (arith, m))

length_front : (ss : List Slot) (c : ℕ) → c ≤ length ss → length (slot_places (take c ss)) ≡ c
length_front ss zero l = refl
length_front [] (suc c) l = absurd (omega (arith, l))
length_front (s ∷ ss) (suc c) l = ap suc (length_front ss c (omega (arith, l)))

turn_at : (xs : List ℕ) (order c : ℕ) → length xs ≡ c → 0 < c → turn xs order ≡ element xs (order % c)
turn_at [] order c e l = absurd (omega (arith, e, l))
turn_at (x ∷ xs) order c e l = ap (λ z. element (x ∷ xs) (order % z)) e

pub first_count : (ss : List Slot) (s : Slot) (c : ℕ) → 0 < length ss → s ≡ get_or ss 0 s → ((k : ℕ) (d : Slot) → k < length ss → c ≤ k → s.key < (get_or ss k d).key) → 0 < c
first_count ss s zero l e over = let o = over 0 s l (omega arith) in let q = ap (λ (z : Slot). z.key) e in absurd (omega (arith, o, q))
first_count ss s (suc c) l e over = omega arith

first_is : (ss : List Slot) (s : Slot) (order : ℕ) → 0 < length ss → s ≡ get_or ss 0 s → first_turn ss order ≡ turn (slot_places (with_key s.key ss)) order
first_is [] s order l e = absurd (omega (arith, l))
first_is (a ∷ ss) s order l e = ap (λ (z : Slot). turn (slot_places (with_key z.key (a ∷ ss))) order) (sym e)

turned : (ss : List Slot) (s d : Slot) (order c : ℕ) → AreSorted ss → 0 < length ss → s ≡ get_or ss 0 s → c ≤ length ss → ((k : ℕ) (d : Slot) → k < c → (get_or ss k d).key ≤ s.key) → ((k : ℕ) (d : Slot) → k < length ss → c ≤ k → s.key < (get_or ss k d).key) → Some (get_or ss (order % c) d).place ≡ first_turn ss order
turned ss s d order c sorted l e m below over =
    let some : 0 < c = first_count ss s c l e over in
    let inside : order % c < c = mod_below order c some in
    sym (
    first_is ss s order l e
    ∙ ap (λ z. turn (slot_places z) order) (take_front s.key ss c m same other)
    ∙ turn_at (slot_places (take c ss)) order c (length_front ss c m) some
    ∙ element_front ss c (order % c) d inside m
    )
  where
    low : (k : ℕ) (d : Slot) → Before (get_or ss 0 d) (get_or ss k d) → s.key ≡ (get_or ss 0 d).key → (get_or ss k d).key ≤ s.key → (get_or ss k d).key ≡ s.key
    low k d (inl b) q o = absurd (omega (arith, b, q, o))
    low k d (inr b) q o = sym (q ∙ b.0)

    same : (k : ℕ) (d : Slot) → k < c → eqb (get_or ss k d).key s.key ≡ true
    same k d o =
        let inside : k < length ss = omega (arith, o, m) in
        eq-eqb (get_or ss k d).key s.key (low k d (sorted_at ss 0 k d sorted (omega arith) inside) (ap (λ (z : Slot). z.key) (e ∙ at_any ss 0 s d l)) (below k d o))

    other : (k : ℕ) (d : Slot) → k < length ss → c ≤ k → eqb (get_or ss k d).key s.key ≡ false
    other k d o i = let u = over k d o i in not_eq (get_or ss k d).key s.key (λ q. omega (arith, u, q))

pub first_turned : (ss : List Slot) (d : Slot) (order c : ℕ) → AreSorted ss → 0 < length ss → c ≤ length ss → ((k : ℕ) (e : Slot) → k < c → (get_or ss k e).key ≤ (get_or ss 0 d).key) → ((k : ℕ) (e : Slot) → k < length ss → c ≤ k → (get_or ss 0 d).key < (get_or ss k e).key) → Some (get_or ss (order % c) d).place ≡ first_turn ss order
first_turned ss d order c sorted l m below over = turned ss (get_or ss 0 d) d order c sorted l (at_any ss 0 d (get_or ss 0 d) l) m below over
