-- Rows of which the first ones stand where they do once a token has ended, and the others where they did before.
use Rattle.std.proofs.Common.{◌≡◌, ◌⊎◌, ℕ, zero, suc, ◌+◌, ◌<◌, ◌≤◌, Bool, true, false, cond, Option, Some, None, List, [], ◌∷◌, length, map, get_or, set, ⊎_elim, inl, inr, sym, refl, ap, ◌∙◌, subst, arith, Contains}
use Rattle.cs_schedule.specs.declared.row.Row.{Row}
use Rattle.cs_schedule.specs.declared.slots.Slot.{Slot}
use Rattle.cs_schedule.specs.declared.index.Index.{Index}
use Rattle.cs_schedule.specs.Board.{same_token, has_ended}
use Rattle.cs_schedule.specs.Index.{AreSorted, put_key, take_slot, slots_from, opens_of, token_number, missing, tries_if, free_key, wait_key, ended_but, IsFirstWith, IsIndexBy, IsIndex}
use Rattle.cs_schedule.proofs.Indexed.{length_keys, key_at}
use Rattle.cs_schedule.proofs.Places.{equal_is}
use Rattle.cs_schedule.proofs.Sorted.{take_slots, put_slots, put_slots_at, slots_less, slots_length, slots_sorted, in_slots, slot_there}

module _ (k g : Row → Option ℕ) where
  pub mixed : ℕ → List Row → List (Option ℕ)
  mixed zero rows = map k rows
  mixed (suc q) [] = []
  mixed (suc q) (r ∷ rows) = g r ∷ mixed q rows

  pub mixed_none : (rows : List Row) → mixed 0 rows ≡ map k rows
  unfolding mixed
  mixed_none rows = refl

  pub mixed_length : (q : ℕ) (rows : List Row) → length (mixed q rows) ≡ length rows
  unfolding mixed
  mixed_length zero rows = length_keys k rows
  mixed_length (suc q) [] = refl
  mixed_length (suc q) (r ∷ rows) = ap suc (mixed_length q rows)

  pub mixed_at : (q p : ℕ) (rows : List Row) (x : Row) → q ≤ p → p < length rows → x ≡ get_or rows p x → get_or (mixed q rows) p None ≡ k x
  unfolding mixed
  mixed_at zero p rows x l m e = key_at k rows p x m e
  mixed_at (suc q) p [] x l m e = absurd (omega (arith, m))
  mixed_at (suc q) zero (r ∷ rows) x l m e = absurd (omega (arith, l))
  mixed_at (suc q) (suc p) (r ∷ rows) x l m e = mixed_at q p rows x (omega (arith, l)) (omega (arith, m)) e

  pub mixed_set : (p : ℕ) (rows : List Row) (x : Row) → p < length rows → x ≡ get_or rows p x → set (mixed p rows) p (g x) ≡ mixed (suc p) rows
  unfolding mixed
  mixed_set p [] x l e = absurd (omega (arith, l))
  mixed_set zero (r ∷ rows) x l e = ap (λ z. g z ∷ map k rows) e
  mixed_set (suc p) (r ∷ rows) x l e = ap (λ z. g r ∷ z) (mixed_set p rows x (omega (arith, l)) e)

  -- where the rows in between stand the same before and then
  pub mixed_on : (q p : ℕ) (rows : List Row) → q ≤ p → ((j : ℕ) (x : Row) → q ≤ j → j < p → j < length rows → x ≡ get_or rows j x → k x ≡ g x) → mixed q rows ≡ mixed p rows
  unfolding mixed
  mixed_on zero zero rows l h = refl
  mixed_on zero (suc p) [] l h = refl
  mixed_on zero (suc p) (r ∷ rows) l h =
      ap (λ z. z ∷ map k rows) (h 0 r (omega arith) (omega arith) (omega arith) refl)
      ∙ ap (λ z. g r ∷ z) (mixed_on zero p rows (omega arith) (λ j x a b c e. h (suc j) x (omega arith) (omega (arith, b)) (omega (arith, c)) e))
  mixed_on (suc q) zero rows l h = absurd (omega (arith, l))
  mixed_on (suc q) (suc p) [] l h = refl
  mixed_on (suc q) (suc p) (r ∷ rows) l h = ap (λ z. g r ∷ z) (mixed_on q p rows (omega (arith, l)) (λ j x a b c e. h (suc j) x (omega (arith, a)) (omega (arith, b)) (omega (arith, c)) e))

  mixed_all : (q : ℕ) (rows : List Row) → length rows ≤ q → mixed q rows ≡ map g rows
  unfolding mixed
  mixed_all zero [] l = refl
  mixed_all (suc q) [] l = refl
  mixed_all zero (r ∷ rows) l = absurd (omega (arith, l))
  mixed_all (suc q) (r ∷ rows) l = ap (λ z. g r ∷ z) (mixed_all q rows (omega (arith, l)))

  pub mixed_done : (q : ℕ) (rows : List Row) → ((j : ℕ) (x : Row) → q ≤ j → j < length rows → x ≡ get_or rows j x → k x ≡ g x) → mixed q rows ≡ map g rows
  mixed_done q rows h = mixed_on q (q + length rows) rows (omega arith) (λ j x a b c e. h j x a c e) ∙ mixed_all (q + length rows) rows (omega arith)

-- ---- a token that ends

missing_either : (t : List ℕ) (rows : List Row) (ts : List (List ℕ)) → (missing (ended_but t rows) ts ≡ Some (token_number t)) ⊎ (missing (ended_but t rows) ts ≡ missing (has_ended rows) ts)
missing_either t rows [] = inr refl
missing_either t rows (u ∷ ts) = by (same_token t u) (has_ended rows u) refl (missing_either t rows ts)
  where
    by : (b c : Bool) → same_token t u ≡ b → (missing (ended_but t rows) ts ≡ Some (token_number t)) ⊎ (missing (ended_but t rows) ts ≡ missing (has_ended rows) ts) → (cond (cond b false c) (missing (ended_but t rows) ts) (Some (token_number u)) ≡ Some (token_number t)) ⊎ (cond (cond b false c) (missing (ended_but t rows) ts) (Some (token_number u)) ≡ cond c (missing (has_ended rows) ts) (Some (token_number u)))
    by true c q f = inl (ap (λ z. Some (token_number z)) (sym (equal_is t u q)))
    by false true q f = f
    by false false q f = inr refl

pub keys_either : (t : List ℕ) (rows : List Row) (r : Row) → (wait_key (ended_but t rows) r ≡ Some (token_number t)) ⊎ ((free_key (ended_but t rows) r ≡ free_key (has_ended rows) r) × (wait_key (ended_but t rows) r ≡ wait_key (has_ended rows) r))
keys_either t rows r = by r.finished (missing_either t rows r.parents)
  where
    by : (b : Bool) → (missing (ended_but t rows) r.parents ≡ Some (token_number t)) ⊎ (missing (ended_but t rows) r.parents ≡ missing (has_ended rows) r.parents) → (cond b None (missing (ended_but t rows) r.parents) ≡ Some (token_number t)) ⊎ ((cond b None (cond r.leased None (tries_if (missing (ended_but t rows) r.parents) r)) ≡ cond b None (cond r.leased None (tries_if (missing (has_ended rows) r.parents) r))) × (cond b None (missing (ended_but t rows) r.parents) ≡ cond b None (missing (has_ended rows) r.parents)))
    by true f = inr (refl, refl)
    by false (inl e) = inl e
    by false (inr e) = inr (ap (λ z. cond r.leased None (tries_if z r)) e, e)

pub waits_not_free : (ended : List ℕ → Bool) (r : Row) (n : ℕ) → wait_key ended r ≡ Some n → free_key ended r ≡ None
waits_not_free ended r n h = by r.finished h
  where
    or_leased : (b : Bool) → cond b None (tries_if (Some n) r) ≡ None
    or_leased true = refl
    or_leased false = refl

    by : (b : Bool) → cond b None (missing ended r.parents) ≡ Some n → cond b None (cond r.leased None (tries_if (missing ended r.parents) r)) ≡ None
    by true k = refl
    by false k = ap (λ z. cond r.leased None (tries_if z r)) k ∙ or_leased r.leased

-- the lists while the rows from q on are still to be woken
pub record IsWaking (q : ℕ) (t : List ℕ) (rows : List Row) (i : Index) : Type 0 where
  pub by_through : i.opens.items ≡ opens_of rows
  pub by_tries : i.free.items ≡ slots_from 0 (mixed (free_key (ended_but t rows)) (free_key (has_ended rows)) q rows)
  pub by_parent : i.waits.items ≡ slots_from 0 (mixed (wait_key (ended_but t rows)) (wait_key (has_ended rows)) q rows)

pub none_woken : (t : List ℕ) (rows : List Row) (i : Index) → IsIndexBy (ended_but t rows) rows i → IsWaking 0 t rows i
none_woken t rows i h = record {
  by_through = h.by_through;
  by_tries = h.by_tries ∙ ap (slots_from 0) (sym (mixed_none (free_key (ended_but t rows)) (free_key (has_ended rows)) rows));
  by_parent = h.by_parent ∙ ap (slots_from 0) (sym (mixed_none (wait_key (ended_but t rows)) (wait_key (has_ended rows)) rows));
}

module _ (t : List ℕ) (rows : List Row) where
  -- a row that waits for the token has its slot
  waiting_there : (q : ℕ) (i : Index) → IsWaking q t rows i → (j : ℕ) (x : Row) → q ≤ j → j < length rows → x ≡ get_or rows j x → wait_key (ended_but t rows) x ≡ Some (token_number t) → Contains i.waits.items (record { key = token_number t; place = j })
  waiting_there q i w j x a l e h =
      let size = mixed_length (wait_key (ended_but t rows)) (wait_key (has_ended rows)) q rows in
      subst (λ z. Contains z (record { key = token_number t; place = j })) (sym w.by_parent)
      (slot_there (mixed (wait_key (ended_but t rows)) (wait_key (has_ended rows)) q rows) j (token_number t) (omega (arith, l, size))
      (mixed_at (wait_key (ended_but t rows)) (wait_key (has_ended rows)) q j rows x a l e ∙ h))

  -- where no slot is left for the token, all are woken
  pub all_woken : (q : ℕ) (i : Index) → IsWaking q t rows i → IsFirstWith i.waits.items (token_number t) q None → IsIndex rows i
  all_woken q i w none =
      let same : (j : ℕ) (x : Row) → q ≤ j → j < length rows → x ≡ get_or rows j x → (free_key (ended_but t rows) x ≡ free_key (has_ended rows) x) × (wait_key (ended_but t rows) x ≡ wait_key (has_ended rows) x) =
      λ j x a l e. ⊎_elim
      (λ (h : wait_key (ended_but t rows) x ≡ Some (token_number t)). absurd (none (record { key = token_number t; place = j }) (waiting_there q i w j x a l e h) refl a))
      (λ (h : (free_key (ended_but t rows) x ≡ free_key (has_ended rows) x) × (wait_key (ended_but t rows) x ≡ wait_key (has_ended rows) x)). h)
      (keys_either t rows x) in
      record {
        by_through = w.by_through;
        by_tries = w.by_tries ∙ ap (slots_from 0) (mixed_done (free_key (ended_but t rows)) (free_key (has_ended rows)) q rows (λ j x a l e. (same j x a l e).0));
        by_parent = w.by_parent ∙ ap (slots_from 0) (mixed_done (wait_key (ended_but t rows)) (wait_key (has_ended rows)) q rows (λ j x a l e. (same j x a l e).1));
      }

  module _ (q p : ℕ) (i : Index) (w : IsWaking q t rows i) (first : IsFirstWith i.waits.items (token_number t) q (Some p)) where
    found_place : p < length rows
    found_place =
        let u = in_slots 0 (mixed (wait_key (ended_but t rows)) (wait_key (has_ended rows)) q rows) (record { key = token_number t; place = p }) (subst (λ z. Contains z (record { key = token_number t; place = p })) w.by_parent first.0) in
        omega (arith, u.inside, u.place, mixed_length (wait_key (ended_but t rows)) (wait_key (has_ended rows)) q rows)

    -- the first one is that of a row
    pub first_inside : p < length rows
    first_inside = found_place

    first_key : (x : Row) → x ≡ get_or rows p x → wait_key (ended_but t rows) x ≡ Some (token_number t)
    first_key x e =
        let u = in_slots 0 (mixed (wait_key (ended_but t rows)) (wait_key (has_ended rows)) q rows) (record { key = token_number t; place = p }) (subst (λ z. Contains z (record { key = token_number t; place = p })) w.by_parent first.0) in
        let same : u.index ≡ p = omega (arith, u.place) in
        sym (mixed_at (wait_key (ended_but t rows)) (wait_key (has_ended rows)) q p rows x first.1 found_place e) ∙ subst (λ z. get_or (mixed (wait_key (ended_but t rows)) (wait_key (has_ended rows)) q rows) z None ≡ Some (token_number t)) same u.key

    between : (j : ℕ) (x : Row) → q ≤ j → j < p → j < length rows → x ≡ get_or rows j x → (free_key (ended_but t rows) x ≡ free_key (has_ended rows) x) × (wait_key (ended_but t rows) x ≡ wait_key (has_ended rows) x)
    between j x a b l e =
        ⊎_elim
        (λ (h : wait_key (ended_but t rows) x ≡ Some (token_number t)). let late = first.2 (record { key = token_number t; place = j }) (waiting_there q i w j x a l e h) refl a in absurd (omega (arith, late, b)))
        (λ (h : (free_key (ended_but t rows) x ≡ free_key (has_ended rows) x) × (wait_key (ended_but t rows) x ≡ wait_key (has_ended rows) x)). h)
        (keys_either t rows x)

    free_now : i.free.items ≡ slots_from 0 (mixed (free_key (ended_but t rows)) (free_key (has_ended rows)) p rows)
    free_now = w.by_tries ∙ ap (slots_from 0) (mixed_on (free_key (ended_but t rows)) (free_key (has_ended rows)) q p rows first.1 (λ j x a b l e. (between j x a b l e).0))

    waits_now : i.waits.items ≡ slots_from 0 (mixed (wait_key (ended_but t rows)) (wait_key (has_ended rows)) p rows)
    waits_now = w.by_parent ∙ ap (slots_from 0) (mixed_on (wait_key (ended_but t rows)) (wait_key (has_ended rows)) q p rows first.1 (λ j x a b l e. (between j x a b l e).1))

    free_none : (x : Row) → x ≡ get_or rows p x → get_or (mixed (free_key (ended_but t rows)) (free_key (has_ended rows)) p rows) p None ≡ None
    free_none x e = mixed_at (free_key (ended_but t rows)) (free_key (has_ended rows)) p p rows x (omega arith) found_place e ∙ waits_not_free (ended_but t rows) x (token_number t) (first_key x e)

    pub free_less : (x : Row) → x ≡ get_or rows p x → length i.free.items < length rows
    free_less x e =
        let size = mixed_length (free_key (ended_but t rows)) (free_key (has_ended rows)) p rows in
        let l = slots_less 0 (mixed (free_key (ended_but t rows)) (free_key (has_ended rows)) p rows) p (omega (arith, found_place, size)) (free_none x e) in
        omega (arith, l, size, ap length free_now)

    pub waits_most : length i.waits.items ≤ length rows
    waits_most =
        let size = mixed_length (wait_key (ended_but t rows)) (wait_key (has_ended rows)) p rows in
        let l = slots_length 0 (mixed (wait_key (ended_but t rows)) (wait_key (has_ended rows)) p rows) in
        omega (arith, l, size, ap length waits_now)

    -- with it, the rows behind it are left
    pub one_woken : (x : Row) (j : Index) → x ≡ get_or rows p x → j.opens.items ≡ i.opens.items → j.free.items ≡ put_key (free_key (has_ended rows) x) p i.free.items → j.waits.items ≡ put_key (wait_key (has_ended rows) x) p (take_slot (record { key = token_number t; place = p }) i.waits.items) → IsWaking (suc p) t rows j
    one_woken x j e opens free waits =
        let free_size = mixed_length (free_key (ended_but t rows)) (free_key (has_ended rows)) p rows in
        let waits_size = mixed_length (wait_key (ended_but t rows)) (wait_key (has_ended rows)) p rows in
        record {
          by_through = opens ∙ w.by_through;
          by_tries =
              free
              ∙ ap (put_key (free_key (has_ended rows) x) p) free_now
              ∙ put_slots_at (mixed (free_key (ended_but t rows)) (free_key (has_ended rows)) p rows) p (free_key (has_ended rows) x) (omega (arith, found_place, free_size)) (free_none x e)
              ∙ ap (slots_from 0) (mixed_set (free_key (ended_but t rows)) (free_key (has_ended rows)) p rows x found_place e);
          by_parent =
              waits
              ∙ ap (λ z. put_key (wait_key (has_ended rows) x) p (take_slot (record { key = token_number t; place = p }) z)) waits_now
              ∙ ap (put_key (wait_key (has_ended rows) x) p) (take_slots (mixed (wait_key (ended_but t rows)) (wait_key (has_ended rows)) p rows) p (Some (token_number t)) (omega (arith, found_place, waits_size)) (mixed_at (wait_key (ended_but t rows)) (wait_key (has_ended rows)) p p rows x (omega arith) found_place e ∙ first_key x e))
              ∙ put_slots (mixed (wait_key (ended_but t rows)) (wait_key (has_ended rows)) p rows) p (wait_key (has_ended rows) x) (omega (arith, found_place, waits_size))
              ∙ ap (slots_from 0) (mixed_set (wait_key (ended_but t rows)) (wait_key (has_ended rows)) p rows x found_place e);
        }

pub first_of : (zs ss : List Slot) (k n from : ℕ) (o : Option ℕ) → zs ≡ ss → k ≡ n → IsFirstWith zs k from o → IsFirstWith ss n from o
first_of zs ss k n from o e q h = subst (λ z. IsFirstWith ss z from o) q (subst (λ z. IsFirstWith z k from o) e h)

pub waking_sorted : (q : ℕ) (t : List ℕ) (rows : List Row) (i : Index) → IsWaking q t rows i → AreSorted i.free.items × AreSorted i.waits.items
waking_sorted q t rows i w = (
  subst AreSorted (sym w.by_tries) (slots_sorted 0 (mixed (free_key (ended_but t rows)) (free_key (has_ended rows)) q rows)),
  subst AreSorted (sym w.by_parent) (slots_sorted 0 (mixed (wait_key (ended_but t rows)) (wait_key (has_ended rows)) q rows)),
)
