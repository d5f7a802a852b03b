-- The ordered lists beside rows that change: which tokens have ended then, and which slots stand.
use Rattle.std.proofs.Common.{◌≡◌, ℕ, zero, suc, ◌<◌, ◌≤◌, Bool, true, false, cond, Option, Some, None, IfSome, List, [], ◌∷◌, length, map, get_or, set, sym, refl, ap, ◌∙◌, subst, arith, Contains}
use Rattle.std.specs.List.{insert}
use Rattle.cs_types.specs.Members.{in_head, in_tail}
use Rattle.cs_schedule.specs.declared.row.Row.{Row}
use Rattle.cs_schedule.specs.declared.slots.Slot.{Slot}
use Rattle.cs_schedule.specs.Board.{IsOrdered, same_token, row_of, is_ended, has_ended, changed_at, leased, fresh}
use Rattle.cs_schedule.specs.Consistent.{put_row}
use Rattle.cs_schedule.specs.Index.{put_key, take_key, slots_from, behind, missing, tries_if, free_key, wait_key, ended_but}
use Rattle.cs_schedule.proofs.Among.{before}
use Rattle.cs_schedule.proofs.Folding.{in_row}
use Rattle.cs_schedule.proofs.Places.{Below, equal_is, above_differs}
use Rattle.cs_schedule.proofs.Sorted.{take_slots, put_slots, slots_less, slots_length, length_set, get_set, in_slots, insert_slots, slot_there}

pub same_fun : (e g : List ℕ → Bool) → ((u : List ℕ) → e u ≡ g u) → e ≡ g
same_fun e g h = λ i u. h u i

pub row_there : (rows : List Row) (i : ℕ) (x : Row) → i < length rows → x ≡ get_or rows i x → Contains rows x
row_there rows i x l e = (i, l, sym e)

-- ---- which tokens have ended

module _ (f : Row → Row) (same : (r : Row) → (f r).token ≡ r.token) where
  ended_changed : (rows : List Row) (i : ℕ) (x : Row) (u : List ℕ) → IsOrdered rows → i < length rows → x ≡ get_or rows i x → has_ended (changed_at f i rows) u ≡ cond (same_token x.token u) (f x).finished (has_ended rows u)
  ended_changed [] i x u h l e = absurd (omega (arith, l))
  ended_changed (r ∷ rows) zero x u h l e =
      subst (λ (z : Row). has_ended (f r ∷ rows) u ≡ cond (same_token z.token u) (f z).finished (has_ended (r ∷ rows) u)) (sym e)
      (ap (λ t. is_ended (cond (same_token t u) (Some (f r)) (row_of rows u))) (same r) ∙ by (same_token r.token u))
    where
      by : (b : Bool) → is_ended (cond b (Some (f r)) (row_of rows u)) ≡ cond b (f r).finished (is_ended (cond b (Some r) (row_of rows u)))
      by true = refl
      by false = refl
  ended_changed (r ∷ rows) (suc i) x u h l e = by (same_token r.token u) refl (ended_changed rows i x u h.1 inside e)
    where
      inside : i < length rows
      inside = omega (arith, l)

      by : (b : Bool) → same_token r.token u ≡ b → has_ended (changed_at f i rows) u ≡ cond (same_token x.token u) (f x).finished (has_ended rows u) → is_ended (cond b (Some r) (row_of (changed_at f i rows) u)) ≡ cond (same_token x.token u) (f x).finished (is_ended (cond b (Some r) (row_of rows u)))
      by true q k =
          let its = equal_is r.token u q in
          let low : Below u x.token = subst (λ t. Below t x.token) its (h.0 x (row_there rows i x inside e)) in
          ap (λ z. cond z (f x).finished r.finished) (sym (above_differs x.token u low))
      by false q k = k

  -- where the row stays as finished as it is, the same ones have
  pub ended_kept : (rows : List Row) (i : ℕ) (x : Row) → IsOrdered rows → i < length rows → x ≡ get_or rows i x → (f x).finished ≡ x.finished → has_ended (changed_at f i rows) ≡ has_ended rows
  ended_kept rows i x h l e k = same_fun (has_ended (changed_at f i rows)) (has_ended rows) (λ u. ended_changed rows i x u h l e ∙ by u (same_token x.token u) refl)
    where
      by : (u : List ℕ) (b : Bool) → same_token x.token u ≡ b → cond b (f x).finished (has_ended rows u) ≡ has_ended rows u
      by u true q = k ∙ sym (ap is_ended (in_row rows u x h (row_there rows i x l e) (equal_is x.token u q)))
      by u false q = refl

  -- where it was not finished, those had ended that have now, but for its token
  pub ended_without : (rows : List Row) (i : ℕ) (x : Row) → IsOrdered rows → i < length rows → x ≡ get_or rows i x → x.finished ≡ false → has_ended rows ≡ ended_but x.token (changed_at f i rows)
  ended_without rows i x h l e k = same_fun (has_ended rows) (ended_but x.token (changed_at f i rows)) (λ u. by u (same_token x.token u) refl (ended_changed rows i x u h l e))
    where
      by : (u : List ℕ) (b : Bool) → same_token x.token u ≡ b → has_ended (changed_at f i rows) u ≡ cond b (f x).finished (has_ended rows u) → has_ended rows u ≡ cond b false (has_ended (changed_at f i rows) u)
      by u true q g = ap is_ended (in_row rows u x h (row_there rows i x l e) (equal_is x.token u q)) ∙ k
      by u false q g = sym g

none_there : (rows : List Row) (u : List ℕ) → ((a : Row) → Contains rows a → same_token a.token u ≡ false) → row_of rows u ≡ None
none_there [] u h = refl
none_there (a ∷ rows) u h = ap (λ b. cond b (Some a) (row_of rows u)) (h a (in_head a rows)) ∙ none_there rows u (λ y i. h y (in_tail a y rows i))

ended_one : (r : Row) (rows : List Row) (u : List ℕ) → IsOrdered rows → IsOrdered (put_row r rows) → r.finished ≡ false → has_ended (put_row r rows) u ≡ has_ended rows u
ended_one r [] u h o k = by (same_token r.token u)
  where
    by : (b : Bool) → is_ended (cond b (Some r) None) ≡ false
    by true = k
    by false = refl
ended_one r (a ∷ rows) u h o k = by (before r.token a) o (λ (g : IsOrdered (put_row r rows)). ended_one r rows u h.1 g k)
  where
    front : (b : Bool) → same_token r.token u ≡ b → IsOrdered (r ∷ a ∷ rows) → is_ended (cond b (Some r) (row_of (a ∷ rows) u)) ≡ has_ended (a ∷ rows) u
    front true q g = k ∙ sym (ap is_ended (none_there (a ∷ rows) u (λ y i. above_differs y.token u (subst (λ t. Below t y.token) (equal_is r.token u q) (g.0 y i)))))
    front false q g = refl

    later : (b : Bool) → has_ended (put_row r rows) u ≡ has_ended rows u → is_ended (cond b (Some a) (row_of (put_row r rows) u)) ≡ is_ended (cond b (Some a) (row_of rows u))
    later true f = refl
    later false f = f

    by : (b : Bool) → IsOrdered (cond b (r ∷ a ∷ rows) (a ∷ put_row r rows)) → (IsOrdered (put_row r rows) → has_ended (put_row r rows) u ≡ has_ended rows u) → has_ended (cond b (r ∷ a ∷ rows) (a ∷ put_row r rows)) u ≡ has_ended (a ∷ rows) u
    by true g f = front (same_token r.token u) refl g
    by false g f = later (same_token a.token u) (f g.1)

-- a new row that is not finished ends no token
pub ended_put : (r : Row) (rows : List Row) → IsOrdered rows → IsOrdered (put_row r rows) → r.finished ≡ false → has_ended (put_row r rows) ≡ has_ended rows
ended_put r rows h o k = same_fun (has_ended (put_row r rows)) (has_ended rows) (λ u. ended_one r rows u h o k)

fresh_one : (rows : List Row) (u : List ℕ) → has_ended (map fresh rows) u ≡ has_ended rows u
fresh_one [] u = refl
fresh_one (r ∷ rows) u = by (same_token r.token u) (fresh_one rows u)
  where
    by : (b : Bool) → has_ended (map fresh rows) u ≡ has_ended rows u → is_ended (cond b (Some (fresh r)) (row_of (map fresh rows) u)) ≡ is_ended (cond b (Some r) (row_of rows u))
    by true f = refl
    by false f = f

pub ended_fresh : (rows : List Row) → has_ended (map fresh rows) ≡ has_ended rows
ended_fresh rows = same_fun (has_ended (map fresh rows)) (has_ended rows) (fresh_one rows)

-- ---- numbers of rows

pub length_keys : (k : Row → Option ℕ) (rows : List Row) → length (map k rows) ≡ length rows
length_keys k [] = refl
length_keys k (r ∷ rows) = ap suc (length_keys k rows)

pub key_at : (k : Row → Option ℕ) (rows : List Row) (i : ℕ) (x : Row) → i < length rows → x ≡ get_or rows i x → get_or (map k rows) i None ≡ k x
key_at k [] i x l e = absurd (omega (arith, l))
key_at k (r ∷ rows) zero x l e = ap k (sym e)
key_at k (r ∷ rows) (suc i) x l e = key_at k rows i x (omega (arith, l)) e

pub keys_changed : (k : Row → Option ℕ) (f : Row → Row) (rows : List Row) (i : ℕ) (x : Row) → i < length rows → x ≡ get_or rows i x → map k (changed_at f i rows) ≡ set (map k rows) i (k (f x))
keys_changed k f [] i x l e = absurd (omega (arith, l))
keys_changed k f (r ∷ rows) zero x l e = ap (λ z. k (f z) ∷ map k rows) (sym e)
keys_changed k f (r ∷ rows) (suc i) x l e = ap (λ z. k r ∷ z) (keys_changed k f rows i x (omega (arith, l)) e)

pub keys_kept : (k : Row → Option ℕ) (f : Row → Row) → ((r : Row) → k (f r) ≡ k r) → (rows : List Row) (i : ℕ) → map k (changed_at f i rows) ≡ map k rows
keys_kept k f h [] i = refl
keys_kept k f h (r ∷ rows) zero = ap (λ z. z ∷ map k rows) (h r)
keys_kept k f h (r ∷ rows) (suc i) = ap (λ z. k r ∷ z) (keys_kept k f h rows i)

pub keys_mapped : (k : Row → Option ℕ) (f : Row → Row) → ((r : Row) → k (f r) ≡ k r) → (rows : List Row) → map k (map f rows) ≡ map k rows
keys_mapped k f h [] = refl
keys_mapped k f h (r ∷ rows) = λ i. h r i ∷ keys_mapped k f h rows i

pub keys_inserted : (k : Row → Option ℕ) (rows : List Row) (i : ℕ) (r : Row) → i ≤ length rows → map k (insert rows i r) ≡ insert (map k rows) i (k r)
keys_inserted k rows zero r l = refl
keys_inserted k [] (suc i) r l = absurd (omega (arith, l))
keys_inserted k (a ∷ rows) (suc i) r l = ap (λ z. k a ∷ z) (keys_inserted k rows i r (omega (arith, l)))

pub set_inserted : (os : List (Option ℕ)) (i : ℕ) (o q : Option ℕ) → i ≤ length os → set (insert os i o) i q ≡ insert os i q
set_inserted os zero o q l = refl
set_inserted [] (suc i) o q l = absurd (omega (arith, l))
set_inserted (x ∷ os) (suc i) o q l = ap (λ z. x ∷ z) (set_inserted os i o q (omega (arith, l)))

pub length_inserted : (os : List (Option ℕ)) (i : ℕ) (o : Option ℕ) → i ≤ length os → length (insert os i o) ≡ suc (length os)
length_inserted os zero o l = refl
length_inserted [] (suc i) o l = absurd (omega (arith, l))
length_inserted (x ∷ os) (suc i) o l = ap suc (length_inserted os i o (omega (arith, l)))

-- ---- slots of rows, by any number

module _ (k : Row → Option ℕ) (rows : List Row) where
  -- a row's slot is there
  pub its_there : (i : ℕ) (x : Row) (n : ℕ) → i < length rows → x ≡ get_or rows i x → k x ≡ Some n → Contains (slots_from 0 (map k rows)) (record { key = n; place = i })
  its_there i x n l e q = slot_there (map k rows) i n (omega (arith, l, length_keys k rows)) (key_at k rows i x l e ∙ q)

  pub if_there : (i : ℕ) (x : Row) (o : Option ℕ) → i < length rows → x ≡ get_or rows i x → o ≡ k x → IfSome o (λ n. Contains (slots_from 0 (map k rows)) (record { key = n; place = i }))
  if_there i x None l e q = tt
  if_there i x (Some n) l e q = its_there i x n l e (sym q)

  -- all places are those of rows
  pub places_inside : (s : Slot) → Contains (slots_from 0 (map k rows)) s → s.place < length rows
  places_inside s i = let u = in_slots 0 (map k rows) s i in omega (arith, u.inside, u.place, length_keys k rows)

  pub at_most : length (slots_from 0 (map k rows)) ≤ length rows
  at_most = let l = slots_length 0 (map k rows) in omega (arith, l, length_keys k rows)

  -- a row's slot is taken out
  pub its_taken : (i : ℕ) (x : Row) → i < length rows → x ≡ get_or rows i x → take_key (k x) i (slots_from 0 (map k rows)) ≡ slots_from 0 (set (map k rows) i None)
  its_taken i x l e = take_slots (map k rows) i (k x) (omega (arith, l, length_keys k rows)) (key_at k rows i x l e)

  pub less_taken : (i : ℕ) → i < length rows → length (slots_from 0 (set (map k rows) i None)) < length rows
  less_taken i l =
      let same = length_set (map k rows) i None in
      let m = slots_less 0 (set (map k rows) i None) i (omega (arith, l, same, length_keys k rows)) (get_set (map k rows) i None (omega (arith, l, length_keys k rows))) in
      omega (arith, m, same, length_keys k rows)

  -- and put again as the row is changed
  pub its_put : (f : Row → Row) (i : ℕ) (x : Row) → i < length rows → x ≡ get_or rows i x → put_key (k (f x)) i (slots_from 0 (set (map k rows) i None)) ≡ slots_from 0 (map k (changed_at f i rows))
  its_put f i x l e = put_slots (map k rows) i (k (f x)) (omega (arith, l, length_keys k rows)) ∙ ap (slots_from 0) (sym (keys_changed k f rows i x l e))

  -- where it has none then, it is not
  pub its_gone : (f : Row → Row) (i : ℕ) (x : Row) → i < length rows → x ≡ get_or rows i x → k (f x) ≡ None → take_key (k x) i (slots_from 0 (map k rows)) ≡ slots_from 0 (map k (changed_at f i rows))
  its_gone f i x l e q = its_taken i x l e ∙ ap (λ o. slots_from 0 (set (map k rows) i o)) (sym q) ∙ ap (slots_from 0) (sym (keys_changed k f rows i x l e))

  -- way is made for a new row
  pub way : (i : ℕ) → i ≤ length rows → map (behind i) (slots_from 0 (map k rows)) ≡ slots_from 0 (insert (map k rows) i None)
  way i l = insert_slots (map k rows) i (omega (arith, l, length_keys k rows))

  pub less_way : (i : ℕ) → i ≤ length rows → length (slots_from 0 (insert (map k rows) i None)) < suc (length rows)
  less_way i l =
      let inside : i ≤ length (map k rows) = omega (arith, l, length_keys k rows) in
      let same = length_inserted (map k rows) i None inside in
      let m = slots_less 0 (insert (map k rows) i None) i (omega (arith, inside, same)) (at (map k rows) i inside) in
      omega (arith, m, same, length_keys k rows)
    where
      at : (os : List (Option ℕ)) (i : ℕ) → i ≤ length os → get_or (insert os i None) i None ≡ None
      at os zero l = refl
      at [] (suc i) l = absurd (omega (arith, l))
      at (x ∷ os) (suc i) l = at os i (omega (arith, l))

  pub its_new : (r : Row) (i : ℕ) → i ≤ length rows → put_key (k r) i (slots_from 0 (insert (map k rows) i None)) ≡ slots_from 0 (map k (insert rows i r))
  its_new r i l =
      let inside : i ≤ length (map k rows) = omega (arith, l, length_keys k rows) in
      let more = length_inserted (map k rows) i None inside in
      ap (λ z. put_key (k r) i (slots_from 0 z)) (sym (set_inserted (map k rows) i None None inside))
      ∙ put_slots (insert (map k rows) i None) i (k r) (omega (arith, inside, more))
      ∙ ap (slots_from 0) (set_inserted (map k rows) i None (k r) inside ∙ sym (keys_inserted k rows i r l))

-- ---- rows that somebody reads, or nobody

pub none_free : (ended : List ℕ → Bool) (r : Row) → free_key ended (leased r) ≡ None
none_free ended r = by r.finished
  where
    nothing : Option ℕ
    nothing = None

    by : (b : Bool) → cond b nothing nothing ≡ nothing
    by true = refl
    by false = refl

-- a finished row has no slot
pub none_finished : (ended : List ℕ → Bool) (r : Row) → r.finished ≡ true → (free_key ended r ≡ None) × (wait_key ended r ≡ None)
none_finished ended r h = (ap (λ b. cond b None (cond r.leased None (tries_if (missing ended r.parents) r))) h, ap (λ b. cond b None (missing ended r.parents)) h)
