-- The ordered lists where a row is changed, or put among the others.
use Rattle.std.proofs.Common.{◌≡◌, ℕ, zero, suc, ◌<◌, ◌≤◌, Bool, true, false, not, ◌&&◌, ◌||◌, Option, Some, None, List, [], ◌∷◌, ◌++◌, length, map, get_or, set, sym, refl, ap, ◌∙◌, subst, arith, true≢false, Contains}
use Rattle.std.specs.List.{insert}
use Rattle.cs_types.specs.Members.{from_map}
use Rattle.cs_schedule.specs.declared.row.Row.{Row}
use Rattle.cs_schedule.specs.declared.index.Index.{Index}
use Rattle.cs_schedule.specs.declared.update.Moved.{Moved}
use Rattle.cs_schedule.specs.Board.{IsOrdered, has_ended, changed_at, changed_there, leased, given_back, fresh}
use Rattle.cs_schedule.specs.Consistent.{put_row}
use Rattle.cs_schedule.specs.Index.{AreSorted, put_key, take_key, slots_from, behind, open_key, free_key, wait_key, free_of, waits_of, ended_but, places_in, IsIndexBy, IsIndex, MayPut, IsPut, IsTaken, IsWayMade}
use Rattle.cs_schedule.specs.Update.{moved, AreUnfinished}
use Rattle.cs_schedule.proofs.Indexed.{ended_kept, ended_without, ended_put, ended_fresh, keys_kept, keys_mapped, its_taken, less_taken, its_put, its_gone, way, less_way, its_new, none_free, none_finished}
use Rattle.cs_schedule.proofs.Sorted.{slots_sorted}
use Rattle.std.proofs.lemmas.List.Elements.{Contains-append_left}

pub changed_here : (f : Row → Row) (rows : List Row) (i : ℕ) (x y : Row) → i < length rows → x ≡ get_or rows i x → y ≡ get_or (changed_at f i rows) i y → y ≡ f x
changed_here f [] i x y l e k = absurd (omega (arith, l))
changed_here f (r ∷ rows) zero x y l e k = k ∙ ap f (sym e)
changed_here f (r ∷ rows) (suc i) x y l e k = changed_here f rows i x y (omega (arith, l)) e k

-- ---- a row at its place

module _ (rows : List Row) (i : ℕ) (x : Row) (inside : i < length rows) (is : x ≡ get_or rows i x) where
  slots_out : (k : Row → Option ℕ) (before after : List _) → before ≡ slots_from 0 (map k rows) → after ≡ take_key (k x) i before → after ≡ slots_from 0 (set (map k rows) i None)
  slots_out k before after h t = t ∙ ap (take_key (k x) i) h ∙ its_taken k rows i x inside is

  -- where its slots are taken out, others can be put
  pub may_after : (a b : Index) → IsIndex rows a → IsTaken (has_ended rows) x i a b → length rows ≤ places_in b → MayPut b
  may_after a b h t room =
      let o = slots_out open_key a.opens.items b.opens.items h.by_through t.by_through in
      let f = slots_out (free_key (has_ended rows)) a.free.items b.free.items h.by_tries t.by_tries in
      let w = slots_out (wait_key (has_ended rows)) a.waits.items b.waits.items h.by_parent t.by_parent in
      record {
        opens_sorted = subst AreSorted (sym o) (slots_sorted 0 (set (map open_key rows) i None));
        free_sorted = subst AreSorted (sym f) (slots_sorted 0 (set (map (free_key (has_ended rows)) rows) i None));
        waits_sorted = subst AreSorted (sym w) (slots_sorted 0 (set (map (wait_key (has_ended rows)) rows) i None));
        opens_room = let l = less_taken open_key rows i inside in omega (arith, ap length o, l, room);
        free_room = let l = less_taken (free_key (has_ended rows)) rows i inside in omega (arith, ap length f, l, room);
        waits_room = let l = less_taken (wait_key (has_ended rows)) rows i inside in omega (arith, ap length w, l, room);
      }

  put_same : (f : Row → Row) (e : List ℕ → Bool) (a b d : Index) → IsIndex rows a → IsTaken (has_ended rows) x i a b → IsPut e (f x) i b d → free_key e (f x) ≡ free_key (has_ended rows) (f x) → wait_key e (f x) ≡ wait_key (has_ended rows) (f x) → IsIndexBy (has_ended rows) (changed_at f i rows) d
  put_same f e a b d h t p free wait =
      record {
        by_through = p.by_through ∙ ap (put_key (open_key (f x)) i) (slots_out open_key a.opens.items b.opens.items h.by_through t.by_through) ∙ its_put open_key rows f i x inside is;
        by_tries =
            p.by_tries
            ∙ ap (λ k. put_key k i b.free.items) free
            ∙ ap (put_key (free_key (has_ended rows) (f x)) i) (slots_out (free_key (has_ended rows)) a.free.items b.free.items h.by_tries t.by_tries)
            ∙ its_put (free_key (has_ended rows)) rows f i x inside is;
        by_parent =
            p.by_parent
            ∙ ap (λ k. put_key k i b.waits.items) wait
            ∙ ap (put_key (wait_key (has_ended rows) (f x)) i) (slots_out (wait_key (has_ended rows)) a.waits.items b.waits.items h.by_parent t.by_parent)
            ∙ its_put (wait_key (has_ended rows)) rows f i x inside is;
      }

  -- its slots are put as they are then
  pub changed_index : (f : Row → Row) (e g : List ℕ → Bool) (a b d : Index) → IsIndex rows a → IsTaken (has_ended rows) x i a b → IsPut e (f x) i b d → has_ended rows ≡ g → free_key e (f x) ≡ free_key g (f x) → wait_key e (f x) ≡ wait_key g (f x) → IsIndexBy g (changed_at f i rows) d
  changed_index f e g a b d h t p same =
      subst (λ z. free_key e (f x) ≡ free_key z (f x) → wait_key e (f x) ≡ wait_key z (f x) → IsIndexBy z (changed_at f i rows) d) same (put_same f e a b d h t p)

-- ---- a row that is moved

stays_as : (m : Moved) (x : Row) → (m.finished && not x.finished) ≡ false → (x.finished || m.finished) ≡ x.finished
stays_as m x h = by x.finished m.finished h
  where
    by : (a b : Bool) → (b && not a) ≡ false → (a || b) ≡ a
    by true b k = refl
    by false true k = absurd (true≢false k)
    by false false k = refl

ends_then : (m : Moved) (x : Row) → (m.finished && not x.finished) ≡ true → (x.finished ≡ false) × ((x.finished || m.finished) ≡ true)
ends_then m x h = by x.finished m.finished h
  where
    by : (a b : Bool) → (b && not a) ≡ true → (a ≡ false) × ((a || b) ≡ true)
    by true true k = absurd (true≢false (sym k))
    by true false k = absurd (true≢false (sym k))
    by false true k = (refl, refl)
    by false false k = absurd (true≢false (sym k))

pub moved_stays : (m : Moved) (rows : List Row) (i : ℕ) (x y : Row) (a b d : Index) → IsOrdered rows → i < length rows → x ≡ get_or rows i x → y ≡ get_or (changed_at (moved m) i rows) i y → IsIndex rows a → IsTaken (has_ended rows) x i a b → IsPut (has_ended (changed_at (moved m) i rows)) y i b d → (m.finished && not x.finished) ≡ false → IsIndex (changed_at (moved m) i rows) d
moved_stays m rows i x y a b d o l e k h t p stays =
    let p_x = subst (λ (z : Row). IsPut (has_ended (changed_at (moved m) i rows)) z i b d) (changed_here (moved m) rows i x y l e k) p in
    changed_index rows i x l e (moved m) (has_ended (changed_at (moved m) i rows)) (has_ended (changed_at (moved m) i rows)) a b d h t p_x
    (sym (ended_kept (moved m) (λ r. refl) rows i x o l e (stays_as m x stays))) refl refl

pub moved_ends : (m : Moved) (rows : List Row) (i : ℕ) (x y z : Row) (a b d : Index) → IsOrdered rows → i < length rows → x ≡ get_or rows i x → y ≡ get_or (changed_at (moved m) i rows) i y → z ≡ get_or (changed_at (moved m) i rows) i z → IsIndex rows a → IsTaken (has_ended rows) x i a b → IsPut (has_ended (changed_at (moved m) i rows)) y i b d → (m.finished && not x.finished) ≡ true → IsIndexBy (ended_but z.token (changed_at (moved m) i rows)) (changed_at (moved m) i rows) d
moved_ends m rows i x y z a b d o l e k q h t p ends =
    let p_x = subst (λ (u : Row). IsPut (has_ended (changed_at (moved m) i rows)) u i b d) (changed_here (moved m) rows i x y l e k) p in
    let its = ends_then m x ends in
    let e_x = none_finished (has_ended (changed_at (moved m) i rows)) (moved m x) its.1 in
    let g_x = none_finished (ended_but x.token (changed_at (moved m) i rows)) (moved m x) its.1 in
    subst (λ (u : Row). IsIndexBy (ended_but u.token (changed_at (moved m) i rows)) (changed_at (moved m) i rows) d) (sym (changed_here (moved m) rows i x z l e q))
    (changed_index rows i x l e (moved m) (has_ended (changed_at (moved m) i rows)) (ended_but x.token (changed_at (moved m) i rows)) a b d h t p_x
    (ended_without (moved m) (λ r. refl) rows i x o l e its.0) (e_x.0 ∙ sym g_x.0) (e_x.1 ∙ sym g_x.1))

-- ---- a new row

module _ (rows : List Row) (i : ℕ) (inside : i ≤ length rows) where
  pub may_new : (a b : Index) → IsIndex rows a → IsWayMade i a b → length rows < places_in b → MayPut b
  may_new a b h w room =
      let o = w.by_through ∙ ap (map (behind i)) h.by_through ∙ way open_key rows i inside in
      let f = w.by_tries ∙ ap (map (behind i)) h.by_tries ∙ way (free_key (has_ended rows)) rows i inside in
      let p = w.by_parent ∙ ap (map (behind i)) h.by_parent ∙ way (wait_key (has_ended rows)) rows i inside in
      record {
        opens_sorted = subst AreSorted (sym o) (slots_sorted 0 (insert (map open_key rows) i None));
        free_sorted = subst AreSorted (sym f) (slots_sorted 0 (insert (map (free_key (has_ended rows)) rows) i None));
        waits_sorted = subst AreSorted (sym p) (slots_sorted 0 (insert (map (wait_key (has_ended rows)) rows) i None));
        opens_room = let l = less_way open_key rows i inside in omega (arith, ap length o, l, room);
        free_room = let l = less_way (free_key (has_ended rows)) rows i inside in omega (arith, ap length f, l, room);
        waits_room = let l = less_way (wait_key (has_ended rows)) rows i inside in omega (arith, ap length p, l, room);
      }

  new_same : (r : Row) (a b d : Index) → IsIndex rows a → IsWayMade i a b → IsPut (has_ended rows) r i b d → IsIndexBy (has_ended rows) (insert rows i r) d
  new_same r a b d h w p = record {
    by_through = p.by_through ∙ ap (put_key (open_key r) i) (w.by_through ∙ ap (map (behind i)) h.by_through ∙ way open_key rows i inside) ∙ its_new open_key rows r i inside;
    by_tries = p.by_tries ∙ ap (put_key (free_key (has_ended rows) r) i) (w.by_tries ∙ ap (map (behind i)) h.by_tries ∙ way (free_key (has_ended rows)) rows i inside) ∙ its_new (free_key (has_ended rows)) rows r i inside;
    by_parent = p.by_parent ∙ ap (put_key (wait_key (has_ended rows) r) i) (w.by_parent ∙ ap (map (behind i)) h.by_parent ∙ way (wait_key (has_ended rows)) rows i inside) ∙ its_new (wait_key (has_ended rows)) rows r i inside;
  }

  pub new_index : (r : Row) (a b d : Index) → IsOrdered rows → IsOrdered (put_row r rows) → r.finished ≡ false → put_row r rows ≡ insert rows i r → IsIndex rows a → IsWayMade i a b → IsPut (has_ended rows) r i b d → IsIndex (put_row r rows) d
  new_index r a b d o still u e h w p =
      subst (λ z. IsIndexBy z (put_row r rows) d) (sym (ended_put r rows o still u))
      (subst (λ z. IsIndexBy (has_ended rows) z d) (sym e) (new_same r a b d h w p))

-- ---- rows that somebody reads, or nobody

pub leased_index : (rows : List Row) (i : ℕ) (x : Row) (a b : Index) → IsOrdered rows → i < length rows → x ≡ get_or rows i x → IsIndex rows a → b.opens.items ≡ a.opens.items → b.free.items ≡ take_key (free_key (has_ended rows) x) i a.free.items → b.waits.items ≡ a.waits.items → IsIndex (changed_at leased i rows) b
leased_index rows i x a b o l e h opens free waits =
    subst (λ z. IsIndexBy z (changed_at leased i rows) b) (sym (ended_kept leased (λ r. refl) rows i x o l e refl))
    record {
      by_through = opens ∙ h.by_through ∙ ap (slots_from 0) (sym (keys_kept open_key leased (λ r. refl) rows i));
      by_tries = free ∙ ap (take_key (free_key (has_ended rows) x) i) h.by_tries ∙ its_gone (free_key (has_ended rows)) rows leased i x l e (none_free (has_ended rows) x);
      by_parent = waits ∙ h.by_parent ∙ ap (slots_from 0) (sym (keys_kept (wait_key (has_ended rows)) leased (λ r. refl) rows i));
    }

pub given_index : (c : Bool) (rows : List Row) (i : ℕ) (x y : Row) (a d : Index) (between : List _) → IsOrdered rows → i < length rows → x ≡ get_or rows i x → y ≡ get_or (changed_at (given_back c) i rows) i y → IsIndex rows a → d.opens.items ≡ a.opens.items → between ≡ take_key (free_key (has_ended rows) x) i a.free.items → d.free.items ≡ put_key (free_key (has_ended (changed_at (given_back c) i rows)) y) i between → d.waits.items ≡ a.waits.items → IsIndex (changed_at (given_back c) i rows) d
given_index c rows i x y a d between o l e k h opens out back waits =
    let same = ended_kept (given_back c) (λ r. refl) rows i x o l e refl in
    subst (λ z. IsIndexBy z (changed_at (given_back c) i rows) d) (sym same)
    record {
      by_through = opens ∙ h.by_through ∙ ap (slots_from 0) (sym (keys_kept open_key (given_back c) (λ r. refl) rows i));
      by_tries =
          back
          ∙ ap (λ z. put_key z i between) ((λ j. free_key (same j) y) ∙ ap (free_key (has_ended rows)) (changed_here (given_back c) rows i x y l e k))
          ∙ ap (put_key (free_key (has_ended rows) (given_back c x)) i) (out ∙ ap (take_key (free_key (has_ended rows) x) i) h.by_tries ∙ its_taken (free_key (has_ended rows)) rows i x l e)
          ∙ its_put (free_key (has_ended rows)) rows (given_back c) i x l e;
      by_parent = waits ∙ h.by_parent ∙ ap (slots_from 0) (sym (keys_kept (wait_key (has_ended rows)) (given_back c) (λ r. refl) rows i));
    }

-- where a slot is out, one can be put
pub free_after : (rows : List Row) (i : ℕ) (x : Row) (before after : List _) → i < length rows → x ≡ get_or rows i x → before ≡ free_of (has_ended rows) rows → after ≡ take_key (free_key (has_ended rows) x) i before → AreSorted after × (length after < length rows)
free_after rows i x before after l e h t =
    let f = t ∙ ap (take_key (free_key (has_ended rows) x) i) h ∙ its_taken (free_key (has_ended rows)) rows i x l e in
    let m = less_taken (free_key (has_ended rows)) rows i l in (
      subst AreSorted (sym f) (slots_sorted 0 (set (map (free_key (has_ended rows)) rows) i None)),
      omega (arith, ap length f, m),
    )

pub fresh_index : (rows : List Row) (a b : Index) → IsIndex rows a → b.opens.items ≡ a.opens.items → b.free.items ≡ free_of (has_ended (map fresh rows)) (map fresh rows) → b.waits.items ≡ a.waits.items → IsIndex (map fresh rows) b
fresh_index rows a b h opens free waits = record {
  by_through = opens ∙ h.by_through ∙ ap (slots_from 0) (sym (keys_mapped open_key fresh (λ r. refl) rows));
  by_tries = free;
  by_parent =
      waits ∙ h.by_parent ∙ ap (slots_from 0) (sym (keys_mapped (wait_key (has_ended rows)) fresh (λ r. refl) rows))
      ∙ sym (ap (λ z. waits_of z (map fresh rows)) (ended_fresh rows));
}

pub length_changed : (f : Row → Row) (i : ℕ) (rows : List Row) → length (changed_at f i rows) ≡ length rows
length_changed f i [] = refl
length_changed f zero (r ∷ rows) = refl
length_changed f (suc i) (r ∷ rows) = ap suc (length_changed f i rows)

pub same_row : (rows : List Row) (i : ℕ) (x y : Row) → i < length rows → x ≡ get_or rows i x → y ≡ get_or rows i y → x ≡ y
same_row [] i x y l e k = absurd (omega (arith, l))
same_row (r ∷ rows) zero x y l e k = e ∙ sym k
same_row (r ∷ rows) (suc i) x y l e k = same_row rows i x y (omega (arith, l)) e k

-- ---- rows that are born

pub map_unfinished : {A : Type 0} (f : A → Row) (xs : List A) → ((x : A) → (f x).finished ≡ false) → AreUnfinished (map f xs)
map_unfinished f xs h r i = let u = from_map f r xs i in ap (λ (z : Row). z.finished) u.2 ∙ h u.0

pub front_unfinished : (new more all : List Row) → new ++ more ≡ all → AreUnfinished all → AreUnfinished new
front_unfinished new more all e h r i = h r (subst (λ z. Contains z r) e (Contains-append_left new more r i))

-- ---- how many rows there are

pub length_there : (f : Row → Row) (o : Option ℕ) (rows : List Row) → length (changed_there f o rows) ≡ length rows
length_there f None rows = refl
length_there f (Some i) rows = length_changed f i rows

pub length_mapped : (f : Row → Row) (rows : List Row) → length (map f rows) ≡ length rows
length_mapped f [] = refl
length_mapped f (r ∷ rows) = ap suc (length_mapped f rows)
