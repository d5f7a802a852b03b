-- The least start of a READ: no READ is below it, and it never falls.
use Rattle.std.proofs.Common.{◌≡◌, ◌≢◌, ◌⊎◌, ◌↔◌, ℕ, suc, ◌≤◌, Bool, true, false, not, List, [], ◌∷◌, map, filter, Option, Some, None, ⊎_elim, inl, inr, sym, refl, ap, ◌∙◌, subst, arith, true≢false, Contains}
use Rattle.cs_types.specs.declared.change.Change.{Change}
use Rattle.cs_types.specs.declared.names.Window.{Window}
use Rattle.cs_types.specs.Members.{in_nil, in_head, in_tail, in_cons, in_map, from_map, in_filter, from_filter}
use Rattle.cs_place.specs.declared.part.Part.{Part}
use Rattle.cs_link.specs.declared.batch.Batch.{Batch}
use Rattle.cs_link.specs.declared.batch.Known.{Known}
use Rattle.cs_link.specs.declared.batch.NewChild.{NewChild}
use Rattle.cs_link.specs.declared.feed.Feed.{Feed}
use Rattle.cs_link.specs.Batch.{limit}
use Rattle.cs_link.specs.Feed.{IsFeed}
use Rattle.cs_schedule.specs.declared.row.Row.{Row}
use Rattle.cs_schedule.specs.Consistent.{HasRow, IsRight, born, is_end, MayMove}
use Rattle.cs_schedule.specs.Rows.{next_of}
use Rattle.cs_room.specs.Room.{lease_start, starts_left, least_of, least_or, low}
use Rattle.cs_room.proofs.Layouts.{child_late}
use Rattle.cs_room.proofs.Moves.{moved, IsMoved}

not_true : (b : Bool) → not b ≡ true → b ≡ false
not_true true h = absurd (true≢false (sym h))
not_true false h = refl

-- ---- the least of numbers

least_below : (n m : ℕ) (ns : List ℕ) → (m ≡ n) ⊎ Contains ns m → least_of n ns ≤ m
least_below n m [] (inl h) = omega (arith, h)
least_below n m [] (inr i) = absurd (in_nil m i)
least_below n m (k ∷ ns) (inl h) = omega (arith, h)
least_below n m (k ∷ ns) (inr i) = let a = least_below k m ns (in_cons k m ns i) in omega (arith, a)

least_above : (l n : ℕ) (ns : List ℕ) → l ≤ n → ((m : ℕ) → Contains ns m → l ≤ m) → l ≤ least_of n ns
least_above l n [] h all = h
least_above l n (k ∷ ns) h all = let a = least_above l k ns (all k (in_head k ns)) (λ m i. all m (in_tail k m ns i)) in omega (arith, a, h)

or_below : (e m : ℕ) (ns : List ℕ) → Contains ns m → least_or e ns ≤ m
or_below e m [] i = absurd (in_nil m i)
or_below e m (k ∷ ns) i = least_below k m ns (in_cons k m ns i)

or_above : (l e : ℕ) (ns : List ℕ) → l ≤ e → ((m : ℕ) → Contains ns m → l ≤ m) → l ≤ least_or e ns
or_above l e [] h all = h
or_above l e (k ∷ ns) h all = least_above l k ns (all k (in_head k ns)) (λ m i. all m (in_tail k m ns i))

or_none : (e : ℕ) (ns : List ℕ) → ((m : ℕ) → Contains ns m → ⊥) → least_or e ns ≡ e
or_none e [] none = refl
or_none e (k ∷ ns) none = absurd (none k (in_head k ns))

-- ---- of rows

in_starts : (rows : List Row) (r : Row) → Contains rows r → r.finished ≡ false → Contains (starts_left rows) (lease_start r)
in_starts rows r i h = in_map lease_start r (filter (λ z. not z.finished) rows) (in_filter (λ z. not z.finished) r rows i (ap not h))

from_starts : (rows : List Row) (m : ℕ) → Contains (starts_left rows) m → (r : Row) × Contains rows r × (r.finished ≡ false) × (m ≡ lease_start r)
from_starts rows m i =
    let u = from_map lease_start m (filter (λ z. not z.finished) rows) i in
    let v = from_filter (λ z. not z.finished) u.0 rows u.1 in
    (u.0, v.0, not_true u.0.finished v.1, u.2)

pub low_below : (w : Window) (rows : List Row) (r : Row) → Contains rows r → r.finished ≡ false → low w rows ≤ lease_start r
low_below w [] r i h = absurd (in_nil r i)
low_below w (a ∷ rows) r i h = or_below w.end (lease_start r) (starts_left (a ∷ rows)) (in_starts (a ∷ rows) r i h)

pub low_above : (l : ℕ) (w : Window) (rows : List Row) → (rows ≡ [] → l ≤ w.start) → l ≤ w.end → ((r : Row) → Contains rows r → r.finished ≡ false → l ≤ lease_start r) → l ≤ low w rows
low_above l w [] none h all = none refl
low_above l w (a ∷ rows) none h all = or_above l w.end (starts_left (a ∷ rows)) h
    (λ m i. let u = from_starts (a ∷ rows) m i in let v = all u.0 u.1 u.2 in omega (arith, v, u.3))

-- where all are finished, it is the window's end
low_ended : (w : Window) (rows : List Row) (x : Row) → Contains rows x → ((r : Row) → Contains rows r → r.finished ≡ true) → low w rows ≡ w.end
low_ended w [] x i all = absurd (in_nil x i)
low_ended w (a ∷ rows) x i all = or_none w.end (starts_left (a ∷ rows)) (λ m j. let u = from_starts (a ∷ rows) m j in true≢false (sym (all u.0 u.1) ∙ u.2))

-- one of the rows is not finished, or all are
one_or_all : (rows : List Row) → ((r : Row) × Contains rows r × (r.finished ≡ false)) ⊎ ((r : Row) → Contains rows r → r.finished ≡ true)
one_or_all [] = inr (λ r i. absurd (in_nil r i))
one_or_all (a ∷ rows) = by (one_or_all rows) a.finished refl
  where
    by : ((r : Row) × Contains rows r × (r.finished ≡ false)) ⊎ ((r : Row) → Contains rows r → r.finished ≡ true) → (b : Bool) → a.finished ≡ b → ((r : Row) × Contains (a ∷ rows) r × (r.finished ≡ false)) ⊎ ((r : Row) → Contains (a ∷ rows) r → r.finished ≡ true)
    by o false h = inl (a, in_head a rows, h)
    by (inl u) true h = inl (u.0, in_tail a u.0 rows u.1, u.2)
    by (inr all) true h = inr (λ r i. ⊎_elim (λ (q : r ≡ a). ap (λ (z : Row). z.finished) q ∙ h) (λ (j : Contains rows r). all r j) (in_cons a r rows i))

-- rows that are the same but for who reads them have the same least start
pub low_within : (w : Window) (g : Row → Row) (xs ys : List Row) → ((r : Row) → (g r).finished ≡ r.finished) → ((r : Row) → lease_start (g r) ≡ lease_start r) → ((r : Row) → Contains (map g xs) r ↔ Contains ys r) → low w xs ≡ low w ys
low_within w g [] [] fin start same = refl
low_within w g [] (y ∷ ys) fin start same = absurd (in_nil y ((same y).1 (in_head y ys)))
low_within w g (x ∷ xs) [] fin start same = absurd (in_nil (g x) ((same (g x)).0 (in_head (g x) (map g xs))))
low_within w g (x ∷ xs) (y ∷ ys) fin start same =
    ⊎_elim
    (λ (u : (r : Row) × Contains (x ∷ xs) r × (r.finished ≡ false)). one u)
    (λ (all : (r : Row) → Contains (x ∷ xs) r → r.finished ≡ true).
    low_ended w (x ∷ xs) x (in_head x xs) all
    ∙ sym (low_ended w (y ∷ ys) y (in_head y ys) (λ r i. let v = back r i in ap (λ (z : Row). z.finished) v.2 ∙ fin v.0 ∙ all v.0 v.1)))
    (one_or_all (x ∷ xs))
  where
    back : (r : Row) → Contains (y ∷ ys) r → (a : Row) × Contains (x ∷ xs) a × (r ≡ g a)
    back r i = from_map g r (x ∷ xs) ((same r).1 i)

    there : (r : Row) → Contains (x ∷ xs) r → Contains (y ∷ ys) (g r)
    there r i = (same (g r)).0 (in_map g r (x ∷ xs) i)

    front_low : (r : Row) → Contains (x ∷ xs) r → r.finished ≡ false → low w (y ∷ ys) ≤ lease_start r
    front_low r i h = let a = low_below w (y ∷ ys) (g r) (there r i) (fin r ∙ h) in let b = start r in omega (arith, a, b)

    back_low : (r : Row) → Contains (y ∷ ys) r → r.finished ≡ false → low w (x ∷ xs) ≤ lease_start r
    back_low r i h =
        let v = back r i in
        let a = low_below w (x ∷ xs) v.0 v.1 (sym (fin v.0) ∙ ap (λ (z : Row). z.finished) (sym v.2) ∙ h) in
        let b = start v.0 in
        let c = ap lease_start v.2 in
        omega (arith, a, b, c)

    one : (r : Row) × Contains (x ∷ xs) r × (r.finished ≡ false) → low w (x ∷ xs) ≡ low w (y ∷ ys)
    one u =
        let a = least_at w (x ∷ xs) (low w (y ∷ ys)) u.0 u.1 u.2 front_low in
        let b = least_at w (y ∷ ys) (low w (x ∷ xs)) (g u.0) (there u.0 u.1) (fin u.0 ∙ u.2) back_low in
        omega (arith, a, b)
      where
        least_at : (w : Window) (rows : List Row) (l : ℕ) (r : Row) → Contains rows r → r.finished ≡ false → ((r : Row) → Contains rows r → r.finished ≡ false → l ≤ lease_start r) → l ≤ low w rows
        least_at w [] l r i h all = absurd (in_nil r i)
        least_at w (a ∷ rows) l r i h all = at (starts_left (a ∷ rows)) (in_starts (a ∷ rows) r i h) (λ m j. let u = from_starts (a ∷ rows) m j in let v = all u.0 u.1 u.2 in omega (arith, v, u.3))
          where
            at : (ns : List ℕ) → Contains ns (lease_start r) → ((m : ℕ) → Contains ns m → l ≤ m) → l ≤ least_or w.end ns
            at [] j every = absurd (in_nil (lease_start r) j)
            at (k ∷ ns) j every = least_above l k ns (every k (in_head k ns)) (λ m i. every m (in_tail k m ns i))

-- ---- with an entry

limit_top : (e : ℕ) (o : Option ℕ) → limit e o ≤ suc e
limit_top e None = omega arith
limit_top e (Some u) = omega arith

module _ (f : Feed) (F : IsFeed f) (w : Window) (in_window : w.start ≤ w.end) (rows : List Row) (done : List Change) (R : IsRight f w.start w.end rows done) (r : Row) (q : Part) (k : Known) (b : Batch) (M : MayMove f w.start w.end rows r q k b)
    (after : List Row) (A : IsMoved rows r b after) where
  its_low : low w rows ≤ lease_start r
  its_low = low_below w rows r M.there M.unfinished

  before : r.start ≤ next_of r
  before = (R.bound r q M.there M.part M.its).0

  within : lease_start r ≤ w.end
  within =
      let o = R.bound r q M.there M.part M.its in
      let u = R.known r M.there in
      let top = limit_top w.end q.until in
      omega (arith, top, o.0, o.1, u.2, u.4.2, in_window)

  pub low_stays : low w rows ≤ low w after
  low_stays = low_above (low w rows) w after
      (λ h. absurd (in_nil (moved r b) (subst (λ l. Contains l (moved r b)) h A.mine)))
      (omega (arith, its_low, within))
      (λ y i h. ⊎_elim
      (λ (a : Contains rows y × (y.token ≢ r.token)). low_below w rows y a.0 h)
      (λ (o : (y ≡ moved r b) ⊎ ((x : NewChild) × Contains b.children x × (y ≡ born x) × (is_end b.ending ≡ true) × (HasRow rows x.token → ⊥))). ⊎_elim
      (λ (a : y ≡ moved r b). let s = ap lease_start a in omega (arith, s, its_low))
      (λ (a : (x : NewChild) × Contains b.children x × (y ≡ born x) × (is_end b.ending ≡ true) × (HasRow rows x.token → ⊥)).
      let s : lease_start y ≡ lease_start (born a.0) = ap lease_start a.2 in
      let late = child_late f F w.start w.end rows done R r q M.there M.part M.its a.0 ((M.batch.children a.0).0 a.1).1 in
      omega (arith, s, its_low, late, before))
      o)
      (A.from y i))
