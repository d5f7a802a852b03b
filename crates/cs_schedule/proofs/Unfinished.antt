-- The moments of the unfinished rows, in rising order: what becomes of them where rows change, and the least of them.
use Rattle.std.proofs.Common.{◌≡◌, ◌⊎◌, ℕ, zero, suc, ◌-◌, ◌<◌, ◌≤◌, min, Bool, true, false, cond, ◌&&◌, ◌||◌, Option, Some, None, List, [], ◌∷◌, length, get_or, ⊎_elim, inl, inr, sym, refl, ap, ◌∙◌, subst, arith, true≢false, Contains, leb, eqb}
use Rattle.std.proofs.lemmas.Bool.{cases_lt, leb-true, le-leb, eqb-true, eq-eqb}
use Rattle.cs_types.specs.Members.{in_nil, in_head, in_tail, in_cons}
use Rattle.cs_schedule.specs.declared.row.Row.{Row}
use Rattle.cs_schedule.specs.declared.update.Moved.{Moved}
use Rattle.cs_schedule.specs.Board.{changed_at}
use Rattle.cs_schedule.specs.Fold.{has_no_row}
use Rattle.cs_schedule.specs.Update.{moved, with_moved, updated}
use Rattle.cs_schedule.specs.Consistent.{put_row, put_rows}
use Rattle.cs_schedule.specs.Open.{put_number, take_out, put_open, take_open, put_opens, open_of, DoRise, least, least_among}
use Rattle.cs_schedule.specs.Rows.{next_of, least_next, low_watermark}
use Rattle.cs_schedule.proofs.Among.{before}

pub above : (a b : ℕ) → leb a b ≡ false → b < a
above a b h = ⊎_elim (λ (l : b < a). l) (λ (l : a ≤ b). absurd (true≢false (sym (le-leb a b l) ∙ h))) (cases_lt b a)

pub not_le : (a b : ℕ) → b < a → leb a b ≡ false
not_le a b l = by (leb a b) refl
  where
    by : (x : Bool) → leb a b ≡ x → leb a b ≡ false
    by true q = let u = leb-true a b q in absurd (omega (arith, l, u))
    by false q = q

pub not_eq : (a b : ℕ) → (a ≡ b → ⊥) → eqb a b ≡ false
not_eq a b n = by (eqb a b) refl
  where
    by : (x : Bool) → eqb a b ≡ x → eqb a b ≡ false
    by true q = absurd (n (eqb-true a b q))
    by false q = q

-- ---- the order in which numbers are put does not matter

two_heads : (a b : ℕ) (z : List ℕ) → cond (leb a b) (a ∷ b ∷ z) (b ∷ a ∷ z) ≡ cond (leb b a) (b ∷ a ∷ z) (a ∷ b ∷ z)
two_heads a b z = by (leb a b) (leb b a) refl refl
  where
    by : (x y : Bool) → leb a b ≡ x → leb b a ≡ y → cond x (a ∷ b ∷ z) (b ∷ a ∷ z) ≡ cond y (b ∷ a ∷ z) (a ∷ b ∷ z)
    by true true p q = let u = leb-true a b p in let v = leb-true b a q in let same : a ≡ b = omega (arith, u, v) in λ i. same i ∷ sym same i ∷ z
    by true false p q = refl
    by false true p q = refl
    by false false p q = let u = above a b p in let v = above b a q in absurd (omega (arith, u, v))

pub put_swap : (a b : ℕ) (ms : List ℕ) → put_number a (put_number b ms) ≡ put_number b (put_number a ms)
put_swap a b [] = two_heads a b []
put_swap a b (m ∷ ms) = by (leb a m) (leb b m) refl refl (put_swap a b ms)
  where
    by : (x y : Bool) → leb a m ≡ x → leb b m ≡ y → put_number a (put_number b ms) ≡ put_number b (put_number a ms) → put_number a (cond y (b ∷ m ∷ ms) (m ∷ put_number b ms)) ≡ put_number b (cond x (a ∷ m ∷ ms) (m ∷ put_number a ms))
    by true true p q f =
        ap (λ z. cond (leb a b) (a ∷ b ∷ m ∷ ms) (b ∷ cond z (a ∷ m ∷ ms) (m ∷ put_number a ms))) p
        ∙ two_heads a b (m ∷ ms)
        ∙ ap (λ z. cond (leb b a) (b ∷ a ∷ m ∷ ms) (a ∷ cond z (b ∷ m ∷ ms) (m ∷ put_number b ms))) (sym q)
    by true false p q f =
        let low = leb-true a m p in
        let high = above b m q in
        ap (λ z. cond z (a ∷ m ∷ put_number b ms) (m ∷ put_number a (put_number b ms))) p
        ∙ sym (ap (λ z. cond z (b ∷ a ∷ m ∷ ms) (a ∷ cond (leb b m) (b ∷ m ∷ ms) (m ∷ put_number b ms))) (not_le b a (omega (arith, low, high))) ∙ ap (λ z. a ∷ cond z (b ∷ m ∷ ms) (m ∷ put_number b ms)) q)
    by false true p q f =
        let low = leb-true b m q in
        let high = above a m p in
        ap (λ z. cond z (a ∷ b ∷ m ∷ ms) (b ∷ cond (leb a m) (a ∷ m ∷ ms) (m ∷ put_number a ms))) (not_le a b (omega (arith, low, high)))
        ∙ ap (λ z. b ∷ cond z (a ∷ m ∷ ms) (m ∷ put_number a ms)) p
        ∙ sym (ap (λ z. cond z (b ∷ m ∷ put_number a ms) (m ∷ put_number b (put_number a ms))) q)
    by false false p q f =
        ap (λ z. cond z (a ∷ m ∷ put_number b ms) (m ∷ put_number a (put_number b ms))) p
        ∙ ap (λ l. m ∷ l) f
        ∙ sym (ap (λ z. cond z (b ∷ m ∷ put_number a ms) (m ∷ put_number b (put_number a ms))) q)

open_swap : (r y : Row) (ms : List ℕ) → put_open r (put_open y ms) ≡ put_open y (put_open r ms)
open_swap r y ms = by r.finished y.finished
  where
    by : (a b : Bool) → cond a (cond b ms (put_number y.through ms)) (put_number r.through (cond b ms (put_number y.through ms))) ≡ cond b (cond a ms (put_number r.through ms)) (put_number y.through (cond a ms (put_number r.through ms)))
    by true true = refl
    by true false = refl
    by false true = refl
    by false false = put_swap r.through y.through ms

-- what was put is taken out
pub take_put : (n : ℕ) (ms : List ℕ) → take_out n (put_number n ms) ≡ ms
take_put n [] = ap (λ b. cond b [] (n ∷ [])) (eq-eqb n n refl)
take_put n (m ∷ ms) = by (leb n m) refl (take_put n ms)
  where
    by : (x : Bool) → leb n m ≡ x → take_out n (put_number n ms) ≡ ms → take_out n (cond x (n ∷ m ∷ ms) (m ∷ put_number n ms)) ≡ m ∷ ms
    by true p f = ap (λ b. cond b (m ∷ ms) (n ∷ take_out n (m ∷ ms))) (eq-eqb n n refl)
    by false p f = let l = above n m p in ap (λ b. cond b (put_number n ms) (m ∷ take_out n (put_number n ms))) (not_eq m n (λ e. omega (arith, l, e))) ∙ ap (λ l. m ∷ l) f

take_put_open : (r : Row) (ms : List ℕ) → take_open r (put_open r ms) ≡ ms
take_put_open r ms = by r.finished
  where
    by : (a : Bool) → cond a (cond a ms (put_number r.through ms)) (take_out r.through (cond a ms (put_number r.through ms))) ≡ ms
    by true = refl
    by false = take_put r.through ms

-- ---- rows that change

without : ℕ → List Row → List Row
without i [] = []
without zero (r ∷ rows) = rows
without (suc i) (r ∷ rows) = r ∷ without i rows

apart_at : (f : Row → Row) (rows : List Row) (i : ℕ) (x : Row) → i < length rows → x ≡ get_or rows i x → open_of (changed_at f i rows) ≡ put_open (f x) (open_of (without i rows))
unfolding without
apart_at f [] i x l e = absurd (omega (arith, l))
apart_at f (r ∷ rows) zero x l e = ap (λ z. put_open (f z) (open_of rows)) (sym e)
apart_at f (r ∷ rows) (suc i) x l e =
    ap (put_open r) (apart_at f rows i x (omega (arith, l)) e) ∙ open_swap r (f x) (open_of (without i rows))

same_at : (rows : List Row) (i : ℕ) → changed_at (λ r. r) i rows ≡ rows
same_at [] i = refl
same_at (r ∷ rows) zero = refl
same_at (r ∷ rows) (suc i) = ap (λ l. r ∷ l) (same_at rows i)

parted : (rows : List Row) (i : ℕ) (x : Row) → i < length rows → x ≡ get_or rows i x → open_of rows ≡ put_open x (open_of (without i rows))
parted rows i x l e = ap open_of (sym (same_at rows i)) ∙ apart_at (λ r. r) rows i x l e

-- a row that is changed: its moment is taken out, and the new one is put
pub open_changed : (f : Row → Row) (rows : List Row) (i : ℕ) (x : Row) → i < length rows → x ≡ get_or rows i x → open_of (changed_at f i rows) ≡ put_open (f x) (take_open x (open_of rows))
open_changed f rows i x l e =
    apart_at f rows i x l e
    ∙ ap (put_open (f x)) (sym (ap (take_open x) (parted rows i x l e) ∙ take_put_open x (open_of (without i rows))))

open_put : (r : Row) (rows : List Row) → open_of (put_row r rows) ≡ put_open r (open_of rows)
open_put r [] = refl
open_put r (a ∷ rows) = by (before r.token a) (open_put r rows)
  where
    by : (b : Bool) → open_of (put_row r rows) ≡ put_open r (open_of rows) → open_of (cond b (r ∷ a ∷ rows) (a ∷ put_row r rows)) ≡ put_open r (put_open a (open_of rows))
    by true f = refl
    by false f = ap (put_open a) f ∙ open_swap a r (open_of rows)

-- new rows put their moments
pub open_puts : (new rows : List Row) → open_of (put_rows new rows) ≡ put_opens new (open_of rows)
open_puts [] rows = refl
open_puts (r ∷ new) rows = open_puts new (put_row r rows) ∙ ap (put_opens new) (open_put r rows)

-- ---- rising

in_number : (n : ℕ) (ms : List ℕ) (k : ℕ) → Contains (put_number n ms) k → (k ≡ n) ⊎ Contains ms k
in_number n [] k i = in_cons n k [] i
in_number n (m ∷ ms) k i = by (leb n m) i (in_number n ms k)
  where
    by : (b : Bool) → Contains (cond b (n ∷ m ∷ ms) (m ∷ put_number n ms)) k → (Contains (put_number n ms) k → (k ≡ n) ⊎ Contains ms k) → (k ≡ n) ⊎ Contains (m ∷ ms) k
    by true j f = in_cons n k (m ∷ ms) j
    by false j f = ⊎_elim (λ (e : k ≡ m). inr (subst (λ z. Contains (m ∷ ms) z) (sym e) (in_head m ms))) (λ (l : Contains (put_number n ms) k). ⊎_elim (λ (e : k ≡ n). inl e) (λ (o : Contains ms k). inr (in_tail m k ms o)) (f l)) (in_cons m k (put_number n ms) j)

pub put_rises : (n : ℕ) (ms : List ℕ) → DoRise ms → DoRise (put_number n ms)
put_rises n [] h = (λ k i. absurd (in_nil k i), tt)
put_rises n (m ∷ ms) h = by (leb n m) refl (put_rises n ms h.1)
  where
    by : (b : Bool) → leb n m ≡ b → DoRise (put_number n ms) → DoRise (cond b (n ∷ m ∷ ms) (m ∷ put_number n ms))
    by true q f = let low = leb-true n m q in (λ k i. ⊎_elim (λ (e : k ≡ m). omega (arith, low, e)) (λ (j : Contains ms k). let l = h.0 k j in omega (arith, low, l)) (in_cons m k ms i), h)
    by false q f = let high = above n m q in (λ k i. ⊎_elim (λ (e : k ≡ n). omega (arith, high, e)) (λ (j : Contains ms k). h.0 k j) (in_number n ms k i), f)

pub put_open_rises : (r : Row) (ms : List ℕ) → DoRise ms → DoRise (put_open r ms)
put_open_rises r ms h = by r.finished
  where
    by : (b : Bool) → DoRise (cond b ms (put_number r.through ms))
    by true = h
    by false = put_rises r.through ms h

pub open_rises : (rows : List Row) → DoRise (open_of rows)
open_rises [] = tt
open_rises (r ∷ rows) = put_open_rises r (open_of rows) (open_rises rows)

out_from : (n : ℕ) (ms : List ℕ) (k : ℕ) → Contains (take_out n ms) k → Contains ms k
out_from n [] k i = i
out_from n (m ∷ ms) k i = by (eqb m n) i (out_from n ms k)
  where
    by : (b : Bool) → Contains (cond b ms (m ∷ take_out n ms)) k → (Contains (take_out n ms) k → Contains ms k) → Contains (m ∷ ms) k
    by true j f = in_tail m k ms j
    by false j f = ⊎_elim (λ (e : k ≡ m). subst (λ z. Contains (m ∷ ms) z) (sym e) (in_head m ms)) (λ (l : Contains (take_out n ms) k). in_tail m k ms (f l)) (in_cons m k (take_out n ms) j)

-- ---- places

-- ---- the least

pub least_put : (e n : ℕ) (ms : List ℕ) → least e (put_number n ms) ≡ min (suc n) (least e ms)
least_put e n [] = refl
least_put e n (m ∷ ms) = by (leb n m) (least_put e n ms)
  where
    by : (b : Bool) → least e (put_number n ms) ≡ min (suc n) (least e ms) → least e (cond b (n ∷ m ∷ ms) (m ∷ put_number n ms)) ≡ min (suc n) (min (suc m) (least e ms))
    by true f = refl
    by false f = omega (arith, f)

pub least_open : (e : ℕ) (rows : List Row) → least_next e rows ≡ least e (open_of rows)
least_open e [] = refl
least_open e (r ∷ rows) = by r.finished (least_open e rows)
  where
    by : (b : Bool) → least_next e rows ≡ least e (open_of rows) → cond b (least_next e rows) (min (next_of r) (least_next e rows)) ≡ least e (cond b (open_of rows) (put_number r.through (open_of rows)))
    by true f = f
    by false f = ap (min (suc r.through)) f ∙ sym (least_put e r.through (open_of rows))

low : (e m : ℕ) (ms : List ℕ) → ((k : ℕ) → Contains ms k → m ≤ k) → min (suc m) (least e ms) ≡ min (suc m) (suc e)
low e m [] h = refl
low e m (k ∷ ms) h =
    let a = h k (in_head k ms) in
    let f = low e m ms (λ j i. h j (in_tail k j ms i)) in
    omega (arith, a, f)

-- of rising ones it is the first
pub least_first : (e m : ℕ) (ms : List ℕ) → DoRise (m ∷ ms) → least e (m ∷ ms) ≡ min (suc m) (suc e)
least_first e m ms h = low e m ms h.0

-- and of those left where one is taken out, the first that is left
pub least_left : (e n m : ℕ) (ms : List ℕ) → DoRise (m ∷ ms) → eqb m n ≡ false → least e (take_out n (m ∷ ms)) ≡ min (suc m) (suc e)
least_left e n m ms h q = ap (λ b. least e (cond b ms (m ∷ take_out n ms))) q ∙ low e m (take_out n ms) (λ k i. h.0 k (out_from n ms k i))

pub least_puts : (e : ℕ) (new : List Row) (ms : List ℕ) → least e (put_opens new ms) ≡ least_among (least e ms) new
least_puts e [] ms = refl
least_puts e (r ∷ new) ms = least_puts e new (put_open r ms) ∙ ap (λ m. least_among m new) (by r.finished)
  where
    by : (b : Bool) → least e (cond b ms (put_number r.through ms)) ≡ cond b (least e ms) (min (suc r.through) (least e ms))
    by true = refl
    by false = least_put e r.through ms

pub least_head : (e : ℕ) (ms : List ℕ) → DoRise ms → 0 < length ms → least e ms ≡ min (suc (get_or ms 0 0)) (suc e)
least_head e [] h l = absurd (omega (arith, l))
least_head e (m ∷ ms) h l = least_first e m ms h

-- ---- the watermark

pub some_mark : (e n : ℕ) (rows : List Row) → has_no_row rows ≡ false → suc n ≡ least e (open_of rows) → low_watermark e rows ≡ Some n
some_mark e n [] h q = absurd (true≢false h)
some_mark e n (r ∷ rows) h q =
    let back : suc n - 1 ≡ n = omega arith in
    ap (λ m. Some (m - 1)) (least_open e (r ∷ rows) ∙ sym q) ∙ ap Some back

none_changed : (f : Row → Row) (i : ℕ) (rows : List Row) → has_no_row (changed_at f i rows) ≡ has_no_row rows
none_changed f i [] = refl
none_changed f zero (r ∷ rows) = refl
none_changed f (suc i) (r ∷ rows) = refl

none_moved : (m : Option Moved) (rows : List Row) → has_no_row (with_moved m rows) ≡ has_no_row rows
none_moved None rows = refl
none_moved (Some m) rows = none_changed (moved m) m.place rows

none_put : (r : Row) (rows : List Row) → has_no_row (put_row r rows) ≡ false
none_put r [] = refl
none_put r (a ∷ rows) = by (before r.token a)
  where
    by : (b : Bool) → has_no_row (cond b (r ∷ a ∷ rows) (a ∷ put_row r rows)) ≡ false
    by true = refl
    by false = refl

none_puts : (new rows : List Row) → has_no_row (put_rows new rows) ≡ (has_no_row rows && has_no_row new)
none_puts [] rows = by (has_no_row rows)
  where
    by : (b : Bool) → b ≡ (b && true)
    by true = refl
    by false = refl
none_puts (r ∷ new) rows = none_puts new (put_row r rows) ∙ ap (λ b. b && has_no_row new) (none_put r rows) ∙ by (has_no_row rows)
  where
    by : (b : Bool) → false ≡ (b && false)
    by true = refl
    by false = refl

pub none_updated : (m : Option Moved) (new rows : List Row) → has_no_row (updated m new rows) ≡ (has_no_row rows && has_no_row new)
none_updated m new rows = none_puts new (with_moved m rows) ∙ ap (λ b. b && has_no_row new) (none_moved m rows)

pub least_updated : (e n : ℕ) (m : Option Moved) (new rows : List Row) → suc n ≡ least_among (least e (open_of (with_moved m rows))) new → suc n ≡ least e (open_of (updated m new rows))
least_updated e n m new rows q = q ∙ sym (ap (least e) (open_puts new (with_moved m rows)) ∙ least_puts e new (open_of (with_moved m rows)))

pub least_out : (e n : ℕ) (ms : List ℕ) → DoRise ms → 0 < length ms → (get_or ms 0 0 ≡ n → ⊥) → least e (take_out n ms) ≡ min (suc (get_or ms 0 0)) (suc e)
least_out e n [] h l q = absurd (omega (arith, l))
least_out e n (m ∷ ms) h l q = least_left e n m ms h (not_eq m n q)

pub least_moves : (e : ℕ) (r : Row) (m : Moved) (ms : List ℕ) → r.finished ≡ false → m.finished ≡ false → least e (put_open (moved m r) (take_open r ms)) ≡ min (suc m.through) (least e (take_out r.through ms))
least_moves e r m ms p q =
    ap (λ b. least e (cond (b || m.finished) (cond b ms (take_out r.through ms)) (put_number m.through (cond b ms (take_out r.through ms))))) p
    ∙ ap (λ b. least e (cond b (take_out r.through ms) (put_number m.through (take_out r.through ms)))) q
    ∙ least_put e m.through (take_out r.through ms)

-- ---- rows that nobody reads, or somebody
