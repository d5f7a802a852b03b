-- What is claimed of a board, and what stays so.
use Rattle.std.proofs.Common.{◌≡◌, ◌≢◌, ◌⊎◌, ℕ, zero, suc, ◌<◌, ◌≤◌, Bool, true, false, cond, not, ◌&&◌, ◌||◌, List, [], ◌∷◌, length, get_or, Option, Some, None, ⊎_elim, inl, inr, sym, refl, ap, ◌∙◌, subst, arith, true≢false, map, Contains}
use Rattle.std.specs.Prelude.{slice_index_or}
use Rattle.std.proofs.lemmas.Bool.{and_parts, and_from}
use Rattle.cs_types.specs.Members.{in_nil, in_head, in_tail, in_cons, from_map}
use Rattle.cs_link.specs.declared.feed.Feed.{Feed}
use Rattle.cs_schedule.specs.declared.entry.Entry.{Entry}
use Rattle.cs_schedule.specs.declared.row.Row.{Row}
use Rattle.cs_schedule.specs.Board.{Shown, IsOrdered, row_of, same_token, has_ended, have_ended, may_read, MayReadIsReady, changed_at, leased, given_back, fresh}
use Rattle.cs_schedule.specs.Consistent.{HasEnded, IsReady, IsConsistent}
use Rattle.cs_schedule.specs.Follows.{IsBoardOf, IsFollowed, IsLeasedAt, NoneIsOrphan}
use Rattle.cs_book.specs.Waiting.{NoneMayRead, AreFree, AreFinished, IsWithin, first_unfinished, first_missing}
use Rattle.cs_book.specs.declared.lease.Lease.{Lease}
use Rattle.cs_book.specs.Lease.{row_lease}
use Rattle.cs_book.specs.declared.claim.Claim.{Claim}
use Rattle.cs_book.specs.declared.claim.Claim.TheVariants as claims
use Rattle.cs_book.specs.Book.{IsSound, IsOut, rows_back, opening_back}
use Rattle.cs_book.proofs.Tokens.{row_at, remade, remade_is}
use Rattle.cs_book.specs.Claim.{is_leased, IsLeasedRow, IsStuck, IsNext, opening_after, HasLeaseOut, IsNoOrphan}

either_false : (a b : Bool) → (a || b) ≡ false → (a ≡ false) × (b ≡ false)
either_false true b h = absurd (true≢false h)
either_false false b h = (refl, h)

pub none_leased : (rows : List Row) → is_leased rows ≡ false → AreFree rows
none_leased [] h r i = absurd (in_nil r i)
none_leased (a ∷ rows) h r i =
    let both = either_false a.leased (is_leased rows) h in
    ⊎_elim (λ (e : r ≡ a). ap (λ (z : Row). z.leased) e ∙ both.0) (λ (j : Contains rows r). none_leased rows both.1 r j) (in_cons a r rows i)

-- where no place gives a row that may be read, none may be
pub none_reads : (rows : List Row) → ((i : ℕ) (d : Row) → i < length rows → may_read rows (slice_index_or rows i d) ≡ false) → NoneMayRead rows
none_reads rows h r i = subst (λ (z : Row). may_read rows z ≡ false) i.2 (h i.0 r i.1)

pub none_of_nil : (rows : List Row) → rows ≡ [] → NoneMayRead rows
none_of_nil rows none r i = absurd (in_nil r (subst (λ l. Contains l r) none i))

pub some_rows : (rows : List Row) → 1 ≤ length rows → rows ≢ []
some_rows rows some none = let short : 1 ≤ 0 = subst (λ l. 1 ≤ length l) none some in omega (arith, short)

pub stuck_next : (b c : Shown) (is_opening : Bool) (order : ℕ) (claim : Claim) → c ≡ b → b.rows ≢ [] → NoneMayRead b.rows → IsStuck b.rows claim → IsNext b c is_opening order claim
stuck_next b c is_opening order (claims.Initial lease) same some none is = absurd is
stuck_next b c is_opening order (claims.Row lease) same some none is = absurd is
stuck_next b c is_opening order claims.Busy same some none is = (none, inr (some, is), same)
stuck_next b c is_opening order (claims.Orphan row parent) same some none is = (some, is.0, is.1, same)
stuck_next b c is_opening order claims.Done same some none is = (some, is, same)

-- a lease is a row's that may be read
pub not_leased : (rows : List Row) (r : Row) → may_read rows r ≡ true → r.leased ≡ false
not_leased rows r h = let p = and_parts (not r.finished && not r.leased) _ h in of_not r.leased (and_parts (not r.finished) (not r.leased) p.0).1
  where
    of_not : (b : Bool) → not b ≡ true → b ≡ false
    of_not true h = absurd (true≢false (sym h))
    of_not false h = refl

-- ---- a row is leased

changed_from : (f : Row → Row) (i : ℕ) (rows : List Row) (y : Row) → Contains (changed_at f i rows) y → Contains rows y ⊎ ((x : Row) × (get_or rows i x ≡ x) × Contains rows x × (y ≡ f x))
changed_from f i [] y j = absurd (in_nil y j)
changed_from f zero (a ∷ rows) y j = ⊎_elim (λ (e : y ≡ f a). inr (a, refl, in_head a rows, e)) (λ (k : Contains rows y). inl (in_tail a y rows k)) (in_cons (f a) y rows j)
changed_from f (suc i) (a ∷ rows) y j =
    ⊎_elim
    (λ (e : y ≡ a). inl (subst (λ z. Contains (a ∷ rows) z) (sym e) (in_head a rows)))
    (λ (k : Contains (changed_at f i rows) y). ⊎_elim (λ (l : Contains rows y). inl (in_tail a y rows l)) (λ (u : (x : Row) × (get_or rows i x ≡ x) × Contains rows x × (y ≡ f x)). inr (u.0, u.1, in_tail a u.0 rows u.2, u.3)) (changed_from f i rows y k))
    (in_cons a y (changed_at f i rows) j)

changed_to : (f : Row → Row) (i : ℕ) (rows : List Row) (x : Row) → Contains rows x → Contains (changed_at f i rows) x ⊎ Contains (changed_at f i rows) (f x)
changed_to f i [] x j = absurd (in_nil x j)
changed_to f zero (a ∷ rows) x j = ⊎_elim (λ (e : x ≡ a). inr (subst (λ z. Contains (f a ∷ rows) (f z)) (sym e) (in_head (f a) rows))) (λ (k : Contains rows x). inl (in_tail (f a) x rows k)) (in_cons a x rows j)
changed_to f (suc i) (a ∷ rows) x j =
    ⊎_elim
    (λ (e : x ≡ a). inl (subst (λ z. Contains (a ∷ changed_at f i rows) z) (sym e) (in_head a (changed_at f i rows))))
    (λ (k : Contains rows x). ⊎_elim (λ (l : Contains (changed_at f i rows) x). inl (in_tail a x (changed_at f i rows) l)) (λ (l : Contains (changed_at f i rows) (f x)). inr (in_tail a (f x) (changed_at f i rows) l)) (changed_to f i rows x k))
    (in_cons a x rows j)

ended_leased : (i : ℕ) (rows : List Row) (u : List ℕ) → HasEnded rows u → HasEnded (changed_at leased i rows) u
ended_leased i rows u (x, j, token, ended) =
    ⊎_elim (λ (k : Contains (changed_at leased i rows) x). (x, k, token, ended)) (λ (k : Contains (changed_at leased i rows) (leased x)). (leased x, k, token, ended)) (changed_to leased i rows x j)

ready_leased : (i : ℕ) (rows : List Row) (y z : Row) → IsReady rows y → Contains (changed_at leased i rows) z → z.finished ≡ y.finished → z.parents ≡ y.parents → IsReady (changed_at leased i rows) z
ready_leased i rows y z R there finished parents = record {
  there = there;
  unfinished = finished ∙ R.unfinished;
  parents = λ u j. ended_leased i rows u (R.parents u (subst (λ l. Contains l u) parents j));
}

at_place : (rows : List Row) (i : ℕ) (d e : Row) → i < length rows → get_or rows i d ≡ get_or rows i e
at_place [] i d e lt = absurd (omega (arith, lt))
at_place (a ∷ rows) zero d e lt = refl
at_place (a ∷ rows) (suc i) d e lt = at_place rows i d e (omega (arith, lt))

pub sound_leased : (b c : Shown) (is_opening : Bool) (place : ℕ) (r : Row) → IsSound b is_opening → c.window ≡ b.window → c.rows ≡ changed_at leased place b.rows → place < length b.rows → get_or b.rows place r ≡ r → IsReady b.rows r → IsSound c is_opening
sound_leased b c is_opening place r S window rows inside at R = record {
  order = subst (λ v. v.start ≤ v.end) (sym window) S.order;
  within = λ y i.
      subst (λ v. IsWithin v.end y) (sym window)
      (⊎_elim
      (λ (j : Contains b.rows y). S.within y j)
      (λ (u : (x : Row) × (get_or b.rows place x ≡ x) × Contains b.rows x × (y ≡ leased x)). let w = S.within u.0 u.2 in subst (IsWithin b.window.end) (sym u.3) (record { start = w.start; end = w.end }))
      (from y i));
  leased = λ y i l.
      subst (λ z. IsReady z y) (sym rows)
      (⊎_elim
      (λ (j : Contains b.rows y). ready_leased place b.rows y y (S.leased y j l) (subst (λ z. Contains z y) rows i) refl refl)
      (λ (u : (x : Row) × (get_or b.rows place x ≡ x) × Contains b.rows x × (y ≡ leased x)).
      let same : u.0 ≡ r = sym u.1 ∙ at_place b.rows place u.0 r inside ∙ at in
      ready_leased place b.rows r y R (subst (λ z. Contains z y) rows i) (ap (λ (z : Row). z.finished) (u.3 ∙ ap leased same)) (ap (λ (z : Row). z.parents) (u.3 ∙ ap leased same)))
      (from y i));
  first = λ is. absurd (none (S.first is));
}
  where
    from : (y : Row) → Contains c.rows y → Contains b.rows y ⊎ ((x : Row) × (get_or b.rows place x ≡ x) × Contains b.rows x × (y ≡ leased x))
    from y i = changed_from leased place b.rows y (subst (λ z. Contains z y) rows i)

    none : b.rows ≡ [] → ⊥
    none nil = let short : place < 0 = subst (λ l. place < length l) nil inside in omega (arith, short)

changed_has : (f : Row → Row) (i : ℕ) (rows : List Row) (r : Row) → i < length rows → get_or rows i r ≡ r → Contains (changed_at f i rows) (f r)
changed_has f i [] r lt at = absurd (omega (arith, lt))
changed_has f zero (a ∷ rows) r lt at = subst (λ z. Contains (f a ∷ rows) (f z)) at (in_head (f a) rows)
changed_has f (suc i) (a ∷ rows) r lt at = in_tail a (f r) (changed_at f i rows) (changed_has f i rows r (omega (arith, lt)) at)

-- its row is found by its token
pub found_leased : (b c : Shown) (place : ℕ) (r : Row) → IsOrdered c.rows → c.rows ≡ changed_at leased place b.rows → place < length b.rows → get_or b.rows place r ≡ r → (x : Row) × (row_of c.rows r.token ≡ Some x) × (x.leased ≡ true)
found_leased b c place r O rows inside at =
    (leased r, row_at c.rows r.token (leased r) O (subst (λ l. Contains l (leased r)) (sym rows) (changed_has leased place b.rows r inside at)) refl, refl)

pub leased_row : MayReadIsReady → (b c : Shown) (place : ℕ) (r : Row) (lease : Lease) → IsOrdered b.rows → IsOrdered c.rows → place < length b.rows → get_or b.rows place r ≡ r → may_read b.rows r ≡ true → lease ≡ row_lease b.window r
    → c ≡ record { window = b.window; rows = changed_at leased place b.rows; room = b.room } → IsLeasedRow b place c lease
leased_row law b c place r lease O P inside at may its is =
    let both = (law b.rows r O (place, inside, at)).0 may in
    record {
      row = r;
      inside = inside;
      at = at;
      ready = both.0;
      free = both.1;
      its = its;
      leased = (ap (λ (z : Shown). z.window) is, ap (λ (z : Shown). z.rows) is);
      room = ap (λ (z : Shown). z.room) is;
      out = found_leased b c place r P (ap (λ (z : Shown). z.rows) is) inside at;
    }

-- ---- what a claim leaves

pub sound_next : (b c : Shown) (is_opening : Bool) (order : ℕ) (claim : Claim) → IsSound b is_opening → IsNext b c is_opening order claim → IsSound c (opening_after claim is_opening)
sound_next b c is_opening order (claims.Initial lease) S N = subst (λ z. IsSound z true) (sym N.3) (record { order = S.order; within = S.within; leased = S.leased; first = λ _. N.0 })
sound_next b c is_opening order (claims.Row lease) S N =
    let L = N.2 in
    sound_leased b c is_opening N.0 L.row S L.leased.0 L.leased.1 L.inside L.at L.ready
sound_next b c is_opening order claims.Busy S N = subst (λ z. IsSound z is_opening) (sym N.2) S
sound_next b c is_opening order (claims.Orphan row parent) S N = subst (λ z. IsSound z is_opening) (sym N.3) S
sound_next b c is_opening order claims.Done S N = subst (λ z. IsSound z is_opening) (sym N.2) S

pub out_next : (b c : Shown) (is_opening : Bool) (order : ℕ) (claim : Claim) → IsNext b c is_opening order claim → HasLeaseOut c (opening_after claim is_opening) claim
out_next b c is_opening order (claims.Initial lease) N = subst (λ l. IsOut c true l.args.token) (sym N.2) refl
out_next b c is_opening order (claims.Row lease) N = subst (λ l. IsOut c is_opening l.args.token) (sym N.2.its) N.2.out
out_next b c is_opening order claims.Busy N = tt
out_next b c is_opening order (claims.Orphan row parent) N = tt
out_next b c is_opening order claims.Done N = tt

pub board_next : ((es : List Entry) (x y : Shown) (place : ℕ) → IsLeasedAt place x y → IsBoardOf es x → IsBoardOf es y) → (b c : Shown) (is_opening : Bool) (order : ℕ) (claim : Claim) → IsNext b c is_opening order claim → (c.window ≡ b.window) × ((es : List Entry) → IsBoardOf es b → IsBoardOf es c)
board_next law b c is_opening order (claims.Initial lease) N = (ap (λ z. z.window) N.3, λ es. subst (IsBoardOf es) (sym N.3))
board_next law b c is_opening order (claims.Row lease) N = (N.2.leased.0, λ es. law es b c N.0 N.2.leased)
board_next law b c is_opening order claims.Busy N = (ap (λ z. z.window) N.2, λ es. subst (IsBoardOf es) (sym N.2))
board_next law b c is_opening order (claims.Orphan row parent) N = (ap (λ z. z.window) N.3, λ es. subst (IsBoardOf es) (sym N.3))
board_next law b c is_opening order claims.Done N = (ap (λ z. z.window) N.2, λ es. subst (IsBoardOf es) (sym N.2))

waits_for : (rows : List Row) (r : Row) → first_unfinished rows ≡ Some r → Contains rows r × (r.finished ≡ false)
waits_for [] r h = absurd cc
waits_for (a ∷ rows) r h = by a.finished refl h (waits_for rows r)
  where
    by : (b : Bool) → a.finished ≡ b → cond b (first_unfinished rows) (Some a) ≡ Some r → (first_unfinished rows ≡ Some r → Contains rows r × (r.finished ≡ false)) → Contains (a ∷ rows) r × (r.finished ≡ false)
    by true q k g = let u = g k in (in_tail a r rows u.0, u.1)
    by false q k g = let same : r ≡ a = cc in (subst (λ z. Contains (a ∷ rows) z) (sym same) (in_head a rows), ap (λ (z : Row). z.finished) same ∙ q)

pub none_waits : (rows : List Row) → first_unfinished rows ≡ None → AreFinished rows
none_waits [] h r i = absurd (in_nil r i)
none_waits (a ∷ rows) h r i = by a.finished refl h (none_waits rows)
  where
    by : (b : Bool) → a.finished ≡ b → cond b (first_unfinished rows) (Some a) ≡ None → (first_unfinished rows ≡ None → AreFinished rows) → r.finished ≡ true
    by true q k g = ⊎_elim (λ (e : r ≡ a). ap (λ (z : Row). z.finished) e ∙ q) (λ (j : Contains rows r). g k r j) (in_cons a r rows i)
    by false q k g = absurd cc

all_ended : (rows : List Row) (tokens : List (List ℕ)) → first_missing rows tokens ≡ None → have_ended rows tokens ≡ true
all_ended rows [] h = refl
all_ended rows (t ∷ tokens) h = by (has_ended rows t) refl h (all_ended rows tokens)
  where
    by : (b : Bool) → has_ended rows t ≡ b → cond b (first_missing rows tokens) (Some t) ≡ None → (first_missing rows tokens ≡ None → have_ended rows tokens ≡ true) → (has_ended rows t && have_ended rows tokens) ≡ true
    by true q k g = and_from (has_ended rows t) (have_ended rows tokens) q (g k)
    by false q k g = absurd cc

-- where no row may be read, one that is not finished waits for a parent
pub never_idle : (rows : List Row) (r : Row) → NoneMayRead rows → AreFree rows → first_unfinished rows ≡ Some r → first_missing rows r.parents ≡ None → ⊥
never_idle rows r none free waits ended =
    let u = waits_for rows r waits in
    let may : may_read rows r ≡ true =
    and_from (not r.finished && not r.leased) (have_ended rows r.parents) (and_from (not r.finished) (not r.leased) (ap not u.1) (ap not (free r u.0))) (all_ended rows r.parents ended) in
    true≢false (sym may ∙ none r u.0)

pub no_orphan : NoneIsOrphan → (b c : Shown) (is_opening : Bool) (order : ℕ) (claim : Claim) → IsOrdered b.rows → IsNext b c is_opening order claim → (f : Feed) (es : List Entry) → IsFollowed f b.window → IsBoardOf es b → IsConsistent f b.window es → IsNoOrphan claim
no_orphan law b c is_opening order (claims.Initial lease) O N f es F B S = tt
no_orphan law b c is_opening order (claims.Row lease) O N f es F B S = tt
no_orphan law b c is_opening order claims.Busy O N f es F B S = tt
no_orphan law b c is_opening order (claims.Orphan row parent) O N f es F B S =
    let waits = waits_for b.rows N.2.waiting N.2.first in
    true≢false (sym (law f es b F B S O (none_leased b.rows N.1) N.2.none N.2.waiting waits.0) ∙ waits.1)
no_orphan law b c is_opening order claims.Done O N f es F B S = tt

-- ---- a lease is given back, or all are

row_in_none : (t : List ℕ) (r : Row) (rows : List Row) → rows ≡ [] → row_of rows t ≡ Some r → ⊥
row_in_none t r rows none at = let no : None ≡ Some r = sym (ap (λ l. row_of l t) none) ∙ at in absurd cc

remade_unleased : (t : List ℕ) (rows : List Row) (r : Row) → row_of (remade (given_back false) t rows) t ≡ Some r → r.leased ≡ false
remade_unleased t [] r at = absurd cc
remade_unleased t (a ∷ rows) r at = by (same_token a.token t) refl at (remade_unleased t rows r)
  where
    by : (b : Bool) → same_token a.token t ≡ b → row_of (cond b (given_back false a ∷ rows) (a ∷ remade (given_back false) t rows)) t ≡ Some r → (row_of (remade (given_back false) t rows) t ≡ Some r → r.leased ≡ false) → r.leased ≡ false
    by true q k g = let at' : cond true (Some (given_back false a)) (row_of rows t) ≡ Some r = ap (λ z. cond z (Some (given_back false a)) (row_of rows t)) (sym q) ∙ k in let same : given_back false a ≡ r = cc in ap (λ (z : Row). z.leased) (sym same)
    by false q k g = g (ap (λ z. cond z (Some a) (row_of (remade (given_back false) t rows) t)) (sym q) ∙ k)

pub not_out : (b c : Shown) (was is_opening : Bool) (token : Option (List ℕ)) → c.rows ≡ rows_back token false b.rows → is_opening ≡ opening_back token was → IsOut c is_opening token → ⊥
not_out b c was is_opening None rows is out = true≢false (sym out ∙ is)
not_out b c was is_opening (Some t) rows is out =
    true≢false (sym out.2 ∙ remade_unleased t b.rows out.0 (ap (λ l. row_of l t) (sym (remade_is (given_back false) t b.rows) ∙ sym rows) ∙ out.1))

remade_same : (t : List ℕ) (rows : List Row) → ((r : Row) → row_of rows t ≡ Some r → r.leased ≡ false) → remade (given_back false) t rows ≡ rows
remade_same t [] h = refl
remade_same t (a ∷ rows) h = by (same_token a.token t) refl (remade_same t rows)
  where
    by : (b : Bool) → same_token a.token t ≡ b → (((r : Row) → row_of rows t ≡ Some r → r.leased ≡ false) → remade (given_back false) t rows ≡ rows) → cond b (given_back false a ∷ rows) (a ∷ remade (given_back false) t rows) ≡ a ∷ rows
    by true q g = ap (λ z. z ∷ rows) (back a (h a (ap (λ z. cond z (Some a) (row_of rows t)) q)))
      where
        back : (r : Row) → r.leased ≡ false → given_back false r ≡ r
        back r free = ap (λ (z : Bool). record { token = r.token; parents = r.parents; start = r.start; through = r.through; seen = r.seen; finished = r.finished; leased = z; tries = r.tries }) (sym free)
    by false q g = ap (λ l. a ∷ l) (g (λ r at. h r (ap (λ z. cond z (Some a) (row_of rows t)) q ∙ at)))

pub untouched : (b c : Shown) (was is_opening : Bool) (token : Option (List ℕ)) → c.rows ≡ rows_back token false b.rows → is_opening ≡ opening_back token was → (IsOut b was token → ⊥) → (c.rows ≡ b.rows) × (is_opening ≡ was)
untouched b c was is_opening None rows is idle = (rows, is ∙ by was idle)
  where
    by : (o : Bool) → (o ≡ true → ⊥) → false ≡ o
    by true never = absurd (never refl)
    by false never = refl
untouched b c was is_opening (Some t) rows is idle = (rows ∙ remade_is (given_back false) t b.rows ∙ remade_same t b.rows (λ r at. free r at r.leased refl), is)
  where
    free : (r : Row) → row_of b.rows t ≡ Some r → (l : Bool) → r.leased ≡ l → r.leased ≡ false
    free r at true q = absurd (idle (r, at, q))
    free r at false q = q

pub sound_fresh : (b c : Shown) (is_opening : Bool) → IsSound b is_opening → c.window ≡ b.window → c.rows ≡ map fresh b.rows → IsSound c false
sound_fresh b c is_opening S window rows = record {
  order = subst (λ v. v.start ≤ v.end) (sym window) S.order;
  within = λ y i. let u = from_map fresh y b.rows (subst (λ l. Contains l y) rows i) in subst (λ v. IsWithin v.end y) (sym window) (let w = S.within u.0 u.1 in subst (IsWithin b.window.end) (sym u.2) (record { start = w.start; end = w.end }));
  leased = λ y i l. let u = from_map fresh y b.rows (subst (λ z. Contains z y) rows i) in absurd (true≢false (sym l ∙ ap (λ (z : Row). z.leased) u.2));
  first = λ is. absurd (true≢false (sym is));
}
