-- The rows of a book stay sound: when a lease is given back, and with an entry.
use Rattle.std.proofs.Common.{◌≡◌, ◌≢◌, ◌⊎◌, ℕ, ◌≤◌, Bool, true, false, cond, not, ◌&&◌, ◌||◌, List, [], ◌∷◌, Option, Some, None, ⊎_elim, inl, inr, sym, refl, ap, ◌∙◌, subst, arith, true≢false, bytes_eq, map, Contains, nat_le, IfSome}
use Rattle.std.proofs.lemmas.Bool.{and_parts}
use Rattle.cs_types.specs.declared.change.Change.{Change}
use Rattle.cs_types.specs.Members.{bytes_same, in_nil, in_cons, in_map, from_map, from_filter}
use Rattle.cs_link.specs.declared.batch.NewChild.{NewChild}
use Rattle.cs_schedule.specs.declared.entry.Entry.{Entry}
use Rattle.cs_schedule.specs.declared.entry.Entry.TheVariants.{Begin, Opened, Progress, Finished}
use Rattle.cs_schedule.specs.declared.row.Row.{Row}
use Rattle.cs_schedule.specs.Board.{Shown, IsOrdered, row_of}
use Rattle.cs_schedule.specs.Consistent.{HasEnded, IsReady, born, advanced, has_row, put_rows, rowless}
use Rattle.cs_schedule.specs.Plan.{seen_with}
use Rattle.cs_schedule.specs.Fold.{may_go_on, is_as, may_come, may_follow}
use Rattle.cs_schedule.specs.Follows.{IsNextOf}
use Rattle.cs_schedule.specs.Rows.{is_of}
use Rattle.cs_schedule.specs.Update.{Planned, applied}
use Rattle.cs_book.specs.Waiting.{IsWithin}
use Rattle.cs_book.specs.Book.{IsSound, IsOut, rows_back, opening_back}
use Rattle.cs_book.specs.Planned.{IsEntryFor}
use Rattle.cs_book.proofs.Tools.{le_true}
use Rattle.cs_book.proofs.Tokens.{IsOther, AreReadyBut, same_row, token_of, puts_from, puts_kept, ready_back, within_back, none_back}

-- ---- a lease is given back

pub sound_back : (b c : Shown) (is_opening caught_up : Bool) (token : Option (List ℕ)) → IsOrdered b.rows → IsSound b is_opening → c.window ≡ b.window → c.rows ≡ rows_back token caught_up b.rows → IsSound c (opening_back token is_opening)
sound_back b c is_opening caught_up token O S window rows = record {
  order = subst (λ v. v.start ≤ v.end) (sym window) S.order;
  within = λ y i. subst (λ v. IsWithin v.end y) (sym window) (within_back b.window.end token caught_up b.rows O S.within y (subst (λ l. Contains l y) rows i));
  leased = λ y i l. subst (λ z. IsReady z y) (sym rows) (ready_back token caught_up b.rows O (λ z j m _. S.leased z j m) y (subst (λ z. Contains z y) rows i) l);
  first = λ is. rows ∙ none_back token caught_up b.rows (S.first (still token is));
}
  where
    still : (t : Option (List ℕ)) → opening_back t is_opening ≡ true → is_opening ≡ true
    still None h = absurd (true≢false (sym h))
    still (Some t) h = h

-- ---- the row that an entry moves

-- the row of a token goes on to a moment
record Goes (rows : List Row) (e : ℕ) (t : List ℕ) (n : ℕ) : Type 0 where
  row : Row
  at : row_of rows t ≡ Some row
  low : row.through ≤ n
  top : n ≤ e

goes : (rows : List Row) (e : ℕ) (t : List ℕ) (n : ℕ) → may_go_on e (row_of rows t) n ≡ true → Goes rows e t n
goes rows e t n h = by (row_of rows t) refl h
  where
    by : (o : Option Row) → row_of rows t ≡ o → may_go_on e o n ≡ true → Goes rows e t n
    by None q k = absurd (true≢false (sym k))
    by (Some r) q k =
        let p = and_parts (not r.finished) (nat_le r.through n && nat_le n e) k in
        let l = and_parts (nat_le r.through n) (nat_le n e) p.1 in
        record { row = r; at = q; low = le_true r.through n l.0; top = le_true n e l.1 }

comes : (rows : List Row) (e : ℕ) (xs : List NewChild) → may_come e rows xs ≡ true → (x : NewChild) → Contains xs x → x.start ≤ e
comes rows e [] h x i = absurd (in_nil x i)
comes rows e (y ∷ xs) h x i =
    let p = and_parts (nat_le y.start e && is_as y (row_of rows y.token)) (may_come e rows xs) h in
    ⊎_elim
    (λ (same : x ≡ y). subst (λ (z : NewChild). z.start ≤ e) (sym same) (le_true y.start e (and_parts (nat_le y.start e) (is_as y (row_of rows y.token)) p.0).0))
    (λ (j : Contains xs x). comes rows e xs p.1 x j)
    (in_cons y x xs i)

-- ---- what an entry makes of a row

abbrev moved_row : List ℕ → ℕ → List Change → Bool → Row → Row
moved_row t n cs fin r = record { token = r.token; parents = r.parents; start = r.start; through = n; seen = seen_with r n cs; finished = r.finished || fin; leased = r.leased; tries = r.tries }

-- it is that row, or that of the token at another moment
pub record IsAdvanced (t : List ℕ) (n : ℕ) (r y : Row) : Type 0 where
  pub token : y.token ≡ r.token
  pub start : y.start ≡ r.start
  pub finished : r.finished ≡ true → y.finished ≡ true
  pub moved : ((t ≡ r.token) × (y.through ≡ n)) ⊎ (y ≡ r)

pub advances : (t : List ℕ) (n : ℕ) (cs : List Change) (fin : Bool) (r : Row) → IsAdvanced t n r (advanced t n cs fin r)
advances t n cs fin r = by (bytes_eq t r.token) refl
  where
    by : (b : Bool) → bytes_eq t r.token ≡ b → IsAdvanced t n r (cond b (moved_row t n cs fin r) r)
    by true q = record { token = refl; start = refl; finished = λ h. ap (λ z. z || fin) h; moved = inl (bytes_same t r.token q, refl) }
    by false q = record { token = refl; start = refl; finished = λ h. h; moved = inr refl }

abbrev pub at_start : ℕ → List ℕ → Row
at_start s t = born (record { token = t; parents = []; start = s })

pub born_within : (e : ℕ) (x : NewChild) → x.start ≤ e → IsWithin e (born x)
born_within e x h = record { start = omega arith; end = omega (arith, h) }

-- ---- all is in the window

module _ (rows : List Row) (e : ℕ) (O : IsOrdered rows) (W : (y : Row) → Contains rows y → IsWithin e y) where
  front_within : (t : List ℕ) (n : ℕ) (cs : List Change) (fin : Bool) → Goes rows e t n → (y : Row) → Contains (map (advanced t n cs fin) rows) y → IsWithin e y
  front_within t n cs fin G y i =
      let u = from_map (advanced t n cs fin) y rows i in
      let A = advances t n cs fin u.0 in
      let its = W u.0 u.1 in
      subst (IsWithin e) (sym u.2)
      (⊎_elim
      (λ (m : (t ≡ u.0.token) × ((advanced t n cs fin u.0).through ≡ n)).
      let there = token_of rows t G.row G.at in
      let same : u.0 ≡ G.row = same_row rows O u.0 G.row u.1 there.0 (sym m.0 ∙ sym there.1) in
      let through : u.0.through ≡ G.row.through = ap (λ (z : Row). z.through) same in
      let start = its.start in
      let begins = A.start in
      let goes = m.1 in
      let low = G.low in
      let top = G.top in
      record { start = omega (arith, start, begins, goes, low, through); end = omega (arith, goes, top) })
      (λ (same : advanced t n cs fin u.0 ≡ u.0). subst (IsWithin e) (sym same) its)
      A.moved)

  pub entry_within : (s : ℕ) (o : Option Entry) → s ≤ e → IfSome o (λ x. may_follow e rows x ≡ true) → (y : Row) → Contains (applied s rows o) y → IsWithin e y
  entry_within s None order follows y i = W y i
  entry_within s (Some (Begin w)) order follows y i = W y i
  entry_within s (Some (Opened ts)) order follows y i =
      ⊎_elim
      (λ (j : Contains (map (at_start s) ts) y). let u = from_map (at_start s) y ts j in subst (IsWithin e) (sym u.2) (born_within e (record { token = u.0; parents = []; start = s }) order))
      (λ (j : Contains rows y). W y j)
      (puts_from (map (at_start s) ts) rows y i)
  entry_within s (Some (Progress t n cs)) order follows y i = front_within t n cs false (goes rows e t n follows) y i
  entry_within s (Some (Finished t n cs xs)) order follows y i =
      let p = and_parts (may_go_on e (row_of rows t) n) (may_come e rows xs) follows in
      ⊎_elim
      (λ (j : Contains (map born (rowless rows xs)) y).
      let u = from_map born y (rowless rows xs) j in
      let v = from_filter (λ (x : NewChild). not (has_row x.token rows)) u.0 xs u.1 in
      subst (IsWithin e) (sym u.2) (born_within e u.0 (comes rows e xs p.1 u.0 v.0)))
      (λ (j : Contains (map (advanced t n cs true) rows) y). front_within t n cs true (goes rows e t n p.0) y j)
      (puts_from (map born (rowless rows xs)) (map (advanced t n cs true) rows) y i)

-- ---- what is finished stays so, and another row that is leased is an old one

module _ (rows : List Row) (s : ℕ) where
  front_ended : (t : List ℕ) (n : ℕ) (cs : List Change) (fin : Bool) (u : List ℕ) → HasEnded rows u → HasEnded (map (advanced t n cs fin) rows) u
  front_ended t n cs fin u (x, i, token, ended) =
      let A = advances t n cs fin x in
      (advanced t n cs fin x, in_map (advanced t n cs fin) x rows i, A.token ∙ token, A.finished ended)

  put_ended : (news old : List Row) (u : List ℕ) → HasEnded old u → HasEnded (put_rows news old) u
  put_ended news old u (x, i, token, ended) = (x, puts_kept news old x i, token, ended)

  entry_ended : (o : Option Entry) (u : List ℕ) → HasEnded rows u → HasEnded (applied s rows o) u
  entry_ended None u h = h
  entry_ended (Some (Begin w)) u h = h
  entry_ended (Some (Opened ts)) u h = put_ended (map (at_start s) ts) rows u h
  entry_ended (Some (Progress t n cs)) u h = front_ended t n cs false u h
  entry_ended (Some (Finished t n cs xs)) u h = put_ended (map born (rowless rows xs)) (map (advanced t n cs true) rows) u (front_ended t n cs true u h)

  front_old : (t : List ℕ) (n : ℕ) (cs : List Change) (fin : Bool) (y : Row) → Contains (map (advanced t n cs fin) rows) y → (y.token ≢ t) → Contains rows y
  front_old t n cs fin y i other =
      let u = from_map (advanced t n cs fin) y rows i in
      let A = advances t n cs fin u.0 in
      ⊎_elim
      (λ (m : (t ≡ u.0.token) × ((advanced t n cs fin u.0).through ≡ n)). absurd (other (ap (λ (z : Row). z.token) u.2 ∙ A.token ∙ sym m.0)))
      (λ (same : advanced t n cs fin u.0 ≡ u.0). subst (λ z. Contains rows z) (sym (u.2 ∙ same)) u.1)
      A.moved

  born_old : (xs : List NewChild) (y : Row) → Contains (map born xs) y → y.leased ≡ true → ⊥
  born_old xs y i l = let u = from_map born y xs i in true≢false (sym l ∙ ap (λ (z : Row). z.leased) u.2)

  opened_old : (ts : List (List ℕ)) (y : Row) → Contains (map (at_start s) ts) y → y.leased ≡ true → ⊥
  opened_old ts y i l = let u = from_map (at_start s) y ts i in true≢false (sym l ∙ ap (λ (z : Row). z.leased) u.2)

  -- the entry is not of another row
  apart : (token : Option (List ℕ)) (t : List ℕ) (x : Entry) → ((v : List ℕ) → is_of v x ≡ bytes_eq t v) → ((ts : List (List ℕ)) → x ≡ Opened ts → ⊥) → IsEntryFor token (Some x) → (y : Row) → IsOther token y → y.token ≢ t
  apart None t x of never for y other = absurd (never for.0 for.1)
  apart (Some v) t x of never for y other = λ same. other (same ∙ bytes_same t v (sym (of v) ∙ for))

  entry_old : (o : Option Entry) (token : Option (List ℕ)) → IsEntryFor token o → (y : Row) → Contains (applied s rows o) y → y.leased ≡ true → IsOther token y → Contains rows y
  entry_old None token for y i l other = i
  entry_old (Some (Begin w)) token for y i l other = i
  entry_old (Some (Opened ts)) token for y i l other =
      ⊎_elim (λ (j : Contains (map (at_start s) ts) y). absurd (opened_old ts y j l)) (λ (j : Contains rows y). j) (puts_from (map (at_start s) ts) rows y i)
  entry_old (Some (Progress t n cs)) token for y i l other =
      front_old t n cs false y i (apart token t (Progress t n cs) (λ v. refl) (λ ts e. absurd cc) for y other)
  entry_old (Some (Finished t n cs xs)) token for y i l other =
      ⊎_elim
      (λ (j : Contains (map born (rowless rows xs)) y). absurd (born_old (rowless rows xs) y j l))
      (λ (j : Contains (map (advanced t n cs true) rows) y). front_old t n cs true y j (apart token t (Finished t n cs xs) (λ v. refl) (λ ts e. absurd cc) for y other))
      (puts_from (map born (rowless rows xs)) (map (advanced t n cs true) rows) y i)

  entry_ready : (o : Option Entry) (token : Option (List ℕ)) → IsEntryFor token o → ((y : Row) → Contains rows y → y.leased ≡ true → IsReady rows y) → AreReadyBut token (applied s rows o)
  entry_ready o token for R y i l other =
      let ready = R y (entry_old o token for y i l other) l in
      record { there = i; unfinished = ready.unfinished; parents = λ u j. entry_ended o u (ready.parents u j) }

-- ---- with an entry

pub sound_entry : (b c : Shown) (p : Planned) (is_opening caught_up : Bool) (token : Option (List ℕ)) → IsNextOf b p → IsEntryFor token p.entry → IsOut b is_opening token → IsSound b is_opening
    → c.window ≡ b.window → c.rows ≡ rows_back token caught_up (applied b.window.start b.rows p.entry) → IsSound c (opening_back token is_opening)
sound_entry b c p is_opening caught_up token N for out S window rows =
    let s = b.window.start in
    let e = b.window.end in
    let all = applied s b.rows p.entry in
    let O : IsOrdered all = subst IsOrdered N.plan.rows N.plan.ordered in
    record {
      order = subst (λ v. v.start ≤ v.end) (sym window) S.order;
      within = λ y i. subst (λ v. IsWithin v.end y) (sym window) (within_back e token caught_up all O (entry_within b.rows e N.ordered S.within s p.entry S.order N.follows) y (subst (λ l. Contains l y) rows i));
      leased = λ y i l. subst (λ z. IsReady z y) (sym rows) (ready_back token caught_up all O (entry_ready b.rows s p.entry token for S.leased) y (subst (λ z. Contains z y) rows i) l);
      first = λ is. absurd (none token out is);
    }
  where
    row_in_none : (t : List ℕ) (r : Row) (rows : List Row) → rows ≡ [] → row_of rows t ≡ Some r → ⊥
    row_in_none t r rows none at = let no : None ≡ Some r = sym (ap (λ l. row_of l t) none) ∙ at in absurd cc

    none : (t : Option (List ℕ)) → IsOut b is_opening t → opening_back t is_opening ≡ true → ⊥
    none None out h = true≢false (sym h)
    none (Some t) out h = row_in_none t out.0 b.rows (S.first h) out.1
