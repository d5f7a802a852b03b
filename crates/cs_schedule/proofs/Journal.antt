-- A journal stays consistent with each entry that is made of a faithful batch.
use Rattle.std.proofs.Common.{◌≡◌, ◌↔◌, ℕ, suc, ◌-◌, ◌<◌, ◌≤◌, max, Bool, true, false, cond, ◌&&◌, List, [], ◌∷◌, ◌++◌, Option, Some, None, ⊎_elim, inl, inr, sym, refl, ap, ◌∙◌, subst, arith, true≢false, Contains, leb, eqb, append-nil}
use Rattle.std.proofs.lemmas.Bool.{le-leb, leb-true, or_cases, and_parts}
use Rattle.std.proofs.lemmas.List.Elements.{Contains-append_right, Contains-append_cases}
use Rattle.cs_types.specs.declared.change.Change.{Change}
use Rattle.cs_types.specs.declared.names.Window.{Window}
use Rattle.cs_types.specs.Members.{in_nil, in_head, in_cons, in_flat, in_map, from_map}
use Rattle.cs_place.specs.declared.part.Part.{Part}
use Rattle.cs_place.specs.Part.{IsBefore, Holds}
use Rattle.cs_link.specs.declared.batch.Batch.{Batch}
use Rattle.cs_link.specs.declared.batch.Known.{Known}
use Rattle.cs_link.specs.declared.batch.NewChild.{NewChild}
use Rattle.cs_link.specs.declared.feed.Feed.{Feed}
use Rattle.cs_link.specs.Batch.{limit, is_seen, is_known, IsFaithfulFirst}
use Rattle.cs_link.specs.Feed.{place_of}
use Rattle.cs_schedule.specs.declared.entry.Entry.{Entry}
use Rattle.cs_schedule.specs.declared.entry.Entry.TheVariants.{Begin, Opened, Progress, Finished}
use Rattle.cs_schedule.specs.declared.row.Row.{Row}
use Rattle.cs_schedule.specs.Consistent.{known_by, birth_of, IsRowOf, HasRow, HasEnded, HasBegun, InOrder, IsRight, IsConsistentNow, IsConsistent, born, is_end, news, through_by, entry_by, apply, MayMove}
use Rattle.cs_schedule.specs.Rows.{is_of, changes_in, births_in, changes, births, is_finished, next, row_after, rows_of, HasOpened, GoesOn, Fits, Folds}
use Rattle.cs_schedule.specs.Spelling.{IsInFormat}
use Rattle.cs_schedule.proofs.Parts.{Facts, same_token, before_limit}
use Rattle.cs_schedule.proofs.Batches.{IsTrueBatch, true_batch}
use Rattle.cs_schedule.proofs.Step.{child}
use Rattle.cs_schedule.proofs.Moves.{is_moved, right_with_entry}
use Rattle.cs_schedule.proofs.Entered.{FoldsFrom, folds_from, changes_more, rows_more, token_row, opened_first}
use Rattle.cs_schedule.proofs.More.{folds_more, shorter}
use Rattle.cs_schedule.proofs.Applied.{InFormat, in_format, untouched, applied}

-- what is right of some rows is right of the same rows in another order
pub right_same : (f : Feed) (s e : ℕ) (rows others : List Row) (done : List Change) → ((r : Row) → Contains rows r ↔ Contains others r) → IsRight f s e rows done → IsRight f s e others done
right_same f s e rows others done h R =
    record {
      single = λ a b i j t. R.single a b ((h a).1 i) ((h b).1 j) t;
      known = λ r i. R.known r ((h r).1 i);
      opened = λ r i q j a b. row (R.opened r ((h r).1 i) q j a b);
      children = λ q c u i x a b j n. row (R.children q c u i (back x) a b j n);
      parents = λ r i x t j. ended (R.parents r ((h r).1 i) x t j);
      bound = λ r q i j t. R.bound r q ((h r).1 i) j t;
      order = R.order;
      wanted = λ c i. let m = R.wanted c i in (m.0, (h m.0).0 m.1, m.2, m.3, m.4, m.5, m.6);
      whole = λ r q i. R.whole r q ((h r).1 i);
    }
  where
    row : {t : List ℕ} → HasRow rows t → HasRow others t
    row x = (x.0, (h x.0).0 x.1, x.2)

    ended : {t : List ℕ} → HasEnded rows t → HasEnded others t
    ended x = (x.0, (h x.0).0 x.1, x.2, x.3)

    back : {t : List ℕ} → HasEnded others t → HasEnded rows t
    back x = (x.0, (h x.0).1 x.1, x.2, x.3)

-- without rows nothing is to be said
pub right_of_none : (f : Feed) (s e : ℕ) → IsRight f s e [] []
right_of_none f s e =
    record {
      single = λ a b i. absurd (in_nil a i);
      known = λ r i. absurd (in_nil r i);
      opened = λ r i. absurd (in_nil r i);
      children = λ q c u i x. absurd (in_nil x.0 x.1);
      parents = λ r i. absurd (in_nil r i);
      bound = λ r q i. absurd (in_nil r i);
      order = tt;
      wanted = λ c i. absurd (in_nil c i);
      whole = λ r q i. absurd (in_nil r i);
    }

pub consistent_nil : (f : Feed) (w : Window) → IsConsistent f w []
consistent_nil f w [] ys q = record { folds = tt; right = right_of_none f w.start w.end }
consistent_nil f w (x ∷ xs) ys q = absurd (grind arith)

-- a longer list is consistent where it is so now and the shorter one is
consistent_more : (f : Feed) (w : Window) (es : List Entry) (x : Entry) → IsConsistent f w es → IsConsistentNow f w (es ++ x ∷ []) → IsConsistent f w (es ++ x ∷ [])
consistent_more f w es x S N xs ys q =
    ⊎_elim
    (λ (a : xs ≡ es ++ x ∷ []). subst (λ l. IsConsistentNow f w l) (sym a) N)
    (λ (b : (zs : List Entry) × (xs ++ zs ≡ es)). S xs b.0 b.1)
    (shorter xs ys es x q)

pub consistent_begin : (f : Feed) (w : Window) → IsConsistent f w (Begin w ∷ [])
consistent_begin f w = consistent_more f w [] (Begin w) (consistent_nil f w) (record { folds = (refl, tt); right = right_of_none f w.start w.end })

pub now : (f : Feed) (w : Window) (es : List Entry) → IsConsistent f w es → IsConsistentNow f w es
now f w es S = S es [] (append-nil es)

folds_back : (w : Window) (es : List Entry) → FoldsFrom w w.start w.end es → Folds w es
folds_back w [] h = tt
folds_back w (x ∷ es) h = h

-- ---- the entry of a batch

module _ (f : Feed) (F : Facts f) (w : Window) (first : 1 ≤ w.start) (late : f.created ≤ w.start) (in_window : w.start ≤ w.end) (es : List Entry) (S : IsConsistent f w es) (forms : (y : Entry) → Contains es y → IsInFormat y) (r : Row) (q : Part) (k : Known) (b : Batch) (form : IsInFormat (entry_by r b)) (M : MayMove f w.start w.end (rows_of w.start es) r q k b) where
  s : ℕ
  s = w.start

  R : IsRight f w.start w.end (rows_of w.start es) (changes es)
  R = (now f w es S).right

  T : IsTrueBatch f w.end k q b
  T = true_batch f w.end k q b M.batch

  origin : (p : NewChild) × Contains (births w.start es) p × (r ≡ row_after es p)
  origin = from_map (row_after es) r (births w.start es) M.there

  goes_on_of : (p : NewChild) → Contains (births w.start es) p → r ≡ row_after es p → GoesOn w.start w.end es r.token (through_by r b)
  goes_on_of p i e =
      let bound = R.bound r q M.there M.part M.its in
      let token : r.token ≡ p.token = ap (λ (z : Row). z.token) e in
      let through : r.through ≡ next p.token p.start es - 1 = ap (λ (z : Row). z.through) e in
      let upto : next r.token p.start es ≡ next p.token p.start es = ap (λ t. next t p.start es) token in
      record {
        part = p;
        there = i;
        its = sym token;
        unfinished = subst (λ t. is_finished t es ≡ false) (sym token) (sym (ap (λ (z : Row). z.finished) e) ∙ M.unfinished);
        rises = omega (arith, through, upto);
        within = within q.until T.bound bound.1;
      }
    where
      within : (o : Option ℕ) → suc b.through ≤ limit w.end o → suc r.through ≤ limit w.end o → through_by r b ≤ w.end
      within None x y = omega (arith, x, y)
      within (Some u) x y = omega (arith, x, y)

  goes_on : GoesOn w.start w.end es r.token (through_by r b)
  goes_on = goes_on_of origin.0 origin.1 origin.2

  -- a child that has a row already is named as it is
  named : (x : NewChild) → Contains b.children x → (x.start ≤ w.end) × ((a : NewChild) → Contains (births w.start es) a → a.token ≡ x.token → a ≡ x)
  named x i = (begins, same)
    where
      c : (is_end b.ending ≡ true) × ((c : Part) × Contains f.parts c × (c.from ≤ w.end) × (w.start < c.from) × (x ≡ birth_of w.start c))
      c = child f F w.start w.end first late in_window (rows_of w.start es) (changes es) R r q k b M (apply w.start (rows_of w.start es) (entry_by r b)) (is_moved f F w.start w.end first late in_window (rows_of w.start es) (changes es) R r q k b M) x i

      begins : x.start ≤ w.end
      begins = let at : x.start ≡ max w.start c.1.0.from = ap (λ (z : NewChild). z.start) c.1.4 in omega (arith, at, c.1.2, in_window)

      same : (a : NewChild) → Contains (births w.start es) a → a.token ≡ x.token → a ≡ x
      same a j e =
          let there = in_map (row_after es) a (births w.start es) j in
          let p = R.known (row_after es a) there in
          let one : p.0 ≡ c.1.0 = same_token f F p.0 c.1.0 p.1 c.1.1 (sym p.4.0 ∙ e ∙ ap (λ (z : NewChild). z.token) c.1.4) in
          let whole : a ≡ birth_of w.start p.0 = λ i. record { token = p.4.0 i; parents = p.4.1 i; start = p.4.2 i } in
          whole ∙ ap (birth_of w.start) one ∙ sym c.1.4

  fits : Fits w.start w.end es (entry_by r b)
  fits = by (is_end b.ending)
    where
      by : (c : Bool) → Fits w.start w.end es (cond c (Finished r.token (through_by r b) (news r b) b.children) (Progress r.token (through_by r b) (news r b)))
      by true = (goes_on, named)
      by false = goes_on

  pub consistent_with_entry : IsConsistent f w (es ++ entry_by r b ∷ [])
  consistent_with_entry =
      let some = opened_first w w.start w.end es origin.0 (folds_from w es (now f w es S).folds) origin.1 in
      let folds = folds_more w w.start w.end es (entry_by r b) (Opened some.0) some.1 (folds_from w es (now f w es S).folds) fits in
      let right = right_with_entry f F w.start w.end first late in_window (rows_of w.start es) (changes es) R r q k b M in
      consistent_more f w es (entry_by r b) S
      (record {
        folds = folds_back w (es ++ entry_by r b ∷ []) folds;
        right = subst (λ l. IsRight f w.start w.end (rows_of w.start (es ++ entry_by r b ∷ [])) l) (sym (changes_more es (entry_by r b)))
            (right_same f w.start w.end (apply w.start (rows_of w.start es) (entry_by r b)) (rows_of w.start (es ++ entry_by r b ∷ [])) (changes es ++ changes_in (entry_by r b))
            (λ y. let a = applied w w.start w.end es (entry_by r b) folds all first y in (a.1, a.0)) right);
      })
    where
      all : (y : Entry) → Contains (es ++ entry_by r b ∷ []) y → InFormat y
      all y i = in_format y (⊎_elim (λ (j : Contains es y). forms y j) (λ (j : Contains (entry_by r b ∷ []) y). ⊎_elim (λ (e : y ≡ entry_by r b). subst IsInFormat (sym e) form) (λ (n : Contains [] y). absurd (in_nil y n)) (in_cons (entry_by r b) y [] j)) (Contains-append_cases es (entry_by r b ∷ []) y i))

-- ---- the opening

module _ (f : Feed) (w : Window) (first : 1 ≤ w.start) (late : f.created ≤ w.start) (in_window : w.start ≤ w.end) (es : List Entry) (S : IsConsistent f w es) (forms : (y : Entry) → Contains es y → IsInFormat y) (x : Entry) (i : Contains es x) (none : rows_of w.start es ≡ []) (b : Batch) (B : IsFaithfulFirst f b) (at : b.start ≡ w.start) (tokens : List (List ℕ)) (T : (t : List ℕ) → Contains tokens t ↔ ((y : NewChild) × Contains b.children y × (y.token ≡ t))) where
  abbrev row : List ℕ → Row
  row t = born (record { token = t; parents = []; start = w.start })

  B0 : IsRight f w.start w.end (rows_of w.start es) (changes es)
  B0 = (now f w es S).right

  no_row : (r : Row) → Contains (rows_of w.start es) r → ⊥
  no_row r j = in_nil r (subst (λ l. Contains l r) none j)

  no_change : (c : Change) → Contains (changes es) c → ⊥
  no_change c j = let m = B0.wanted c j in no_row m.0 m.1

  no_birth : (p : NewChild) → Contains (births w.start es) p → ⊥
  no_birth p j = no_row (row_after es p) (in_map (row_after es) p (births w.start es) j)

  -- a row of the opening is that of a live part
  from_token : (t : List ℕ) → Contains tokens t → (q : Part) × Contains f.parts q × (q.token ≡ t) × (q.from ≤ w.start) × IsBefore w.start q.until
  from_token t j =
      let y = (T t).0 j in
      let n = (B.children y.0).0 y.1 in
      (n.part, n.live.there, sym (ap (λ (z : NewChild). z.token) n.same) ∙ y.2, omega (arith, n.live.live.born, at), subst (λ m. IsBefore m n.part.until) at n.live.live.lives)

  to_token : (q : Part) → Contains f.parts q → q.from ≤ w.start → IsBefore w.start q.until → Contains tokens q.token
  to_token q j a c =
      let y : NewChild = record { token = q.token; parents = []; start = b.start } in
      (T q.token).1 (y, (B.children y).1 (record { part = q; live = record { there = j; live = record { born = omega (arith, a, at); lives = subst (λ m. IsBefore m q.until) (sym at) c } }; same = refl }), refl)

  abbrev rows : List Row
  rows = rows_of w.start (es ++ Opened tokens ∷ [])

  from_row : (r : Row) → Contains rows r → (t : List ℕ) × Contains tokens t × (r ≡ row t)
  from_row r j =
      let p = from_map (row_after (es ++ Opened tokens ∷ [])) r (births w.start (es ++ Opened tokens ∷ [])) j in
      ⊎_elim
      (λ (k : Contains (births w.start es) p.0). absurd (no_birth p.0 k))
      (λ (k : Contains (births_in w.start (Opened tokens)) p.0).
      let t = from_map (λ (t : List ℕ). record { token = t; parents = []; start = w.start }) p.0 tokens k in
      (t.0, t.1, p.2 ∙ ap (row_after (es ++ Opened tokens ∷ [])) t.2 ∙ untouched (es ++ Opened tokens ∷ []) (record { token = t.0; parents = []; start = w.start }) (λ y n. quiet t.0 y n)))
      (Contains-append_cases (births w.start es) (births_in w.start (Opened tokens)) p.0 (subst (λ l. Contains l p.0) (rows_more w.start es (Opened tokens)) p.1))
    where
      quiet : (t : List ℕ) (y : Entry) → Contains (es ++ Opened tokens ∷ []) y → is_of t y ≡ false
      quiet t y n = ⊎_elim
          (λ (k : Contains es y). old (is_of t y) refl k)
          (λ (k : Contains (Opened tokens ∷ []) y). ⊎_elim (λ (m : y ≡ Opened tokens). ap (is_of t) m) (λ (m : Contains [] y). absurd (in_nil y m)) (in_cons (Opened tokens) y [] k))
          (Contains-append_cases es (Opened tokens ∷ []) y n)
        where
          old : (z : Bool) → is_of t y ≡ z → Contains es y → is_of t y ≡ false
          old false m k = m
          old true m k = let u = token_row w w.start w.end es y t (folds_from w es (now f w es S).folds) k m in absurd (no_birth u.0 u.1)

  to_row : (t : List ℕ) → Contains tokens t → HasRow rows t
  to_row t j =
      let p : NewChild = record { token = t; parents = []; start = w.start } in
      (row_after (es ++ Opened tokens ∷ []) p, in_map (row_after (es ++ Opened tokens ∷ [])) p (births w.start (es ++ Opened tokens ∷ [])) (subst (λ l. Contains l p) (sym (rows_more w.start es (Opened tokens))) (Contains-append_right (births w.start es) (births_in w.start (Opened tokens)) p (in_map (λ (u : List ℕ). record { token = u; parents = []; start = w.start }) t tokens j))), refl)

  not_begun : (t : List ℕ) → HasBegun (row t) → ⊥
  not_begun t (inl h) = true≢false (sym h)
  not_begun t (inr (inl h)) = h refl
  not_begun t (inr (inr h)) = omega (arith, h, first)

  unknown : (t : List ℕ) (c : Change) → w.start ≤ c.stamp → is_known (known_by (row t)) c ≡ true → ⊥
  unknown t c a h =
      ⊎_elim
      (λ (k : leb c.stamp (w.start - 1) ≡ true). let l = leb-true c.stamp (w.start - 1) k in omega (arith, l, a, first))
      (λ k. let p = and_parts (eqb c.stamp (suc (w.start - 1))) (is_seen [] c) k in true≢false (sym p.1))
      (or_cases (leb c.stamp (w.start - 1)) (eqb c.stamp (suc (w.start - 1)) && is_seen [] c) h)

  each : (P : Row → Type 0) → ((t : List ℕ) → Contains tokens t → P (row t)) → (r : Row) → Contains rows r → P r
  each P h r j = let t = from_row r j in subst P (sym t.2) (h t.0 t.1)

  -- a row's part
  part_is : (F : Facts f) (t : List ℕ) → Contains tokens t → (q : Part) → Contains f.parts q → t ≡ q.token → (q.from ≤ w.start) × IsBefore w.start q.until
  part_is F t j q i e =
      let u = from_token t j in
      let same : u.0 ≡ q = same_token f F u.0 q u.1 i (u.2 ∙ e) in
      (subst (λ (z : Part). z.from ≤ w.start) same u.3, subst (λ (z : Part). IsBefore w.start z.until) same u.4)

  opened_right : (F : Facts f) → IsRight f w.start w.end rows (changes es ++ [])
  opened_right F =
      record {
        single = λ r y i j. each (λ r. r.token ≡ y.token → r ≡ y) (λ t k. each (λ y. t ≡ y.token → row t ≡ y) (λ u l e. ap row e) y j) r i;
        known = each (λ r. (q : Part) × Contains f.parts q × (q.from ≤ w.end) × IsBefore w.start q.until × IsRowOf w.start q r)
            (λ t j.
            let u = from_token t j in
            let parents : [] ≡ (birth_of w.start u.0).parents = ap (λ z. cond z [] u.0.parents) (sym (le-leb u.0.from w.start u.3)) in
            let start : w.start ≡ max w.start u.0.from = omega (arith, u.3) in
            (u.0, u.1, omega (arith, u.3, in_window), u.4, (sym u.2, parents, start)));
        opened = λ r i q j a c. to_row q.token (to_token q j a c);
        children = λ q c u i h. absurd (true≢false (each (λ r. r.finished ≡ true → true ≡ false) (λ t j e. sym e) h.0 h.1 h.3));
        parents = each (λ r. HasBegun r → (t : List ℕ) → Contains r.parents t → HasEnded rows t) (λ t j h. absurd (not_begun t h));
        bound = λ r q i j. each (λ r. r.token ≡ q.token → (r.start ≤ suc r.through) × (suc r.through ≤ limit w.end q.until) × (r.finished ≡ true → suc r.through ≡ limit w.end q.until))
            (λ t k e.
            let p = part_is F t k q j e in
            let top = before_limit w.end w.start q.until in_window p.1 in
            (omega (arith, first), omega (arith, first, top), λ h. absurd (true≢false (sym h)))) r i;
        order = subst InOrder (sym (append-nil (changes es))) B0.order;
        wanted = λ c i. absurd (no_change c (subst (λ l. Contains l c) (append-nil (changes es)) i));
        whole = λ r q i j. each (λ r. r.token ≡ q.token → (c : Change) → Contains f.wanted c → Holds q (place_of c.row) c.stamp → r.start ≤ c.stamp → is_known (known_by r) c ≡ true → Contains (changes es ++ []) c)
            (λ t k e c m h a g. absurd (unknown t c a g)) r i;
      }

  pub consistent_opened : Facts f → IsConsistent f w (es ++ Opened tokens ∷ [])
  consistent_opened F =
      let shut : HasOpened es → ⊥ = λ o. full F o in
      let folds = folds_more w w.start w.end es (Opened tokens) x i (folds_from w es (now f w es S).folds) shut in
      consistent_more f w es (Opened tokens) S
      (record {
        folds = folds_back w (es ++ Opened tokens ∷ []) folds;
        right = subst (λ l. IsRight f w.start w.end rows l) (sym (changes_more es (Opened tokens))) (opened_right F);
      })
    where
      -- a part is live at the start, so an Opened before this one made a row
      full : Facts f → HasOpened es → ⊥
      full F o = by o.0 o.1
        where
          by : (ts : List (List ℕ)) → Contains es (Opened ts) → ⊥
          by [] k = true≢false (sym (forms (Opened []) k).1)
          by (t ∷ ts) k = no_birth (record { token = t; parents = []; start = w.start }) (in_flat (births_in w.start) (record { token = t; parents = []; start = w.start }) (Opened (t ∷ ts)) es k (in_head (record { token = t; parents = []; start = w.start }) _))
