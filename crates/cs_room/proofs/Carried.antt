-- The planned entry of a batch over the board of consistent entries.
use Rattle.std.proofs.Common.{◌≡◌, ◌≢◌, ◌↔◌, ℕ, ◌+◌, ◌≤◌, Bool, true, false, cond, List, [], ◌∷◌, ◌++◌, map, length, Option, Some, None, Ok, ⊎_elim, sym, refl, ap, ◌∙◌, subst, arith, true≢false, Contains, append-nil}
use Rattle.std.specs.declared.cmp.Ordering.{Ordering}
use Rattle.std.specs.declared.cmp.Ordering.TheVariants.{Less, Equal, Greater}
use Rattle.std.specs.Cmp.Lexicographic.{slice_cmp, nat_list_cmp_total}
use Rattle.std.specs.Ordering.{nat_cmp, is_lt, is_eq}
use Rattle.std.proofs.lemmas.Bool.{and_parts}
use Rattle.std.proofs.lemmas.Grind.{flat_map-append}
use Rattle.std.proofs.lemmas.List.Elements.{Contains-append_cases}
use Rattle.cs_types.specs.Members.{Pairwise, in_nil, in_head, in_cons, in_map, from_map}
use Rattle.cs_place.specs.declared.part.Part.{Part}
use Rattle.cs_link.specs.declared.batch.Batch.{Batch}
use Rattle.cs_link.specs.declared.batch.Known.{Known}
use Rattle.cs_link.specs.declared.feed.Feed.{Feed}
use Rattle.cs_schedule.specs.declared.entry.Entry.{Entry}
use Rattle.cs_schedule.specs.declared.entry.Entry.TheVariants.{Opened, Progress, Finished}
use Rattle.cs_schedule.specs.declared.row.Row.{Row}
use Rattle.cs_schedule.specs.Board.{Shown, row_of, fresh}
use Rattle.cs_schedule.specs.Consistent.{HasEnded, IsRight, IsConsistentNow, is_end, news, through_by, entry_by, apply, MayMove, RowsAreApplied}
use Rattle.cs_schedule.specs.Follows.{IsBoardOf, MayComeOf, BatchKeepsConsistent}
use Rattle.cs_schedule.specs.Plan.{PlannedIsEntry}
use Rattle.cs_schedule.specs.Rows.{changes, changes_in, rows_of}
use Rattle.cs_schedule.specs.Spelling.{IsInFormat, is_above, are_rising, has_some, payload}
use Rattle.cs_schedule.specs.Update.{PlansOf}
use Rattle.cs_room.specs.Laws.{BringsRowOn, BringsRowsOn, BringsRowsOnOf, IsPlanned, IsCarried}
use Rattle.cs_room.specs.Room.{expected, expected_of, low}
use Rattle.cs_room.proofs.Lows.{low_above, low_within, low_stays}
use Rattle.cs_room.proofs.Lowers.{lowers}
use Rattle.cs_room.proofs.Moves.{IsMoved, is_moved, puts_from, puts_new}
use Rattle.cs_room.proofs.Names.{token_itself}
use Rattle.cs_room.proofs.Opens.{IsOpened, AreLive, first_row, opens}
use Rattle.cs_room.proofs.Sizes.{token_short}

-- ---- tokens that rise are all different

abbrev Below : List ℕ → List ℕ → Type 0
Below a b = slice_cmp nat_cmp a b ≡ Less

lt_is : (o : Ordering) → is_lt o ≡ true → o ≡ Less
lt_is Less h = refl
lt_is Equal h = absurd (true≢false (sym h))
lt_is Greater h = absurd (true≢false (sym h))

below_apart : (a b : List ℕ) → Below a b → a ≢ b
below_apart a b h e = true≢false (sym (token_itself a) ∙ ap is_eq (subst (λ z. slice_cmp nat_cmp a z ≡ Less) (sym e) h))

rising_below : (t : List ℕ) (tokens : List (List ℕ)) → are_rising (t ∷ tokens) ≡ true → (u : List ℕ) → Contains tokens u → Below t u
rising_below t [] h u i = absurd (in_nil u i)
rising_below t (v ∷ tokens) h u i =
    let p = and_parts (is_above t (v ∷ tokens)) (are_rising (v ∷ tokens)) h in
    let low : Below t v = lt_is (slice_cmp nat_cmp t v) p.0 in
    ⊎_elim
    (λ (e : u ≡ v). subst (λ z. Below t z) (sym e) low)
    (λ (j : Contains tokens u). nat_list_cmp_total.trans t v u low (rising_below v tokens p.1 u j))
    (in_cons v u tokens i)

rising_apart : (tokens : List (List ℕ)) → are_rising tokens ≡ true → Pairwise (λ t u. t ≢ u) tokens
rising_apart [] h = tt
rising_apart (t ∷ tokens) h = (λ u i. below_apart t u (rising_below t tokens h u i), rising_apart tokens (and_parts (is_above t tokens) (are_rising tokens) h).1)

nil_of : {A : Type 0} (xs : List A) → ((x : A) → Contains xs x → ⊥) → xs ≡ []
nil_of [] h = refl
nil_of (x ∷ xs) h = absurd (h x (in_head x xs))

-- ---- the board of entries

pub low_of : (es : List Entry) (b : Shown) → IsBoardOf es b → low b.window b.rows ≡ low b.window (rows_of b.window.start es)
low_of es b B = low_within b.window fresh b.rows (rows_of b.window.start es) (λ r. refl) (λ r. refl) B.rows

module _ (es : List Entry) (b : Shown) (B : IsBoardOf es b) where
  to_row : (r : Row) → Contains b.rows r → Contains (rows_of b.window.start es) (fresh r)
  to_row r i = (B.rows (fresh r)).0 (in_map fresh r b.rows i)

  to_ended : (t : List ℕ) → HasEnded b.rows t → HasEnded (rows_of b.window.start es) t
  to_ended t h = (fresh h.0, to_row h.0 h.1, h.2, h.3)

  pub no_rows : b.rows ≡ [] → rows_of b.window.start es ≡ []
  no_rows none = nil_of (rows_of b.window.start es) (λ r i. in_nil r (subst (λ l. Contains (map fresh l) r) none ((B.rows r).1 i)))

  pub moves : (f : Feed) (r : Row) (q : Part) (k : Known) (x : Batch) → MayMove f b.window.start b.window.end b.rows r q k x → MayMove f b.window.start b.window.end (rows_of b.window.start es) (fresh r) q k x
  moves f r q k x M = record {
    there = to_row r M.there;
    part = M.part;
    its = M.its;
    unfinished = M.unfinished;
    parents = λ t i. to_ended t (M.parents t i);
    batch = M.batch;
    covers = M.covers;
  }

news_in : (r : Row) (x : Batch) → changes_in (entry_by r x) ≡ news r x
news_in r x = by (is_end x.ending)
  where
    by : (c : Bool) → changes_in (cond c (Finished r.token (through_by r x) (news r x) x.children) (Progress r.token (through_by r x) (news r x))) ≡ news r x
    by true = refl
    by false = refl

short_of : (r : Row) (x : Batch) → IsInFormat (entry_by r x) → length r.token ≤ 1024
short_of r x = by (is_end x.ending)
  where
    by : (c : Bool) → IsInFormat (cond c (Finished r.token (through_by r x) (news r x) x.children) (Progress r.token (through_by r x) (news r x))) → length r.token ≤ 1024
    by true h = token_short r.token h.0.0
    by false h = token_short r.token h.0.0

some_of : (tokens : List (List ℕ)) → has_some tokens ≡ true → (t : List ℕ) × Contains tokens t
some_of [] h = absurd (true≢false (sym h))
some_of (t ∷ tokens) h = (t, in_head t tokens)

module _ (keeps : BatchKeepsConsistent) (applies : RowsAreApplied) (is_entry : PlannedIsEntry) (f : Feed) (es : List Entry) (b : Shown) (x : Batch) (e : Entry) (P : IsPlanned f es b x e) where
  now : IsConsistentNow f b.window es
  now = P.coming.consistent es [] (append-nil es)

  then : IsConsistentNow f b.window (es ++ e ∷ [])
  then = keeps f es b x e P.coming.followed P.coming.comes P.plans P.in_format P.coming.board P.coming.consistent (es ++ e ∷ []) [] (append-nil (es ++ e ∷ []))

  forms : (y : Entry) → Contains (es ++ e ∷ []) y → IsInFormat y
  forms y i = ⊎_elim
      (λ (j : Contains es y). P.coming.board.in_format y j)
      (λ (j : Contains (e ∷ []) y). ⊎_elim (λ (q : y ≡ e). subst IsInFormat (sym q) P.in_format) (λ (k : Contains [] y). absurd (in_nil y k)) (in_cons e y [] j))
      (Contains-append_cases es (e ∷ []) y i)

  same : (y : Row) → Contains (rows_of b.window.start (es ++ e ∷ [])) y ↔ Contains (apply b.window.start (rows_of b.window.start es) e) y
  same = applies b.window es e P.coming.followed.first then.folds forms

  more : changes (es ++ e ∷ []) ≡ changes es ++ changes_in e
  more = flat_map-append changes_in es (e ∷ []) ∙ ap (λ l. changes es ++ l) (append-nil (changes_in e))

  -- ---- of a row

  module _ (t : List ℕ) (r : Row) (q : Part) (k : Known) (row : row_of b.rows t ≡ Some r) (M : MayMove f b.window.start b.window.end b.rows r q k x) (plan : PlansOf b.rows x (Some t) (Ok (Some e))) where
    is : e ≡ entry_by (fresh r) x
    is = is_entry b.rows t r x e row plan

    move : MayMove f b.window.start b.window.end (rows_of b.window.start es) (fresh r) q k x
    move = moves es b P.coming.board f r q k x M

    moved : IsMoved (rows_of b.window.start es) (fresh r) x (rows_of b.window.start (es ++ e ∷ []))
    moved = is_moved b.window.start (rows_of b.window.start es) now.right.single (fresh r) x move.there (rows_of b.window.start (es ++ e ∷ []))
        (λ y. subst (λ z. Contains (rows_of b.window.start (es ++ e ∷ [])) y ↔ Contains (apply b.window.start (rows_of b.window.start es) z) y) is (same y))

    done : changes (es ++ e ∷ []) ≡ changes es ++ news (fresh r) x
    done = more ∙ ap (λ l. changes es ++ l) (ap changes_in is ∙ news_in (fresh r) x)

    right : IsRight f b.window.start b.window.end (rows_of b.window.start (es ++ e ∷ [])) (changes es ++ news (fresh r) x)
    right = subst (λ l. IsRight f b.window.start b.window.end (rows_of b.window.start (es ++ e ∷ [])) l) done then.right

    row_lowers : BringsRowOn r x → expected_of f b.window (es ++ e ∷ []) + (5 + length (payload e)) ≤ expected_of f b.window es
    row_lowers on =
        let a = lowers f P.coming.followed.feed b.window P.coming.followed.first (rows_of b.window.start es) (changes es) now.right (fresh r) q k x move (rows_of b.window.start (es ++ e ∷ [])) moved right (short_of (fresh r) x (subst IsInFormat is P.in_format)) on in
        let c : expected f b.window (rows_of b.window.start (es ++ e ∷ [])) (changes (es ++ e ∷ [])) ≡ expected f b.window (rows_of b.window.start (es ++ e ∷ [])) (changes es ++ news (fresh r) x) = ap (expected f b.window (rows_of b.window.start (es ++ e ∷ []))) done in
        let d : length (payload e) ≡ length (payload (entry_by (fresh r) x)) = ap (λ z. length (payload z)) is in
        sum_up (expected f b.window (rows_of b.window.start (es ++ e ∷ [])) (changes (es ++ e ∷ []))) _ (length (payload e)) _ _ c d a
      where
        sum_up : (a1 a2 d1 d2 m : ℕ) → a1 ≡ a2 → d1 ≡ d2 → a2 + (5 + d2) ≤ m → a1 + (5 + d1) ≤ m
        sum_up a1 a2 d1 d2 m c d a = omega (arith, a, c, d)

    row_low : low b.window (rows_of b.window.start es) ≤ low b.window (rows_of b.window.start (es ++ e ∷ []))
    row_low = low_stays f P.coming.followed.feed b.window P.coming.followed.in_order (rows_of b.window.start es) (changes es) now.right (fresh r) q k x move (rows_of b.window.start (es ++ e ∷ [])) moved

  -- ---- of the parts at the window's start

  module _ (M : MayComeOf f b x None) (plan : PlansOf b.rows x None (Ok (Some e))) where
    tokens : List (List ℕ)
    tokens = plan.1

    opening : e ≡ Opened tokens
    unfolding tokens
    opening = cc (plan.2)

    none : rows_of b.window.start es ≡ []
    none = no_rows es b P.coming.board M.0

    sound : (has_some tokens ≡ true) × (are_rising tokens ≡ true)
    sound = and_parts (has_some tokens) (are_rising tokens) (subst IsInFormat opening P.in_format).1

    after_is : (y : Row) → Contains (rows_of b.window.start (es ++ e ∷ [])) y ↔ Contains (apply b.window.start [] (Opened tokens)) y
    after_is y = subst (λ z. Contains (rows_of b.window.start (es ++ e ∷ [])) y ↔ Contains (apply b.window.start [] z) y) opening (subst (λ l. Contains (rows_of b.window.start (es ++ e ∷ [])) y ↔ Contains (apply b.window.start l e) y) none (same y))

    opened : IsOpened b.window.start tokens (rows_of b.window.start (es ++ e ∷ []))
    opened = record {
      from = λ y i. from_map (first_row b.window.start) y tokens
          (⊎_elim (λ (j : Contains (map (first_row b.window.start) tokens) y). j) (λ (j : Contains [] y). absurd (in_nil y j)) (puts_from (map (first_row b.window.start) tokens) [] y ((after_is y).0 i)));
      some =
          let t = some_of tokens sound.0 in
          (first_row b.window.start t.0, (after_is (first_row b.window.start t.0)).1 (puts_new (map (first_row b.window.start) tokens) [] (first_row b.window.start t.0) (in_map (first_row b.window.start) t.0 tokens t.1)));
    }

    live : AreLive f b.window.start tokens
    unfolding tokens
    live t i =
        let y = (plan.3.same t).0 i in
        let n = (M.1.children y.0).0 y.1 in
        (n.part, n.live.there, sym (ap (λ z. z.token) n.same) ∙ y.2, subst (λ m. n.part.from ≤ m) M.2 n.live.live.born)

    first_done : changes (es ++ e ∷ []) ≡ changes es
    first_done = more ∙ ap (λ z. changes es ++ changes_in z) opening ∙ append-nil (changes es)

    first_lowers : expected_of f b.window (es ++ e ∷ []) + (5 + length (payload e)) ≤ expected_of f b.window es
    first_lowers =
        let a = opens f P.coming.followed.feed b.window P.coming.followed.first (changes es) tokens live (rows_of b.window.start (es ++ e ∷ [])) opened (rising_apart tokens sound.1) in
        let c = ap (expected f b.window (rows_of b.window.start (es ++ e ∷ []))) first_done in
        let d = ap (λ z. length (payload z)) opening in
        let g = ap (λ l. expected f b.window l (changes es)) none in
        sum_up _ _ (length (payload e)) _ _ _ c d g a
      where
        sum_up : (a1 a2 d1 d2 m1 m2 : ℕ) → a1 ≡ a2 → d1 ≡ d2 → m1 ≡ m2 → a2 + (5 + d2) ≤ m2 → a1 + (5 + d1) ≤ m1
        sum_up a1 a2 d1 d2 m1 m2 c d g a = omega (arith, a, c, d, g)

    first_low : low b.window (rows_of b.window.start es) ≤ low b.window (rows_of b.window.start (es ++ e ∷ []))
    first_low =
        let start = ap (low b.window) none in
        let a = low_above b.window.start b.window (rows_of b.window.start (es ++ e ∷ [])) (λ h. omega arith) P.coming.followed.in_order
        (λ y i h. let u = opened.from y i in let v = ap (λ (z : Row). z.start) u.2 in omega (arith, v)) in
        omega (arith, start, a)

  -- ---- together

  pub entry_lowers : BringsRowsOn b.rows x → expected_of f b.window (es ++ e ∷ []) + (5 + length (payload e)) ≤ expected_of f b.window es
  entry_lowers on = by x.token P.coming.comes P.plans on
    where
      by : (t : Option (List ℕ)) → MayComeOf f b x t → PlansOf b.rows x t (Ok (Some e)) → BringsRowsOnOf b.rows x t → expected_of f b.window (es ++ e ∷ []) + (5 + length (payload e)) ≤ expected_of f b.window es
      by None M plan on = first_lowers M plan
      by (Some t) M plan on =
          let one : Some on.0 ≡ Some M.0 = sym on.1 ∙ M.3 in
          let it : on.0 ≡ M.0 = cc in
          row_lowers t M.0 M.1 M.2 M.3 M.4 plan (subst (λ (z : Row). BringsRowOn z x) it on.2)

  pub entry_low : low b.window (rows_of b.window.start es) ≤ low b.window (rows_of b.window.start (es ++ e ∷ []))
  entry_low = by x.token P.coming.comes P.plans
    where
      by : (t : Option (List ℕ)) → MayComeOf f b x t → PlansOf b.rows x t (Ok (Some e)) → low b.window (rows_of b.window.start es) ≤ low b.window (rows_of b.window.start (es ++ e ∷ []))
      by None M plan = first_low M plan
      by (Some t) M plan = row_low t M.0 M.1 M.2 M.3 M.4 plan

  pub entry_carried : (gate limit : ℕ) → BringsRowsOn b.rows x → gate + expected_of f b.window es ≤ limit → IsCarried f b.window es e gate limit
  entry_carried gate limit on h =
      let a = entry_lowers on in
      record { fits = fit (expected_of f b.window (es ++ e ∷ [])) (expected_of f b.window es) (length (payload e)) (some_left (es ++ e ∷ [])) a h; goes_on = go (expected_of f b.window (es ++ e ∷ [])) (expected_of f b.window es) (length (payload e)) a h }
    where
      fit : (a m n : ℕ) → 1 ≤ a → a + (5 + n) ≤ m → gate + m ≤ limit → gate + (6 + n) ≤ limit
      fit a m n one l h = omega (arith, one, l, h)

      go : (a m n : ℕ) → a + (5 + n) ≤ m → gate + m ≤ limit → (gate + (5 + n)) + a ≤ limit
      go a m n l h = omega (arith, l, h)

      some_left : (xs : List Entry) → 1 ≤ expected_of f b.window xs
      some_left xs = omega arith
