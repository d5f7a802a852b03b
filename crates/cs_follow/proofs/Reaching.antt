-- Where each row that may be read is complete up to a moment, each unfinished one is: it waits for none that ended by then.
use Rattle.std.proofs.Common.{◌≡◌, ◌⊎◌, ℕ, zero, suc, ◌-◌, ◌<◌, ◌≤◌, max, Bool, true, false, cond, List, [], append-nil, Option, Some, None, ⊎_elim, inl, inr, sym, refl, ap, ◌∙◌, subst, arith, true≢false, Contains, nat_le}
use Rattle.std.specs.Ordering.{nat_cmp, is_eq, is_lt}
use Rattle.std.specs.Cmp.Lexicographic.{slice_cmp}
use Rattle.std.specs.declared.cmp.Ordering.{Ordering}
use Rattle.std.specs.declared.cmp.Ordering.TheVariants.{Less, Equal, Greater}
use Rattle.std.proofs.lemmas.Bool.{cases_lt, cases_Bool, le-leb}
use Rattle.cs_types.specs.declared.change.Change.{Change}
use Rattle.cs_types.specs.Members.{in_nil, in_map, from_map}
use Rattle.cs_place.specs.declared.part.Part.{Part}
use Rattle.cs_place.specs.declared.place.Place.{Place}
use Rattle.cs_place.specs.Layout.{IsFollowedBy}
use Rattle.cs_place.specs.Part.{IsBefore, IsInRange, Holds}
use Rattle.cs_link.specs.declared.feed.Feed.{Feed}
use Rattle.cs_link.specs.Batch.{limit}
use Rattle.cs_link.specs.Feed.{IsFeed}
use Rattle.cs_schedule.specs.declared.entry.Entry.{Entry}
use Rattle.cs_schedule.specs.declared.row.Row.{Row}
use Rattle.cs_schedule.specs.Board.{Shown, fresh}
use Rattle.cs_schedule.specs.Consistent.{HasRow, HasEnded, IsRight, IsReady, IsConsistentNow, birth_of}
use Rattle.cs_schedule.specs.Follows.{IsBoardOf, IsFollowed}
use Rattle.cs_schedule.specs.Rows.{changes, rows_of}
use Rattle.cs_follow.specs.Own.{AreFollowing}
use Rattle.cs_follow.specs.Pauses.{AreUpTo}
use Rattle.cs_follow.proofs.Refusals.{same_part}
use Rattle.cs_follow.proofs.Small.{token_itself}

-- ---- the part before another

not_below : (o : Ordering) → is_eq o ≡ true → is_lt o ≡ false
not_below Less h = absurd (true≢false (sym h))
not_below Equal h = refl
not_below Greater h = refl

-- a part that another follows
record Before (f : Feed) (q : Part) : Type 0 where
  pub part : Part
  pub there : Contains f.parts part
  pub until : part.until ≡ Some q.from
  pub named : Contains q.parents part.token
  pub older : part.from < q.from

module _ (f : Feed) (F : IsFeed f) where
  part_before : (q : Part) → Contains f.parts q → f.created < q.from → Before f q
  part_before q i late = by u.0.until refl
    where
      p : Place
      p = q.range.low

      inside : IsInRange q.range p
      inside = (not_below (slice_cmp nat_cmp p.bytes p.bytes) (token_itself p.bytes), F.layout.ranges q i)

      u : (a : Part) × Contains f.parts a × Holds a p (q.from - 1) × ((b : Part) → Contains f.parts b → Holds b p (q.from - 1) → b ≡ a)
      u = F.layout.held p (q.from - 1) (omega (arith, late))

      v : (a : Part) × Contains f.parts a × Holds a p q.from × ((b : Part) → Contains f.parts b → Holds b p q.from → b ≡ a)
      v = F.layout.held p q.from (omega (arith, late))

      older : u.0.from < q.from
      older = let b = u.2.live.born in omega (arith, b, late)

      mine : Holds q p q.from
      mine = record { inside = inside; live = record { born = omega arith; lives = F.layout.lives q i } }

      -- it does not go on past the other's beginning
      over : IsBefore q.from u.0.until → ⊥
      over h =
          let same : u.0 ≡ q = v.3 u.0 u.1 (record { inside = u.2.inside; live = record { born = omega (arith, older); lives = h } }) ∙ sym (v.3 q i mine) in
          let begins : u.0.from ≡ q.from = ap (λ (x : Part). x.from) same in
          omega (arith, begins, older)

      ends : (n : ℕ) → u.0.until ≡ Some n → n ≡ q.from
      ends n e =
          let h : q.from - 1 < n = subst (λ o. IsBefore (q.from - 1) o) e u.2.live.lives in
          ⊎_elim
          (λ (m : q.from < n). absurd (over (subst (λ o. IsBefore q.from o) (sym e) m)))
          (λ (m : n ≤ q.from). omega (arith, late, h, m))
          (cases_lt q.from n)

      by : (o : Option ℕ) → u.0.until ≡ o → Before f q
      by None e = absurd (over (subst (λ o. IsBefore q.from o) (sym e) tt))
      by (Some n) e =
          let t : u.0.until ≡ Some q.from = e ∙ ap Some (ends n e) in
          record {
            part = u.0;
            there = u.1;
            until = t;
            named = (F.layout.parents q i late u.0.token).1 (u.0, u.1, refl, record { moment = t; places = (p, u.2.inside, inside) });
            older = older;
          }

-- ---- rows that wait

module _ (f : Feed) (F : IsFeed f) (s e : ℕ) (late : f.created ≤ s) (rows : List Row) (done : List Change) (R : IsRight f s e rows done) (some : Row) (there : Contains rows some) (moment : ℕ) (within : moment ≤ e) (up : (r : Row) → IsReady rows r → moment ≤ r.through) where
  -- what a row waits for, by its part
  waits : (r : Row) → Contains rows r → (q : Part) → Contains f.parts q → r.token ≡ q.token → (t : List ℕ) → Contains r.parents t → (s < q.from) × ((p : Part) × Contains f.parts p × (p.token ≡ t) × IsFollowedBy p q)
  waits r i q j its t k =
      let w = R.known r i in
      let same : w.0 ≡ q = same_part f F w.0 q w.1 j (sym w.4.0 ∙ its) in
      let parents : r.parents ≡ (birth_of s q).parents = w.4.1 ∙ ap (λ (z : Part). (birth_of s z).parents) same in
      ⊎_elim
      (λ (y : s < q.from). (y, (F.layout.parents q j (omega (arith, late, y)) t).0 (named q y (subst (λ l. Contains l t) parents k))))
      (λ (y : q.from ≤ s). absurd (in_nil t (subst (λ l. Contains l t) (parents ∙ ap (λ b. cond b [] q.parents) (le-leb q.from s y)) k)))
      (cases_lt s q.from)
    where
      named : (c : Part) → s < c.from → Contains (birth_of s c).parents t → Contains c.parents t
      named c y = by (nat_le c.from s)
        where
          by : (b : Bool) → Contains (cond b [] c.parents) t → Contains c.parents t
          by true h = absurd (in_nil t h)
          by false h = h

  -- a part that ends by the moment has a finished row, where the parts that it follows have
  from_before : (q : Part) → Contains f.parts q → (u : ℕ) → q.until ≡ Some u → u ≤ moment → s < u → q.from < u → ((p : Part) → Contains f.parts p → p.until ≡ Some q.from → s < q.from → HasEnded rows p.token) → HasEnded rows q.token
  from_before q i u is low after lives before = finish (has (cases_lt s q.from))
    where
      has : (s < q.from) ⊎ (q.from ≤ s) → HasRow rows q.token
      has (inl y) =
          let g = part_before f F q i (omega (arith, late, y)) in
          R.children g.part q q.from g.there (before g.part g.there g.until y) g.until (omega (arith, lives, low, within)) i g.named
      has (inr y) = R.opened some there q i y (subst (λ o. IsBefore s o) (sym is) after)

      ready : (r : Row) → Contains rows r → r.token ≡ q.token → r.finished ≡ false → IsReady rows r
      ready r j its going = record {
        there = j;
        unfinished = going;
        parents = λ t k. let w = waits r j q i its t k in subst (λ z. HasEnded rows z) w.1.2 (before w.1.0 w.1.1 w.1.3.moment w.0);
      }

      finish : HasRow rows q.token → HasEnded rows q.token
      finish h = ⊎_elim
          (λ (y : h.0.finished ≡ true). (h.0, h.1, h.2, y))
          (λ (y : h.0.finished ≡ false).
          let far = up h.0 (ready h.0 h.1 h.2 y) in
          let bound = (R.bound h.0 q h.1 i h.2).1 in
          let short : suc h.0.through ≤ limit e (Some u) = subst (λ o. suc h.0.through ≤ limit e o) is bound in
          absurd (omega (arith, far, short, low)))
          (cases_Bool h.0.finished)

  -- and so each does
  ended : (n : ℕ) (q : Part) → q.from < n → Contains f.parts q → (u : ℕ) → q.until ≡ Some u → u ≤ moment → s < u → HasEnded rows q.token
  ended zero q l i u is low after = absurd (omega (arith, l))
  ended (suc n) q l i u is low after =
      let lives : q.from < u = subst (λ o. IsBefore q.from o) is (F.layout.lives q i) in
      from_before q i u is low after lives (λ p j until y.
      let older : p.from < q.from = subst (λ o. IsBefore p.from o) until (F.layout.lives p j) in
      ended n p (omega (arith, older, l)) j q.from until (omega (arith, lives, low)) y)

  pub rows_reach : (r : Row) → Contains rows r → r.finished ≡ false → moment ≤ r.through
  rows_reach r i going = ⊎_elim (λ (y : r.through < moment). up r (ready y)) (λ (y : moment ≤ r.through). y) (cases_lt r.through moment)
    where
      k : (q : Part) × Contains f.parts q × (q.from ≤ e) × IsBefore s q.until × ((r.token ≡ q.token) × (r.parents ≡ (birth_of s q).parents) × (r.start ≡ max s q.from))
      k = R.known r i

      parent : r.through < moment → (t : List ℕ) → Contains r.parents t → HasEnded rows t
      parent y t j = ⊎_elim
          (λ (z : r.start < suc r.through). R.parents r i (inr (inr z)) t j)
          (λ (z : suc r.through ≤ r.start).
          let w = waits r i k.0 k.1 k.4.0 t j in
          let start = k.4.2 in
          let after = w.0 in
          subst (λ v. HasEnded rows v) w.1.2 (ended (suc w.1.0.from) w.1.0 (omega arith) w.1.1 k.0.from w.1.3.moment (omega (arith, y, bound z, start, after)) w.0))
          (cases_lt r.start (suc r.through))
        where
          bound : suc r.through ≤ r.start → r.start ≡ suc r.through
          bound z = let low = (R.bound r k.0 i k.1 k.4.0).0 in omega (arith, low, z)

      ready : r.through < moment → IsReady rows r
      ready y = record { there = i; unfinished = going; parents = parent y }

-- ---- over a board

module _ (f : Feed) (b : Shown) (es : List Entry) (B : IsBoardOf es b) (followed : IsFollowed f b.window) (A : AreFollowing f b.window es) where
  now : IsConsistentNow f b.window es
  now = A.consistent es [] (append-nil es)

  of_entries : (r : Row) → Contains b.rows r → Contains (rows_of b.window.start es) (fresh r)
  of_entries r i = (B.rows (fresh r)).0 (in_map fresh r b.rows i)

  of_board : (r : Row) → Contains (rows_of b.window.start es) r → (y : Row) × Contains b.rows y × (r ≡ fresh y)
  of_board r i = from_map fresh r b.rows ((B.rows r).1 i)

  board_ready : (r : Row) (R : IsReady (rows_of b.window.start es) r) (y : Row) → Contains b.rows y → r ≡ fresh y → IsReady b.rows y
  board_ready r R y i same = record {
    there = i;
    unfinished = sym (ap (λ (z : Row). z.finished) same) ∙ R.unfinished;
    parents = λ t k.
        let h = R.parents t (subst (λ l. Contains l t) (sym (ap (λ (z : Row). z.parents) same)) k) in
        let v = of_board h.0 h.1 in
        (v.0, v.1, sym (ap (λ (z : Row). z.token) v.2) ∙ h.2, sym (ap (λ (z : Row). z.finished) v.2) ∙ h.3);
  }

  pub board_reaches : (some : Row) → Contains b.rows some → (moment : ℕ) → moment ≤ b.window.end → ((r : Row) → IsReady b.rows r → moment ≤ r.through) → AreUpTo moment b.rows
  board_reaches some there moment within up = record {
    some = λ none. in_nil some (subst (λ l. Contains l some) none there);
    each = λ r i going. rows_reach f followed.feed b.window.start b.window.end followed.created (rows_of b.window.start es) (changes es) now.right (fresh some) (of_entries some there) moment within
        (λ a R. let y = of_board a R.there in let far = up y.0 (board_ready a R y.0 y.1 y.2) in subst (λ (z : Row). moment ≤ z.through) (sym y.2) far)
        (fresh r) (of_entries r i) going;
  }
