-- What a sound layout gives at one place: its parts follow one another, each the parent of the next.
use Rattle.cs_types.specs.declared.change.Change.{Change}
use Rattle.cs_types.specs.Members.{Pairwise, pairs_from, pairs_two}
use Rattle.cs_place.specs.declared.part.Part.{Part}
use Rattle.cs_place.specs.declared.place.Place.{Place}
use Rattle.cs_place.specs.Part.{IsBefore, IsInRange, Holds}
use Rattle.cs_link.specs.Batch.{limit}
use Rattle.cs_place.specs.Layout.{IsSoundLayout}
use Rattle.cs_link.specs.declared.feed.Feed.{Feed}
use Rattle.cs_link.specs.Feed.{IsFeed}
use Rattle.cs_schedule.proofs.Tools.{both_pairs}
use Rattle.std.proofs.Common.{◌≡◌, ◌≢◌, ◌⊎◌, ℕ, ◌-◌, ◌<◌, ◌≤◌, Option, Some, None, ⊎_elim, sym, refl, ap, ◌∙◌, subst, arith, Contains}
use Rattle.std.proofs.lemmas.Bool.{cases_lt}

-- a feed, with what is said of pairs by recursion
pub record Facts (f : Feed) : Type 0 where
  pub layout : IsSoundLayout f.created f.parts
  pub tokens : Pairwise (λ a b. a.token ≢ b.token) f.parts
  pub created : (c : Change) → Contains f.wanted c → f.created ≤ c.stamp
  pub order : Pairwise (λ c d. (c.stamp ≤ d.stamp) × (c.stamp ≡ d.stamp → c.row ≢ d.row)) f.wanted
  pub names : Pairwise (λ c d. c.tx ≡ d.tx → c.row ≢ d.row) f.wanted

pub facts : (f : Feed) → IsFeed f → Facts f
facts f F =
    record {
      layout = F.layout;
      tokens = pairs_from (λ (a b : Part). a.token ≢ b.token) f.parts F.layout.tokens;
      created = F.created;
      order = both_pairs (λ (c d : Change). c.stamp ≤ d.stamp) (λ (c d : Change). c.stamp ≡ d.stamp → c.row ≢ d.row) f.wanted (pairs_from (λ (c d : Change). c.stamp ≤ d.stamp) f.wanted F.order) (pairs_from (λ (c d : Change). c.stamp ≡ d.stamp → c.row ≢ d.row) f.wanted F.rows);
      names = pairs_from (λ (c d : Change). c.tx ≡ d.tx → c.row ≢ d.row) f.wanted F.names;
    }

-- the part before q at a place of it
pub record Parent (f : Feed) (q : Part) (p : Place) : Type 0 where
  pub part : Part
  pub there : Contains f.parts part
  pub inside : IsInRange part.range p
  pub until : part.until ≡ Some q.from
  pub named : Contains q.parents part.token
  pub older : part.from < q.from

module _ (f : Feed) (F : Facts f) where
  pub same_token : (a b : Part) → Contains f.parts a → Contains f.parts b → a.token ≡ b.token → a ≡ b
  same_token a b i j e =
      ⊎_elim
      (λ (s : a ≡ b). s)
      (λ (r : (a.token ≢ b.token) ⊎ (b.token ≢ a.token)). ⊎_elim (λ (n : a.token ≢ b.token). absurd (n e)) (λ (n : b.token ≢ a.token). absurd (n (sym e))) r)
      (pairs_two (λ (x y : Part). x.token ≢ y.token) f.parts F.tokens a b i j)

  pub same_holder : (a b : Part) (p : Place) (t : ℕ) → f.created ≤ t → Contains f.parts a → Contains f.parts b → Holds a p t → Holds b p t → a ≡ b
  same_holder a b p t l i j h k =
      let u = F.layout.held p t l in
      u.3 a i h ∙ sym (u.3 b j k)

  -- two changes of one row at one moment are one
  pub same_change : (c d : Change) → Contains f.wanted c → Contains f.wanted d → c.row ≡ d.row → c.stamp ≡ d.stamp → c ≡ d
  same_change c d i j r t =
      ⊎_elim
      (λ (s : c ≡ d). s)
      (λ o. ⊎_elim (λ h. absurd (h.1 t r)) (λ h. absurd (h.1 (sym t) (sym r))) o)
      (pairs_two (λ (x y : Change). (x.stamp ≤ y.stamp) × (x.stamp ≡ y.stamp → x.row ≢ y.row)) f.wanted F.order c d i j)

  pub parent_at : (q : Part) (p : Place) → Contains f.parts q → IsInRange q.range p → f.created < q.from → Parent f q p
  parent_at q p i r l = by u.0.until refl
    where
      u : (a : Part) × Contains f.parts a × Holds a p (q.from - 1) × ((b : Part) → Contains f.parts b → Holds b p (q.from - 1) → b ≡ a)
      u = F.layout.held p (q.from - 1) (omega arith)

      born : u.0.from < q.from
      born = omega (arith, u.2.live.born)

      mine : Holds q p q.from
      mine = record { inside = r; live = record { born = omega arith; lives = F.layout.lives q i } }

      -- it does not go on past q's beginning
      over : IsBefore q.from u.0.until → ⊥
      over h =
          let e : u.0 ≡ q = same_holder u.0 q p q.from (omega arith) u.1 i (record { inside = u.2.inside; live = record { born = omega (arith, born); lives = h } }) mine in
          let n : u.0.from ≡ q.from = ap (λ (x : Part). x.from) e in
          omega (arith, n, born)

      ends : (v : ℕ) → u.0.until ≡ Some v → v ≡ q.from
      ends v e =
          let h : q.from - 1 < v = subst (λ o. IsBefore (q.from - 1) o) e u.2.live.lives in
          ⊎_elim
          (λ (m : q.from < v). absurd (over (subst (λ o. IsBefore q.from o) (sym e) m)))
          (λ (m : v ≤ q.from). omega (arith, l))
          (cases_lt q.from v)

      by : (o : Option ℕ) → u.0.until ≡ o → Parent f q p
      by None e = absurd (over (subst (λ o. IsBefore q.from o) (sym e) tt))
      by (Some v) e =
          let t : u.0.until ≡ Some q.from = e ∙ ap Some (ends v e) in
          record {
            part = u.0;
            there = u.1;
            inside = u.2.inside;
            until = t;
            named = (F.layout.parents q i l u.0.token).1 (u.0, u.1, refl, record { moment = t; places = (p, u.2.inside, r) });
            older = born;
          }

pub limit_before : (e t : ℕ) (o : Option ℕ) → t < limit e o → IsBefore t o
limit_before e t None h = tt
limit_before e t (Some u) h = omega arith

pub limit_at : (e u : ℕ) → u ≤ e → limit e (Some u) ≡ u
limit_at e u h = omega arith

pub before_limit : (e t : ℕ) (o : Option ℕ) → t ≤ e → IsBefore t o → t < limit e o
before_limit e t None h k = omega arith
before_limit e t (Some u) h k = omega arith

pub before_earlier : (s t : ℕ) (o : Option ℕ) → s ≤ t → IsBefore t o → IsBefore s o
before_earlier s t None h k = tt
before_earlier s t (Some u) h k = omega arith
