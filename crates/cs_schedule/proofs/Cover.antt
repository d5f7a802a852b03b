-- What is right covers: along the parts that hold one place.
use Rattle.cs_types.specs.declared.change.Change.{Change}
use Rattle.cs_place.specs.declared.part.Part.{Part}
use Rattle.cs_place.specs.declared.place.Place.{Place}
use Rattle.cs_place.specs.Part.{IsBefore, IsInRange, Holds}
use Rattle.cs_link.specs.declared.feed.Feed.{Feed}
use Rattle.cs_link.specs.Feed.{place_of}
use Rattle.cs_link.specs.Batch.{limit, is_seen, is_known}
use Rattle.cs_schedule.specs.declared.row.Row.{Row}
use Rattle.cs_schedule.specs.Consistent.{known_by, IsRowOf, HasRow, HasBegun, IsRight}
use Rattle.cs_schedule.proofs.Parts.{Facts, same_token, parent_at, limit_before, limit_at, before_limit, before_earlier}
use Rattle.std.proofs.Common.{◌≡◌, ℕ, zero, suc, ◌-◌, ◌<◌, ◌≤◌, Bool, true, false, cond, ◌&&◌, List, [], ⊎_elim, inl, inr, sym, refl, ap, ◌∙◌, subst, arith, true≢false, Contains, leb, eqb}
use Rattle.std.proofs.lemmas.Bool.{cases_lt, cases_Bool, lt-leb, or_left, or_cases, and_parts, le-leb, leb-true, eqb-true}

pub before_known : (r : Row) (c : Change) → c.stamp < (suc r.through) → is_known (known_by r) c ≡ true
before_known r c l = or_left (leb c.stamp r.through) (eqb c.stamp (suc r.through) && is_seen r.seen c) (le-leb c.stamp r.through (omega (arith, l)))

-- what is known is at most at the next moment, and shows that the row has begun
pub known_below : (r : Row) (c : Change) → is_known (known_by r) c ≡ true → r.start ≤ c.stamp → (c.stamp ≤ (suc r.through)) × HasBegun r
known_below r c h a =
    ⊎_elim
    (λ k. let l = leb-true c.stamp r.through k in (omega arith, inr (inr (omega arith))))
    (λ k.
    let p = and_parts (eqb c.stamp (suc r.through)) (is_seen r.seen c) k in
    (omega (arith, eqb-true c.stamp (suc r.through) p.0), inr (inl (λ e. true≢false (sym p.1 ∙ ap (λ ns. is_seen ns c) e)))))
    (or_cases (leb c.stamp r.through) (eqb c.stamp (suc r.through) && is_seen r.seen c) h)

pub record Marked (e : ℕ) (rows : List Row) (m : ℕ) : Type 0 where
  pub row : Row
  pub there : Contains rows row
  pub least : (r : Row) → Contains rows r → r.finished ≡ false → m ≤ (suc r.through)
  pub within : m ≤ suc e

module _ (f : Feed) (F : Facts f) (s e : ℕ) (late : f.created ≤ s) (rows : List Row) (done : List Change) (R : IsRight f s e rows done) where
  pub part_of : (r : Row) → Contains rows r → (q : Part) → Contains f.parts q → r.token ≡ q.token → (q.from ≤ e) × IsBefore s q.until × IsRowOf s q r
  part_of r i q j t =
      let k = R.known r i in
      let same : k.0 ≡ q = same_token f F k.0 q k.1 j (sym k.4.0 ∙ t) in
      (subst (λ (z : Part). z.from ≤ e) same k.2, subst (λ (z : Part). IsBefore s z.until) same k.3, subst (λ (z : Part). IsRowOf s z r) same k.4)

  pub parents_of : (r : Row) (q : Part) → IsRowOf s q r → s < q.from → r.parents ≡ q.parents
  parents_of r q h l = h.1 ∙ ap (λ b. cond b [] q.parents) (lt-leb q.from s l)

  pub closed : (n : ℕ) (q : Part) → q.from < n → Contains f.parts q → (r : Row) → Contains rows r → r.token ≡ q.token → HasBegun r → (d : Change) → Contains f.wanted d → IsInRange q.range (place_of d.row) → s ≤ d.stamp → d.stamp < (suc r.through) → Contains done d
  closed zero q l i r h t g d j p a b = absurd (omega (arith, l))
  closed (suc n) q l i r h t g d j p a b =
      let k = part_of r h q i t in
      ⊎_elim
      (λ (m : d.stamp < r.start).
      let younger : s < q.from = omega (arith, k.2.2) in
      let g' = parent_at f F q (place_of d.row) i p (omega arith) in
      let named : Contains r.parents g'.part.token = subst (λ ts. Contains ts g'.part.token) (sym (parents_of r q k.2 younger)) g'.named in
      let x = R.parents r h g g'.part.token named in
      let ended : (suc x.0.through) ≡ q.from = (R.bound x.0 g'.part x.1 g'.there x.2).2 x.3 ∙ ap (limit e) g'.until ∙ limit_at e q.from k.0 in
      closed n g'.part (omega (arith, g'.older)) g'.there x.0 x.1 x.2 (inl x.3) d j g'.inside a (omega (arith, ended, k.2.2)))
      (λ (m : r.start ≤ d.stamp).
      let o = R.bound r q h i t in
      let holds : Holds q (place_of d.row) d.stamp = record { inside = p; live = record { born = omega (arith, k.2.2); lives = limit_before e d.stamp q.until (omega (arith, o.1)) } } in
      R.whole r q h i t d j holds m (before_known r d b))
      (cases_lt d.stamp r.start)

  pub downward : (c d : Change) → Contains done c → Contains f.wanted d → d.row ≡ c.row → s ≤ d.stamp → d.stamp < c.stamp → Contains done d
  downward c d i j t a l =
      let m = R.wanted c i in
      let k = known_below m.0 c m.6 m.4 in
      closed (suc m.2.0.from) m.2.0 (omega arith) m.2.1 m.0 m.1 m.2.2 k.1 d j (subst (λ x. IsInRange m.2.0.range (place_of x)) (sym t) m.2.3.inside) a (omega (arith, k.0))

  pub reach : (m : ℕ) → Marked e rows m → (n : ℕ) (q : Part) → q.from < n → Contains f.parts q → (p : Place) (t : ℕ) → Holds q p t → s ≤ t → t ≤ e → t < m → (r : Row) × Contains rows r × (r.token ≡ q.token) × (t < (suc r.through))
  reach m M zero q l i p t h a b c = absurd (omega (arith, l))
  reach m M (suc n) q l i p t h a b c =
      let r = row (λ g o j k x y z. reach m M n g o j p (q.from - 1) k x y z) in
      (r.0, r.1, r.2, passed r.0 r.1 r.2 r.0.finished refl)
    where
      row : ((g : Part) → g.from < n → Contains f.parts g → Holds g p (q.from - 1) → s ≤ q.from - 1 → q.from - 1 ≤ e → q.from - 1 < m → (r : Row) × Contains rows r × (r.token ≡ g.token) × (q.from - 1 < (suc r.through))) → HasRow rows q.token
      row again = ⊎_elim
          (λ (y : s < q.from).
          let g = parent_at f F q p i h.inside (omega arith) in
          let holds : Holds g.part p (q.from - 1) = record { inside = g.inside; live = record { born = omega (arith, g.older); lives = subst (λ o. IsBefore (q.from - 1) o) (sym g.until) (omega arith) } } in
          let r = again g.part (omega (arith, g.older)) g.there holds (omega arith) (omega (arith, h.live.born)) (omega (arith, h.live.born)) in
          let u : q.from ≤ e = omega (arith, h.live.born) in
          let bound : (suc r.0.through) ≤ q.from = subst (λ k. (suc r.0.through) ≤ k) (ap (limit e) g.until ∙ limit_at e q.from u) (R.bound r.0 g.part r.1 g.there r.2).1 in
          ⊎_elim
          (λ (z : r.0.finished ≡ true). R.children g.part q q.from g.there (r.0, r.1, r.2, z) g.until u i g.named)
          (λ (z : r.0.finished ≡ false). absurd (omega (arith, bound, h.live.born, M.least r.0 r.1 z)))
          (cases_Bool r.0.finished))
          (λ (y : q.from ≤ s). R.opened M.row M.there q i y (before_earlier s t q.until a h.live.lives))
          (cases_lt s q.from)

      passed : (r : Row) → Contains rows r → r.token ≡ q.token → (b : Bool) → r.finished ≡ b → t < (suc r.through)
      passed r x y true z = omega (arith, (R.bound r q x i y).2 z, before_limit e t q.until b h.live.lives)
      passed r x y false z = omega (arith, M.least r x z)

  pub covered : (m : ℕ) → Marked e rows m → (c : Change) → Contains f.wanted c → s ≤ c.stamp → c.stamp ≤ e → c.stamp < m → Contains done c
  covered m M c j a b l =
      let u = F.layout.held (place_of c.row) c.stamp (F.created c j) in
      let r = reach m M (suc u.0.from) u.0 (omega arith) u.1 (place_of c.row) c.stamp u.2 a b l in
      let k = part_of r.0 r.1 u.0 u.1 r.2 in
      R.whole r.0 u.0 r.1 u.1 r.2 c j u.2 (omega (arith, k.2.2, u.2.live.born)) (before_known r.0 c r.3)
