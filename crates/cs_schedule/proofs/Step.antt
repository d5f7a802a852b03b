-- A true batch keeps what is right.
use Rattle.cs_types.specs.declared.change.Change.{Change}
use Rattle.cs_types.specs.Members.{bytes_same, bytes_itself, in_nil, in_filter, from_filter, pairs_append, pairs_filter, pairs_weaker}
use Rattle.cs_place.specs.declared.part.Part.{Part}
use Rattle.cs_place.specs.Part.{IsBefore, Holds}
use Rattle.cs_link.specs.declared.feed.Feed.{Feed}
use Rattle.cs_link.specs.Feed.{place_of}
use Rattle.cs_link.specs.declared.batch.Batch.{Batch}
use Rattle.cs_link.specs.declared.batch.Known.{Known}
use Rattle.cs_link.specs.declared.batch.NewChild.{NewChild}
use Rattle.cs_link.specs.declared.batch.Seen.{Seen}
use Rattle.cs_link.specs.Batch.{limit, seen_of, is_seen, is_known}
use Rattle.cs_schedule.specs.declared.row.Row.{Row}
use Rattle.cs_schedule.specs.Consistent.{known_by, birth_of, IsRowOf, HasRow, HasEnded, HasBegun, InOrder, IsRight, born, is_end, news, through_by, MayMove}
use Rattle.cs_place.specs.Layout.{IsFollowedBy}
use Rattle.cs_schedule.proofs.Tools.{not_true}
use Rattle.cs_schedule.proofs.Parts.{Facts, same_token, same_holder, same_change, before_earlier}
use Rattle.cs_schedule.proofs.Names.{covers_known, from_named, in_named, in_names, from_names, same_named}
use Rattle.cs_schedule.proofs.Batches.{IsChild, IsTrueBatch, true_batch, next_by, moved, IsMoved}
use Rattle.cs_schedule.proofs.Cover.{before_known, known_below, part_of, downward}
use Rattle.std.proofs.Common.{◌≡◌, ◌≢◌, ◌⊎◌, ℕ, suc, ◌-◌, ◌<◌, ◌≤◌, max, Bool, true, false, cond, not, ◌&&◌, List, [], ◌++◌, map, Option, Some, None, ⊎_elim, inl, inr, sym, refl, ap, ◌∙◌, subst, arith, true≢false, bytes_eq, Contains, filter, leb, eqb}
use Rattle.std.proofs.lemmas.Bool.{cases_Bool, cases_lt, and_parts, and_from, or_cases, or_right, leb-true, eqb-true, eq-eqb, not_from_false, lt-leb}
use Rattle.std.proofs.lemmas.List.Elements.{Contains-append_left, Contains-append_right, Contains-append_cases}

pub token_cases : (a b : List ℕ) → (a ≡ b) ⊎ (a ≢ b)
token_cases a b = by (bytes_eq a b) refl
  where
    by : (c : Bool) → bytes_eq a b ≡ c → (a ≡ b) ⊎ (a ≢ b)
    by true h = inl (bytes_same a b h)
    by false h = inr (λ e. true≢false (sym (ap (λ z. bytes_eq z b) e ∙ bytes_itself b) ∙ h))

module _ (f : Feed) (F : Facts f) (s e : ℕ) (first : 1 ≤ s) (late : f.created ≤ s) (in_window : s ≤ e) (rows : List Row) (done : List Change) (R : IsRight f s e rows done) (r : Row) (q : Part) (k : Known) (b : Batch) (M : MayMove f s e rows r q k b) (after : List Row) (A : IsMoved rows r b after) where
  T : IsTrueBatch f e k q b
  T = true_batch f e k q b M.batch

  its : (q.from ≤ e) × IsBefore s q.until × IsRowOf s q r
  its = part_of f F s e late rows done R r M.there q M.part M.its

  old : (r.start ≤ (suc r.through)) × ((suc r.through) ≤ limit e q.until) × (r.finished ≡ true → (suc r.through) ≡ limit e q.until)
  old = R.bound r q M.there M.part M.its

  low : (suc k.through) ≤ (suc r.through)
  low = ⊎_elim (λ (l : k.through < r.through). omega arith) (λ l. omega (arith, l.0)) M.covers

  start_low : b.start ≤ (suc r.through)
  start_low = ⊎_elim (λ (l : suc b.start ≡ (suc k.through)). omega (arith, l, low)) (λ (l : b.start ≡ (suc k.through)). omega (arith, l, low)) T.start

  new : (c : Change) → Contains (news r b) c → Contains b.changes c × (is_known (known_by r) c ≡ false) × (suc r.through ≤ c.stamp)
  new c i =
      let u = from_filter (λ x. not (is_known (known_by r) x)) c b.changes i in
      let h = not_true (is_known (known_by r) c) u.1 in (
        u.0,
        h,
        ⊎_elim (λ (l : c.stamp < (suc r.through)). absurd (true≢false (sym (before_known r c l) ∙ h))) (λ (l : suc r.through ≤ c.stamp). l) (cases_lt c.stamp (suc r.through)),
      )

  -- what the row knew, the moved one knows
  kept_known : (c : Change) → is_known (known_by r) c ≡ true → is_known (known_by (moved r b)) c ≡ true
  kept_known c h =
      ⊎_elim
      (λ (l : (suc r.through) < next_by r b). covers_known (known_by (moved r b)) (known_by r) c (inl (omega (arith, l))) h)
      (λ (l : next_by r b ≤ (suc r.through)).
      let same : (suc r.through) ≡ next_by r b = omega arith in
      let seen : cond (eqb (suc r.through) (next_by r b)) r.seen [] ≡ r.seen = ap (λ t. cond t r.seen []) (eq-eqb (suc r.through) (next_by r b) same) in
      let front = map seen_of (filter (λ (x : Change). eqb x.stamp (next_by r b)) (news r b)) in
      covers_known (known_by (moved r b)) (known_by r) c (inr (omega (arith, same), λ n i. Contains-append_left (cond (eqb (suc r.through) (next_by r b)) r.seen []) front n (subst (λ z. Contains z n) (sym seen) i))) h)
      (cases_lt (suc r.through) (next_by r b))

  new_known : (c : Change) → Contains (news r b) c → is_known (known_by (moved r b)) c ≡ true
  new_known c i =
      let u = T.wanted c (new c i).0 in
      ⊎_elim
      (λ (l : c.stamp < next_by r b). before_known (moved r b) c l)
      (λ (l : next_by r b ≤ c.stamp).
      let same : eqb c.stamp (next_by r b) ≡ true = eq-eqb c.stamp (next_by r b) (omega (arith, l, u.3)) in
      or_right (leb c.stamp (through_by r b)) (eqb c.stamp (next_by r b) && is_seen (moved r b).seen c)
      (and_from (eqb c.stamp (next_by r b)) (is_seen (moved r b).seen c) same
      (in_named (moved r b).seen c (seen_of c) (Contains-append_right (cond (eqb (suc r.through) (next_by r b)) r.seen []) (map seen_of (filter (λ (x : Change). eqb x.stamp (next_by r b)) (news r b))) (seen_of c)
      (in_names (filter (λ (x : Change). eqb x.stamp (next_by r b)) (news r b)) c (in_filter (λ (x : Change). eqb x.stamp (next_by r b)) c (news r b) i same))) refl refl)))
      (cases_lt c.stamp (next_by r b))

  -- and nothing else
  from_known : (c : Change) → Contains f.wanted c → Holds q (place_of c.row) c.stamp → r.start ≤ c.stamp → is_known (known_by (moved r b)) c ≡ true → Contains (done ++ news r b) c
  from_known c i h a g =
      ⊎_elim
      (λ (x : is_known (known_by r) c ≡ true). left x)
      (λ (x : is_known (known_by r) c ≡ false).
      let late : suc r.through ≤ c.stamp = ⊎_elim (λ (l : c.stamp < (suc r.through)). absurd (true≢false (sym (before_known r c l) ∙ x))) (λ (l : suc r.through ≤ c.stamp). l) (cases_lt c.stamp (suc r.through)) in
      ⊎_elim
      (λ y. let l = leb-true c.stamp (through_by r b) y in had x (T.whole c i h (omega (arith, start_low, late)) (omega (arith, l, late))))
      (λ y.
      let p = and_parts (eqb c.stamp (next_by r b)) (is_seen (moved r b).seen c) y in
      let n = from_named (moved r b).seen c p.1 in
      ⊎_elim
      (λ (j : Contains (cond (eqb (suc r.through) (next_by r b)) r.seen []) n.0). absurd (seen_no x p.0 (eqb (suc r.through) (next_by r b)) refl j n.2 n.3))
      (λ (j : Contains (map seen_of (filter (λ (x : Change). eqb x.stamp (next_by r b)) (news r b))) n.0).
      let d = from_names (filter (λ (x : Change). eqb x.stamp (next_by r b)) (news r b)) n.0 j in
      let m = from_filter (λ (x : Change). eqb x.stamp (next_by r b)) d.0 (news r b) d.1 in
      let same : d.0 ≡ c = same_named f F d.0 c (T.wanted d.0 (new d.0 m.0).0).0 i (sym d.2 ∙ n.2) (sym d.3 ∙ n.3) in
      Contains-append_right done (news r b) c (subst (λ z. Contains (news r b) z) same m.0))
      (Contains-append_cases (cond (eqb (suc r.through) (next_by r b)) r.seen []) (map seen_of (filter (λ (x : Change). eqb x.stamp (next_by r b)) (news r b))) n.0 n.1))
      (or_cases (leb c.stamp (through_by r b)) (eqb c.stamp (next_by r b) && is_seen (moved r b).seen c) g))
      (cases_Bool (is_known (known_by r) c))
    where
      left : is_known (known_by r) c ≡ true → Contains (done ++ news r b) c
      left x = Contains-append_left done (news r b) c (R.whole r q M.there M.part M.its c i h a x)

      had : is_known (known_by r) c ≡ false → Contains b.changes c ⊎ (is_known k c ≡ true) → Contains (done ++ news r b) c
      had x (inl j) = Contains-append_right done (news r b) c (in_filter (λ x. not (is_known (known_by r) x)) c b.changes j (not_from_false (is_known (known_by r) c) x))
      had x (inr y) = left (covers_known (known_by r) k c M.covers y)

      seen_no : is_known (known_by r) c ≡ false → eqb c.stamp (next_by r b) ≡ true → (t : Bool) → eqb (suc r.through) (next_by r b) ≡ t → {n : Seen} → Contains (cond t r.seen []) n → n.tx ≡ c.tx → n.row ≡ c.row → ⊥
      seen_no x y true z {n} j u v =
          let same : eqb c.stamp (suc r.through) ≡ true = eq-eqb c.stamp (suc r.through) (eqb-true c.stamp (next_by r b) y ∙ sym (eqb-true (suc r.through) (next_by r b) z)) in
          true≢false (sym (or_right (leb c.stamp r.through) (eqb c.stamp (suc r.through) && is_seen r.seen c) (and_from (eqb c.stamp (suc r.through)) (is_seen r.seen c) same (in_named r.seen c n j u v))) ∙ x)
      seen_no x y false z {n} j u v = in_nil n j

  -- none of the new ones stood before
  fresh : (d : Change) → Contains (news r b) d → Contains done d → ⊥
  fresh d i j =
      let m = R.wanted d j in
      let n = new d i in
      let u = T.wanted d n.0 in
      let part : m.2.0 ≡ q = same_holder f F m.2.0 q (place_of d.row) d.stamp (F.created d u.0) m.2.1 M.part m.2.3 u.1 in
      let row : m.0 ≡ r = R.single m.0 r m.1 M.there (m.2.2 ∙ ap (λ (z : Part). z.token) part ∙ sym M.its) in
      true≢false (sym (subst (λ (z : Row). is_known (known_by z) d ≡ true) row m.6) ∙ n.1)

  order : InOrder (done ++ news r b)
  order =
      pairs_append (λ (c d : Change). c.row ≡ d.row → c.stamp < d.stamp) done (news r b) R.order
      (pairs_weaker (λ (c d : Change). (c ≢ d) × (c.stamp ≤ d.stamp)) (λ (c d : Change). c.row ≡ d.row → c.stamp < d.stamp) (news r b)
      (λ c d i j n t. ⊎_elim (λ (m : c.stamp < d.stamp). m) (λ (m : d.stamp ≤ c.stamp). absurd (n.0 (same_change f F c d (T.wanted c (new c i).0).0 (T.wanted d (new d j).0).0 t (omega (arith, n.1))))) (cases_lt c.stamp d.stamp))
      (pairs_filter (λ (c d : Change). (c ≢ d) × (c.stamp ≤ d.stamp)) (λ x. not (is_known (known_by r) x)) b.changes T.order))
      (λ c d i j t.
      let u = T.wanted d (new d j).0 in
      let a : s ≤ d.stamp = omega (arith, its.2.2, old.0, (new d j).2) in
      ⊎_elim
      (λ (m : c.stamp < d.stamp). m)
      (λ (m : d.stamp ≤ c.stamp). absurd (⊎_elim
      (λ (l : d.stamp < c.stamp). fresh d j (downward f F s e late rows done R c d i u.0 (sym t) a l))
      (λ (l : c.stamp ≤ d.stamp). fresh d j (subst (λ y. Contains done y) (same_change f F c d (R.wanted c i).3 u.0 t (omega arith)) i))
      (cases_lt d.stamp c.stamp)))
      (cases_lt c.stamp d.stamp))

  -- a child of the part
  pub child : (y : NewChild) → Contains b.children y → (is_end b.ending ≡ true) × ((c : Part) × Contains f.parts c × (c.from ≤ e) × (s < c.from) × (y ≡ birth_of s c))
  child y i = (t.0, (c, p.1, subst (λ v. v ≤ e) (sym from) u.2, younger, p.3 ∙ sym row_is))
    where
      t : (is_end b.ending ≡ true) × IsChild f e q y
      t = (T.children y).0 i

      u : (u : ℕ) × (q.until ≡ Some u) × (u ≤ e)
      u = t.1.0

      p : (c : Part) × Contains f.parts c × Contains c.parents q.token × (y ≡ record { token = c.token; parents = c.parents; start = c.from })
      p = t.1.1

      c : Part
      c = p.0

      begun : f.created < c.from
      begun = ⊎_elim
          (λ (l : f.created < c.from). l)
          (λ (l : c.from ≤ f.created). absurd (in_nil q.token (subst (λ z. Contains z q.token) (F.layout.first c p.1 (omega (arith, l, F.layout.begins c p.1))) p.2)))
          (cases_lt f.created c.from)

      a : (a : Part) × Contains f.parts a × (a.token ≡ q.token) × IsFollowedBy a c
      a = (F.layout.parents c p.1 begun q.token).0 p.2

      ends : q.until ≡ Some c.from
      ends = subst (λ (z : Part). z.until ≡ Some c.from) (same_token f F a.0 q a.1 M.part a.2) a.3.moment

      from : c.from ≡ u.0
      from = grind (arith, ends, u.1)

      younger : s < c.from
      younger = subst (λ v. IsBefore s v) ends its.1

      row_is : birth_of s c ≡ record { token = c.token; parents = c.parents; start = c.from }
      row_is =
          let x : max s c.from ≡ c.from = omega (arith, younger) in
          λ i. record { token = c.token; parents = cond (lt-leb c.from s younger i) [] c.parents; start = x i }

  -- a child begins where the row can go at most
  pub child_until : (y : NewChild) → Contains b.children y → (suc r.through) ≤ y.start
  child_until y i =
      let t = (T.children y).0 i in
      let p = t.1.1 in
      let c = child y i in
      let from : y.start ≡ max s c.1.0.from = ap (λ (z : NewChild). z.start) c.1.4 in
      let start : y.start ≡ p.0.from = ap (λ (z : NewChild). z.start) p.3 in
      let begun : f.created < p.0.from = omega (arith, start, from, late, c.1.3) in
      let a = (F.layout.parents p.0 p.1 begun q.token).0 p.2 in
      let ends : q.until ≡ Some p.0.from = subst (λ (z : Part). z.until ≡ Some p.0.from) (same_token f F a.0 q a.1 M.part a.2) a.3.moment in
      let top : (suc r.through) ≤ limit e (Some p.0.from) = subst (λ o. (suc r.through) ≤ limit e o) ends old.1 in
      omega (arith, top, start)

  pub each : (P : Row → Type 0) → ((y : Row) → Contains rows y → y.token ≢ r.token → P y) → P (moved r b) → ((x : NewChild) → Contains b.children x → (HasRow rows x.token → ⊥) → P (born x)) → (y : Row) → Contains after y → P y
  each P old mine new y i =
      ⊎_elim
      (λ (a : Contains rows y × (y.token ≢ r.token)). old y a.0 a.1)
      (λ (o : (y ≡ moved r b) ⊎ ((x : NewChild) × Contains b.children x × (y ≡ born x) × (HasRow rows x.token → ⊥))). ⊎_elim
      (λ (a : y ≡ moved r b). subst P (sym a) mine)
      (λ (a : (x : NewChild) × Contains b.children x × (y ≡ born x) × (HasRow rows x.token → ⊥)). subst P (sym a.2) (new a.0 a.1 a.3))
      o)
      (A.from y i)

  keep_row : (t : List ℕ) → HasRow rows t → HasRow after t
  keep_row t h =
      ⊎_elim
      (λ (a : h.0.token ≡ r.token). (moved r b, A.mine, sym a ∙ h.2))
      (λ (a : h.0.token ≢ r.token). (h.0, A.kept h.0 h.1 a, h.2))
      (token_cases h.0.token r.token)

  keep_ended : (t : List ℕ) → HasEnded rows t → HasEnded after t
  keep_ended t h =
      ⊎_elim
      (λ (a : h.0.token ≡ r.token). absurd (true≢false (sym h.3 ∙ ap (λ (z : Row). z.finished) (R.single h.0 r h.1 M.there a) ∙ M.unfinished)))
      (λ (a : h.0.token ≢ r.token). (h.0, A.kept h.0 h.1 a, h.2, h.3))
      (token_cases h.0.token r.token)

  -- a child begins in the window, which begins behind 0
  begins : (x : NewChild) → Contains b.children x → 1 ≤ x.start
  begins x i =
      let c = (child x i).1 in
      let start : x.start ≡ max s c.0.from = ap (λ (z : NewChild). z.start) c.4 in
      omega (arith, start, first)

  not_begun : (x : NewChild) → 1 ≤ x.start → HasBegun (born x) → ⊥
  not_begun x l (inl h) = true≢false (sym h)
  not_begun x l (inr (inl h)) = h refl
  not_begun x l (inr (inr h)) = omega (arith, h, l)

  is_q : (p : Part) → Contains f.parts p → r.token ≡ p.token → q ≡ p
  is_q p i t = same_token f F q p M.part i (sym M.its ∙ t)

  pub right : IsRight f s e after (done ++ news r b)
  right =
      record {
        single = λ x y i j. each (λ x. x.token ≡ y.token → x ≡ y)
            (λ x i n. each (λ y. x.token ≡ y.token → x ≡ y)
            (λ y j m t. R.single x y i j t)
            (λ t. absurd (n t))
            (λ c j no t. absurd (no (x, i, t))) y j)
            (each (λ y. r.token ≡ y.token → moved r b ≡ y)
            (λ y j m t. absurd (m (sym t)))
            (λ t. refl)
            (λ c j no t. absurd (no (r, M.there, t))) y j)
            (λ c i no. each (λ y. c.token ≡ y.token → born c ≡ y)
            (λ y j m t. absurd (no (y, j, sym t)))
            (λ t. absurd (no (r, M.there, sym t)))
            (λ d j other t.
            let u = (child c i).1 in
            let v = (child d j).1 in
            let same : u.0 ≡ v.0 = same_token f F u.0 v.0 u.1 v.1 (sym (ap (λ (z : NewChild). z.token) u.4) ∙ t ∙ ap (λ (z : NewChild). z.token) v.4) in
            ap born (u.4 ∙ ap (birth_of s) same ∙ sym v.4)) y j) x i;
        known = each (λ y. (p : Part) × Contains f.parts p × (p.from ≤ e) × IsBefore s p.until × IsRowOf s p y)
            (λ y i n. R.known y i)
            (q, M.part, its.0, its.1, (M.its, its.2.1, its.2.2))
            (λ x i no.
            let c = (child x i).1 in
            (c.0, c.1, c.2, before_earlier s c.0.from c.0.until (omega (arith, c.3)) (F.layout.lives c.0 c.1), (ap (λ (z : NewChild). z.token) c.4, ap (λ (z : NewChild). z.parents) c.4, ap (λ (z : NewChild). z.start) c.4)));
        opened = λ y i p j a c. keep_row p.token (R.opened r M.there p j a c);
        children = λ p c u i h ends l j named. each (λ y. y.token ≡ p.token → y.finished ≡ true → HasRow after c.token)
            (λ y m n t fin. keep_row c.token (R.children p c u i (y, m, t, fin) ends l j named))
            (λ t fin.
            let same = is_q p i t in
            A.child (record { token = c.token; parents = c.parents; start = c.from })
            ((T.children (record { token = c.token; parents = c.parents; start = c.from })).1 (fin, ((u, ap (λ (z : Part). z.until) same ∙ ends, l), (c, j, subst (λ (z : Part). Contains c.parents z.token) (sym same) named, refl)))))
            (λ x m no t fin. absurd (true≢false (sym fin)))
            h.0 h.1 h.2 h.3;
        parents = each (λ y. HasBegun y → (t : List ℕ) → Contains y.parents t → HasEnded after t)
            (λ y i n h t j. keep_ended t (R.parents y i h t j))
            (λ h t j. keep_ended t (M.parents t j))
            (λ x i no h. absurd (not_begun x (begins x i) h));
        bound = λ y p i. each (λ y. Contains f.parts p → y.token ≡ p.token → (y.start ≤ (suc y.through)) × ((suc y.through) ≤ limit e p.until) × (y.finished ≡ true → (suc y.through) ≡ limit e p.until))
            (λ y i n j t. R.bound y p i j t)
            (λ j t. subst (λ (z : Part). (r.start ≤ next_by r b) × (next_by r b ≤ limit e z.until) × (is_end b.ending ≡ true → next_by r b ≡ limit e z.until)) (is_q p j t)
            (omega (arith, old.0), omega (arith, old.1, T.bound), λ h. omega (arith, T.ended h, old.1)))
            (λ x i no j t.
            let c = (child x i).1 in
            let same : c.0 ≡ p = same_token f F c.0 p c.1 j (sym (ap (λ (z : NewChild). z.token) c.4) ∙ t) in
            let start : x.start ≡ max s c.0.from = ap (λ (z : NewChild). z.start) c.4 in
            let top : max s c.0.from ≤ limit e c.0.until = below c.0.from c.0.until c.2 c.3 (F.layout.lives c.0 c.1) in
            let low = begins x i in (omega (arith, low), subst (λ (z : Part). suc (x.start - 1) ≤ limit e z.until) same (omega (arith, start, top, low)), λ h. absurd (true≢false (sym h))))
            y i;
        order = order;
        wanted = λ c i. ⊎_elim
            (λ (j : Contains done c).
            let m = R.wanted c j in
            ⊎_elim
            (λ (a : m.0.token ≡ r.token).
            let same : m.0 ≡ r = R.single m.0 r m.1 M.there a in
            (moved r b, A.mine, (m.2.0, m.2.1, sym a ∙ m.2.2, m.2.3), m.3, subst (λ (z : Row). z.start ≤ c.stamp) same m.4, m.5, kept_known c (subst (λ (z : Row). is_known (known_by z) c ≡ true) same m.6)))
            (λ (a : m.0.token ≢ r.token). (m.0, A.kept m.0 m.1 a, m.2, m.3, m.4, m.5, m.6))
            (token_cases m.0.token r.token))
            (λ (j : Contains (news r b) c).
            let n = new c j in
            let u = T.wanted c n.0 in
            (moved r b, A.mine, (q, M.part, M.its, u.1), u.0, omega (arith, old.0, n.2), u.4, new_known c j))
            (Contains-append_cases done (news r b) c i);
        whole = λ y p i. each (λ y. Contains f.parts p → y.token ≡ p.token → (c : Change) → Contains f.wanted c → Holds p (place_of c.row) c.stamp → y.start ≤ c.stamp → is_known (known_by y) c ≡ true → Contains (done ++ news r b) c)
            (λ y i n j t c m h a g. Contains-append_left done (news r b) c (R.whole y p i j t c m h a g))
            (λ j t c m h a g. from_known c m (subst (λ (z : Part). Holds z (place_of c.row) c.stamp) (sym (is_q p j t)) h) a g)
            (λ x i no j t c m h a g. absurd (not_begun x (begins x i) (known_below (born x) c g a).1))
            y i;
      }
    where
      below : (n : ℕ) (o : Option ℕ) → n ≤ e → s < n → IsBefore n o → max s n ≤ limit e o
      below n None a l h = omega arith
      below n (Some u) a l h = omega (arith, h)
