-- Behind a reshape too, the children of a part stand in order of low, and so do the parents of one.
use Rattle.std.proofs.Common.{◌≡◌, ℕ, ◌<◌, ◌≤◌, true, List, ◌++◌, map, filter, Option, Some, None, ⊎_elim, sym, ap, ◌∙◌, subst, Contains, arith}
use Rattle.std.proofs.lemmas.Bool.{cases_lt}
use Rattle.std.proofs.lemmas.List.Elements.{Contains-append_left, Contains-append_cases}
use Rattle.std.proofs.lemmas.List.Kept.{AllPairs-filter}
use Rattle.std.specs.List.{AllPairs}
use Rattle.cs_place.specs.declared.place.Place.{Place}
use Rattle.cs_place.specs.declared.part.Range.{Range}
use Rattle.cs_place.specs.declared.part.Part.{Part}
use Rattle.cs_place.specs.Part.{is_below}
use Rattle.cs_place.specs.Layout.{IsSoundLayout}
use Rattle.cs_partitions.specs.Layout.{StreamParts, IsLayout, IsLower, AreSiblingsByLow, AreNamedByLow}
use Rattle.cs_partitions.specs.Reshape.{parts_named, joined_range, do_meet, with_end, new_parts}
use Rattle.cs_partitions.proofs.Pairs.{one_of_a_token, pairs_append, pairs_map, pairs_more}
use Rattle.cs_types.specs.Names.{is_among}
use Rattle.cs_types.specs.Members.{in_nil, from_filter, in_map, from_map}
use Rattle.cs_partitions.specs.Views.{children_of}
use Rattle.cs_partitions.proofs.Naming.{among_is}
use Rattle.cs_partitions.proofs.Runs.{runs_rise}
use Rattle.cs_partitions.proofs.Sound.{IsApplied, IsCut, same_part, cut_of}

-- no part names a live part as a parent
pub live_is_no_parent : (created : ℕ) (ps : List Part) → IsSoundLayout created ps → (p : Part) → Contains ps p → p.until ≡ None → (q : Part) → Contains ps q → Contains q.parents p.token → ⊥
live_is_no_parent created ps h p i live q j k =
    ⊎_elim
    (λ (late : created < q.from).
    let r = (h.parents q j late p.token).0 k in
    let s : r.0 ≡ p = one_of_a_token created ps h r.0 p r.1 i r.2 in
    none_some r.0.until (ap (λ (z : Part). z.until) s ∙ live) r.3.moment)
    (λ (early : q.from ≤ created).
    let s : q.from ≡ created = omega (arith, early, h.begins q j) in
    in_nil p.token (subst (λ z. Contains z p.token) (h.first q j s) k))
    (cases_lt created q.from)
  where
    none_some : {u : ℕ} (o : Option ℕ) → o ≡ None → o ≡ Some u → ⊥
    none_some o e f = cc

-- a part that names a token has a parent with it
parent_of : (created : ℕ) (ps : List Part) → IsSoundLayout created ps → (p : Part) → Contains ps p → (token : List ℕ) → Contains p.parents token → (q : Part) × Contains ps q × (q.token ≡ token)
parent_of created ps h p i token k =
    ⊎_elim
    (λ (late : created < p.from). let r = (h.parents p i late token).0 k in (r.0, r.1, r.2))
    (λ (early : p.from ≤ created).
    let s : p.from ≡ created = omega (arith, early, h.begins p i) in
    absurd (in_nil token (subst (λ z. Contains z token) (h.first p i s) k)))
    (cases_lt created p.from)

-- the order of two parts is that of their ranges
lower_as : (a b x y : Part) → a.range ≡ x.range → b.range ≡ y.range → IsLower x y → IsLower a b
lower_as a b x y e f lower =
    subst (λ (z : Range). is_below z.low b.range.low ≡ true) (sym e) (subst (λ (z : Range). is_below x.range.low z.low ≡ true) (sym f) lower)

module _ (l : StreamParts) (at : ℕ) (tokens : List (List ℕ)) (borders : List Place) (h : IsLayout l) (ok : IsApplied l at tokens borders) where
  abbrev named : List Part
  named = parts_named tokens l.parts

  abbrev old : List Part
  old = map (with_end tokens at) l.parts

  abbrev new : List Part
  new = new_parts l.stream l.parts at tokens borders

  cut : IsCut l.created at l.parts named new tokens (joined_range named).low (joined_range named).high
  cut = cut_of l at tokens borders h ok

  new_rise : AllPairs IsLower new
  new_rise = runs_rise (joined_range named).low new (joined_range named).high cut.new

  -- a named part that a new part names as its parent
  named_parent : (p : Part) → Contains new p → (token : List ℕ) → Contains p.parents token → (n : Part) × Contains named n × (n.token ≡ token)
  named_parent p i token k =
      let meets = λ (z : Part). do_meet z.range p.range in
      let m = from_map (λ (z : Part). z.token) token (filter meets named) (subst (λ z. Contains z token) (cut.each p i).parents k) in
      (m.0, (from_filter meets m.0 named m.1).0, sym m.2)

  pub children_after : AllPairs AreSiblingsByLow (old ++ new)
  children_after =
      pairs_append AreSiblingsByLow old new
      (pairs_map AreSiblingsByLow (with_end tokens at) l.parts (pairs_more AreSiblingsByLow (λ a b. AreSiblingsByLow (with_end tokens at a) (with_end tokens at b)) l.parts stay h.children))
      (pairs_more IsLower AreSiblingsByLow new (λ x y i j lower token k m. lower) new_rise)
      across
    where
      stay : (x y : Part) → Contains l.parts x → Contains l.parts y → AreSiblingsByLow x y → AreSiblingsByLow (with_end tokens at x) (with_end tokens at y)
      stay x y i j s token k m =
          let a = same_part tokens at x in
          let b = same_part tokens at y in
          lower_as (with_end tokens at x) (with_end tokens at y) x y a.range b.range (s token (subst (λ z. Contains z token) a.parents k) (subst (λ z. Contains z token) b.parents m))

      across : (x y : Part) → Contains old x → Contains new y → AreSiblingsByLow x y
      across x y i j token k m =
          let o = from_map (with_end tokens at) x l.parts i in
          let n = named_parent y j token m in
          let there : Contains o.0.parents token = subst (λ z. Contains z token) (ap (λ (z : Part). z.parents) o.2 ∙ (same_part tokens at o.0).parents) k in
          absurd (live_is_no_parent l.created l.parts h.sound n.0 (cut.there n.0 n.1).0 (cut.live n.0 n.1) o.0 o.1 (subst (λ z. Contains o.0.parents z) (sym n.2) there))

  module _ (sound : IsSoundLayout l.created (old ++ new)) where
    -- a token leads to the same range as before
    stays : (a x : Part) → Contains (old ++ new) a → Contains l.parts x → a.token ≡ x.token → a.range ≡ x.range
    stays a x i j e =
        let same = same_part tokens at x in
        let there = Contains-append_left old new (with_end tokens at x) (in_map (with_end tokens at) x l.parts j) in
        ap (λ (z : Part). z.range) (one_of_a_token l.created (old ++ new) sound a (with_end tokens at x) i there (e ∙ sym same.token)) ∙ same.range

    Named : List ℕ → List ℕ → Type 0
    Named s t = (a b : Part) → Contains (old ++ new) a → Contains (old ++ new) b → a.token ≡ s → b.token ≡ t → IsLower a b

    named_so : (x y : Part) → Contains l.parts x → Contains l.parts y → IsLower x y → Named x.token y.token
    unfolding Named
    named_so x y i j lower a b k m e f = lower_as a b x y (stays a x k i e) (stays b y m j f) lower

    parents_old : (p : Part) → Contains l.parts p → AllPairs Named p.parents
    unfolding Named
    parents_old p i = pairs_more (λ s t. (a b : Part) → Contains l.parts a → Contains l.parts b → a.token ≡ s → b.token ≡ t → IsLower a b) Named p.parents stay (h.parents p i)
      where
        stay : (s t : List ℕ) → Contains p.parents s → Contains p.parents t → ((a b : Part) → Contains l.parts a → Contains l.parts b → a.token ≡ s → b.token ≡ t → IsLower a b) → Named s t
        stay s t k m f =
            let x = parent_of l.created l.parts h.sound p i s k in
            let y = parent_of l.created l.parts h.sound p i t m in
            subst (λ z. Named z t) x.2 (subst (λ z. Named x.0.token z) y.2 (named_so x.0 y.0 x.1 y.1 (f x.0 y.0 x.1 y.1 x.2 y.2)))

    parents_new : (p : Part) → Contains new p → AllPairs Named p.parents
    parents_new p i =
        let meets = λ (z : Part). do_meet z.range p.range in
        let rise = pairs_more IsLower (λ (x y : Part). Named x.token y.token) named
        (λ x y k m lower. named_so x y (cut.there x k).0 (cut.there y m).0 lower)
        (runs_rise (joined_range named).low named (joined_range named).high cut.old) in
        subst (λ z. AllPairs Named z) (sym (cut.each p i).parents)
        (pairs_map Named (λ (z : Part). z.token) (filter meets named) (AllPairs-filter (λ (x y : Part). Named x.token y.token) meets named rise))

    pub parents_after : (q : Part) → Contains (old ++ new) q → AreNamedByLow (old ++ new) q.parents
    unfolding Named
    parents_after q i =
        ⊎_elim
        (λ (k : Contains old q).
        let o = from_map (with_end tokens at) q l.parts k in
        subst (λ z. AllPairs Named z) (sym (same_part tokens at o.0).parents ∙ ap (λ (z : Part). z.parents) (sym o.2)) (parents_old o.0 o.1))
        (λ (k : Contains new q). parents_new q k)
        (Contains-append_cases old new q i)

-- the children of a part rise
pub children_rise : (token : List ℕ) (ps : List Part) → AllPairs AreSiblingsByLow ps → AllPairs IsLower (children_of token ps)
children_rise token ps h =
    let test = λ (p : Part). is_among token p.parents in
    pairs_more AreSiblingsByLow IsLower (children_of token ps) (λ x y i j f. f token (among_is token x.parents (from_filter test x ps i).1) (among_is token y.parents (from_filter test y ps j).1)) (AllPairs-filter AreSiblingsByLow test ps h)
