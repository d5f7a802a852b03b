-- The children of a part stand among the parts that the reshape that ended it made.
use Rattle.std.proofs.Common.{◌≡◌, ℕ, zero, suc, ◌+◌, ◌-◌, ◌<◌, ◌≤◌, Bool, true, false, cond, List, [], ◌∷◌, ◌++◌, length, map, filter, take, drop, get_or, set, replicate, Some, None, ⊎_elim, sym, refl, ap, ◌∙◌, subst, true≢false, Contains, arith}
use Rattle.std.specs.List.{slice_get}
use Rattle.std.proofs.lemmas.Bool.{cases_lt, cases_eq}
use Rattle.std.proofs.lemmas.List.{take_all, take-append-le, drop-append-le, take-map, drop-map, drop_all, get_or-map, get_or_append_left, length-append, length-drop, append-nil, get_or-append_right, get_or-set_same, get_or-set_other, take_more, length-replicate}
use Rattle.std.proofs.lemmas.List.Elements.{filter-append, Contains-get_or}
use Rattle.cs_place.specs.declared.place.Place.{Place}
use Rattle.cs_place.specs.declared.part.Part.{Part}
use Rattle.cs_place.specs.Layout.{IsSoundLayout}
use Rattle.cs_partitions.proofs.Pairs.{one_of_a_token}
use Rattle.cs_types.specs.Names.{is_same, is_among}
use Rattle.cs_types.specs.Members.{in_head, in_tail, from_filter, from_map}
use Rattle.cs_partitions.specs.Tokens.{token_of, AreOfOneStream}
use Rattle.cs_partitions.specs.Layout.{StreamParts, IsLayout, first_part}
use Rattle.cs_partitions.specs.Reshape.{parts_named, joined_range, ranges_between, do_meet, index_named, with_end, new_parts}
use Rattle.cs_partitions.specs.Fault.{first_fault}
use Rattle.cs_partitions.specs.Views.{children_of}
use Rattle.cs_partitions.specs.Births.{IsNear, AreBirths}
use Rattle.cs_partitions.proofs.Naming.{same_is, same_itself, among_is, is_there, named_are, none_ended, token_named}
use Rattle.cs_partitions.proofs.Runs.{IsFollower, followers_are}
use Rattle.cs_partitions.proofs.Sound.{same_part, is_applied, IsApplied}
use Rattle.cs_partitions.proofs.Families.{live_is_no_parent}
use Rattle.cs_partitions.proofs.After.{layout_after}
use Rattle.cs_partitions.proofs.Indexes.{length_ends, IsIndexOf, index_of, none_there, among_more}
use Rattle.cs_partitions.proofs.Numbering.{tokens_differ, numbered_at}

all_alike : (k : ℕ) (z : ℕ × ℕ) (j : ℕ) → get_or (replicate k z) j z ≡ z
all_alike zero z j = refl
all_alike (suc k) z zero = refl
all_alike (suc k) z (suc j) = all_alike k z j

no_children : (t : List ℕ) (ps : List Part) → ((p : Part) → Contains ps p → Contains p.parents t → ⊥) → children_of t ps ≡ []
no_children t [] f = refl
no_children t (p ∷ ps) f = by (is_among t p.parents) refl (no_children t ps (λ q i. f q (in_tail p q ps i)))
  where
    by : (b : Bool) → is_among t p.parents ≡ b → children_of t ps ≡ [] → cond b (p ∷ children_of t ps) (children_of t ps) ≡ []
    by true e r = absurd (f p (in_head p ps) (among_is t p.parents e))
    by false e r = r

-- a live part has no children
pub live_has_none : (created : ℕ) (ps : List Part) → IsSoundLayout created ps → (p : Part) → Contains ps p → p.until ≡ None → children_of p.token ps ≡ []
live_has_none created ps h p i live = no_children p.token ps (live_is_no_parent created ps h p i live)

children_ends : (t : List ℕ) (ts : List (List ℕ)) (at : ℕ) (ps : List Part) → children_of t (map (with_end ts at) ps) ≡ map (with_end ts at) (children_of t ps)
children_ends t ts at [] = refl
children_ends t ts at (p ∷ ps) =
    ap (λ l. cond (is_among t l) (with_end ts at p ∷ children_of t (map (with_end ts at) ps)) (children_of t (map (with_end ts at) ps))) (same_part ts at p).parents
    ∙ by (is_among t p.parents) (children_ends t ts at ps)
  where
    by : (b : Bool) → children_of t (map (with_end ts at) ps) ≡ map (with_end ts at) (children_of t ps)
        → cond b (with_end ts at p ∷ children_of t (map (with_end ts at) ps)) (children_of t (map (with_end ts at) ps)) ≡ map (with_end ts at) (cond b (p ∷ children_of t ps) (children_of t ps))
    by true r = ap (λ z. with_end ts at p ∷ z) r
    by false r = r

-- new parts have named parts as parents alone
not_of_others : (t : List ℕ) (at : ℕ) (named new : List Part) → ((p : Part) → Contains new p → IsFollower at named p) → ((n : Part) → Contains named n → n.token ≡ t → ⊥) → children_of t new ≡ []
not_of_others t at named new each other = no_children t new f
  where
    f : (p : Part) → Contains new p → Contains p.parents t → ⊥
    f p i k =
        let m = from_map (λ (z : Part). z.token) t (filter (λ (z : Part). do_meet z.range p.range) named) (subst (λ z. Contains z t) (each p i).parents k) in
        other m.0 (from_filter (λ (z : Part). do_meet z.range p.range) m.0 named m.1).0 (sym m.2)

between_left : (s e : ℕ) (xs ys : List Part) → s ≤ e → e ≤ length xs → take (e - s) (drop s (xs ++ ys)) ≡ take (e - s) (drop s xs)
between_left s e xs ys a b = ap (take (e - s)) (drop-append-le s xs ys (omega (arith, a, b))) ∙ take-append-le (e - s) (drop s xs) ys (omega (arith, length-drop s xs, a, b))

between_right : (xs ys : List Part) → take (length xs + length ys - length xs) (drop (length xs) (xs ++ ys)) ≡ ys
between_right xs ys =
    ap (take (length xs + length ys - length xs)) (drop-append-le (length xs) xs ys (omega arith) ∙ ap (λ z. z ++ ys) (drop_all (length xs) xs (omega arith)))
    ∙ take_all (length xs + length ys - length xs) ys (omega arith)

module _ (l : StreamParts) (at : ℕ) (tokens : List (List ℕ)) (borders : List Place) (h : IsLayout l) (none : first_fault l.parts at tokens borders ≡ None) where
  abbrev old : List Part
  old = map (with_end tokens at) l.parts

  abbrev new : List Part
  new = new_parts l.stream l.parts at tokens borders

  abbrev named : List Part
  named = parts_named tokens l.parts

  ok : IsApplied l at tokens borders
  ok = is_applied l at tokens borders none

  each : (p : Part) → Contains new p → IsFollower at named p
  each = followers_are l.stream at named (length l.parts) (ranges_between (joined_range named).low borders (joined_range named).high)

  one_token : (a b : Part) → Contains l.parts a → Contains l.parts b → a.token ≡ b.token → a ≡ b
  one_token = one_of_a_token l.created l.parts h.sound

  -- the children of a part that is not named stay where they were
  near_other : (p : Part) (span : ℕ × ℕ) → Contains l.parts p → is_among p.token tokens ≡ false → IsNear l.parts span p.token → IsNear (old ++ new) span p.token
  near_other p span i other near = record {
    rising = near.rising;
    inside = omega (arith, near.inside, length_ends tokens at l.parts, length-append old new);
    all = all;
  }
    where
      unnamed : (n : Part) → Contains named n → n.token ≡ p.token → ⊥
      unnamed n j e = true≢false (sym (is_there p.token tokens (subst (λ z. Contains tokens z) e (named_are tokens l.parts n j).1)) ∙ other)

      all : children_of p.token (old ++ new) ≡ children_of p.token (take (span.1 - span.0) (drop span.0 (old ++ new)))
      all =
          filter-append (λ (z : Part). is_among p.token z.parents) old new
          ∙ ap (λ z. children_of p.token old ++ z) (not_of_others p.token at named new each unnamed)
          ∙ append-nil (children_of p.token old)
          ∙ children_ends p.token tokens at l.parts
          ∙ ap (map (with_end tokens at)) near.all
          ∙ sym (children_ends p.token tokens at (take (span.1 - span.0) (drop span.0 l.parts)))
          ∙ ap (children_of p.token) (sym (ap (take (span.1 - span.0)) (drop-map (with_end tokens at) span.0 l.parts) ∙ take-map (with_end tokens at) (span.1 - span.0) (drop span.0 l.parts)))
          ∙ ap (children_of p.token) (sym (between_left span.0 span.1 old new near.rising (omega (arith, near.inside, length_ends tokens at l.parts))))

  -- those of a named part are among the new parts
  near_named : (p : Part) → Contains l.parts p → is_among p.token tokens ≡ true → IsNear (old ++ new) (length old, length old + length new) p.token
  near_named p i is = record {
    rising = omega arith;
    inside = omega (arith, length-append old new);
    all = all;
  }
    where
      live : p.until ≡ None
      live =
          let n = token_named tokens l.parts ok.known p.token (among_is p.token tokens is) in
          let e : n.0 ≡ p = one_token n.0 p (named_are tokens l.parts n.0 n.1).0 i n.2 in
          sym (ap (λ (z : Part). z.until) e) ∙ none_ended named ok.live n.0 n.1

      all : children_of p.token (old ++ new) ≡ children_of p.token (take (length old + length new - length old) (drop (length old) (old ++ new)))
      all =
          filter-append (λ (z : Part). is_among p.token z.parents) old new
          ∙ ap (λ z. z ++ children_of p.token new) (children_ends p.token tokens at l.parts ∙ ap (map (with_end tokens at)) (live_has_none l.created l.parts h.sound p i live))
          ∙ ap (children_of p.token) (sym (between_right old new))

  -- a new part has none
  near_new : (p : Part) → Contains new p → Contains (old ++ new) p → IsNear (old ++ new) (0, 0) p.token
  near_new p i j = record {
    rising = omega arith;
    inside = omega arith;
    all = live_has_none l.created (old ++ new) (layout_after l at tokens borders h none).sound p j (each p i).until;
  }

  pub births_after : (births more : List (ℕ × ℕ)) → AreBirths l.parts births → length more ≡ length l.parts + length new
      → ((i : ℕ) (d : Part) → i < length l.parts → get_or more i (0, 0) ≡ cond (is_among (get_or l.parts i d).token tokens) (length l.parts, length l.parts + length new) (get_or births i (0, 0)))
      → ((i : ℕ) → length l.parts ≤ i → i < length more → get_or more i (0, 0) ≡ (0, 0))
      → AreBirths (old ++ new) more
  births_after births more b count here there = record {
    count = omega (arith, count, length_ends tokens at l.parts, length-append old new);
    near = near;
  }
    where
      level : length old ≡ length l.parts
      level = length_ends tokens at l.parts

      before : (i : ℕ) (d : Part) → i < length l.parts → IsNear (old ++ new) (get_or more i (0, 0)) (get_or (old ++ new) i d).token
      before i d lt =
          let p = get_or l.parts i d in
          let at_i : get_or (old ++ new) i d ≡ with_end tokens at p = get_or_append_left old new d i (omega (arith, lt, level)) ∙ get_or-map (with_end tokens at) l.parts i d d lt in
          let token : (get_or (old ++ new) i d).token ≡ p.token = ap (λ (z : Part). z.token) at_i ∙ (same_part tokens at p).token in
          subst (λ z. IsNear (old ++ new) (get_or more i (0, 0)) z) (sym token) (subst (λ z. IsNear (old ++ new) z p.token) (sym (here i d lt)) (by (is_among p.token tokens) refl))
        where
          by : (t : Bool) → is_among (get_or l.parts i d).token tokens ≡ t → IsNear (old ++ new) (cond t (length l.parts, length l.parts + length new) (get_or births i (0, 0))) (get_or l.parts i d).token
          by true e = subst (λ n. IsNear (old ++ new) (n, n + length new) (get_or l.parts i d).token) level (near_named (get_or l.parts i d) (Contains-get_or l.parts i d lt) e)
          by false e = near_other (get_or l.parts i d) (get_or births i (0, 0)) (Contains-get_or l.parts i d lt) e (b.near i d lt)

      behind : (i : ℕ) (d : Part) → length l.parts ≤ i → i < length (old ++ new) → IsNear (old ++ new) (get_or more i (0, 0)) (get_or (old ++ new) i d).token
      behind i d late lt =
          let inside : i - length old < length new = omega (arith, late, lt, level, length-append old new) in
          let at_i : get_or (old ++ new) i d ≡ get_or new (i - length old) d = get_or-append_right old new (length old) i d refl (omega (arith, late, level)) in
          let there_i = there i late (omega (arith, lt, count, level, length-append old new)) in
          let is_new : Contains new (get_or (old ++ new) i d) = subst (λ z. Contains new z) (sym at_i) (Contains-get_or new (i - length old) d inside) in
          subst (λ z. IsNear (old ++ new) z (get_or (old ++ new) i d).token) (sym there_i) (near_new (get_or (old ++ new) i d) is_new (Contains-get_or (old ++ new) i d lt))

      near : (i : ℕ) (d : Part) → i < length (old ++ new) → IsNear (old ++ new) (get_or more i (0, 0)) (get_or (old ++ new) i d).token
      near i d lt = ⊎_elim (λ (early : i < length l.parts). before i d early) (λ (late : length l.parts ≤ i). behind i d late lt) (cases_lt i (length l.parts))

  -- the births that a reshape sets, and those of the new parts
  pub births_made : (births marked more : List (ℕ × ℕ)) (n m : ℕ) → n ≡ length l.parts → m ≡ length new → AreBirths l.parts births → length marked ≡ length births
      → ((i : ℕ) (d : Part) → i < length l.parts → get_or marked i (0, 0) ≡ cond (is_among (get_or l.parts i d).token tokens) (n, n + m) (get_or births i (0, 0)))
      → more ≡ marked ++ replicate m (0, 0)
      → AreBirths (old ++ new) more
  births_made births marked more n m is_n is_m b count marks e = births_after births more b size here there
    where
      level : length marked ≡ length l.parts
      level = count ∙ b.count

      zeros : length {A = ℕ × ℕ} (replicate m (0, 0)) ≡ m
      zeros = length-replicate {A = ℕ × ℕ} m (0, 0)

      size : length more ≡ length l.parts + length new
      size =
          let none : List (ℕ × ℕ) = replicate m (0, 0) in
          ap (λ (z : List (ℕ × ℕ)). length z) e ∙ length-append {A = ℕ × ℕ} marked none ∙ omega (arith, level, is_m, zeros)

      here : (i : ℕ) (d : Part) → i < length l.parts → get_or more i (0, 0) ≡ cond (is_among (get_or l.parts i d).token tokens) (length l.parts, length l.parts + length new) (get_or births i (0, 0))
      here i d lt =
          ap (λ z. get_or z i (0, 0)) e ∙ get_or_append_left marked (replicate m (0, 0)) (0, 0) i (omega (arith, lt, level)) ∙ marks i d lt
          ∙ ap (λ z. cond (is_among (get_or l.parts i d).token tokens) (z, z + m) (get_or births i (0, 0))) is_n
          ∙ ap (λ z. cond (is_among (get_or l.parts i d).token tokens) (length l.parts, length l.parts + z) (get_or births i (0, 0))) is_m

      there : (i : ℕ) → length l.parts ≤ i → i < length more → get_or more i (0, 0) ≡ (0, 0)
      there i late lt =
          ap (λ z. get_or z i (0, 0)) e ∙ get_or-append_right marked (replicate m (0, 0)) (length l.parts) i (0, 0) level late
          ∙ all_alike m (0, 0) (i - length l.parts)

-- the births of the parts of some tokens are set

get_of : (ps : List Part) (i : ℕ) (p d : Part) → slice_get ps i ≡ Some p → get_or ps i d ≡ p
get_of [] i p d e = cc
get_of (q ∷ qs) zero p d e = cc
get_of (q ∷ qs) (suc i) p d e = get_of qs i p d e

of_get : (ps : List Part) (i : ℕ) (d : Part) → i < length ps → slice_get ps i ≡ Some (get_or ps i d)
of_get [] i d lt = absurd (omega (arith, lt))
of_get (q ∷ qs) zero d lt = refl
of_get (q ∷ qs) (suc i) d lt = of_get qs i d (omega (arith, lt))

cond_true : {A : Type 0} (b : Bool) (x y : A) → b ≡ true → cond b x y ≡ x
cond_true b x y e = ap (λ c. cond c x y) e

cond_false : {A : Type 0} (b : Bool) (x y : A) → b ≡ false → cond b x y ≡ y
cond_false b x y e = ap (λ c. cond c x y) e

module _ (parts : List Part) (h : AreOfOneStream parts) (t : List ℕ) (births : List (ℕ × ℕ)) (span : ℕ × ℕ) (count : length births ≡ length parts) where
  one_false : (i : ℕ) (d : Part) → is_same t (get_or parts i d).token ≡ false → is_among (get_or parts i d).token (t ∷ []) ≡ false
  one_false i d e = ap (λ b. cond b true false) e

  one_true : (i : ℕ) (d : Part) → is_same t (get_or parts i d).token ≡ true → is_among (get_or parts i d).token (t ∷ []) ≡ true
  one_true i d e = ap (λ b. cond b true false) e

  pub set_none : index_named t parts ≡ None → (i : ℕ) (d : Part) → i < length parts → get_or births i (0, 0) ≡ cond (is_among (get_or parts i d).token (t ∷ [])) span (get_or births i (0, 0))
  set_none e i d lt = by (is_same t (get_or parts i d).token) refl
    where
      by : (b : Bool) → is_same t (get_or parts i d).token ≡ b → get_or births i (0, 0) ≡ cond (is_among (get_or parts i d).token (t ∷ [])) span (get_or births i (0, 0))
      by true s = absurd (none_there t parts i (get_or parts i d) e (of_get parts i d lt) (sym (same_is t (get_or parts i d).token s)))
      by false s = sym (cond_false (is_among (get_or parts i d).token (t ∷ [])) span (get_or births i (0, 0)) (one_false i d s))

  pub set_some : (j : ℕ) → index_named t parts ≡ Some j → (i : ℕ) (d : Part) → i < length parts → get_or (set births j span) i (0, 0) ≡ cond (is_among (get_or parts i d).token (t ∷ [])) span (get_or births i (0, 0))
  set_some j e i d lt = ⊎_elim same other (cases_eq i j)
    where
      r : (p : Part) × IsIndexOf h.0 t 0 parts j p
      r = index_of h.0 t 0 parts j h.1 e

      same : i ≡ j → get_or (set births j span) i (0, 0) ≡ cond (is_among (get_or parts i d).token (t ∷ [])) span (get_or births i (0, 0))
      same k =
          let token : (get_or parts i d).token ≡ t = ap (λ n. (get_or parts n d).token) k ∙ ap (λ (z : Part). z.token) (get_of parts j r.0 d r.1.stands) ∙ r.1.same in
          let is : is_same t (get_or parts i d).token ≡ true = ap (is_same t) token ∙ same_itself t in
          ap (λ n. get_or (set births j span) n (0, 0)) k ∙ get_or-set_same births j span (0, 0) (omega (arith, r.1.inside, count))
          ∙ sym (cond_true (is_among (get_or parts i d).token (t ∷ [])) span (get_or births i (0, 0)) (one_true i d is))

      other : (i ≡ j → ⊥) → get_or (set births j span) i (0, 0) ≡ cond (is_among (get_or parts i d).token (t ∷ [])) span (get_or births i (0, 0))
      other n = get_or-set_other births j i span (0, 0) n ∙ by (is_same t (get_or parts i d).token) refl
        where
          by : (b : Bool) → is_same t (get_or parts i d).token ≡ b → get_or births i (0, 0) ≡ cond (is_among (get_or parts i d).token (t ∷ [])) span (get_or births i (0, 0))
          by true s =
              let a : token_of h.0 (0 + i) ≡ token_of h.0 (0 + j) = sym (numbered_at h.0 0 parts h.1 i d lt) ∙ sym (same_is t (get_or parts i d).token s) ∙ r.1.number in
              absurd (n (omega (arith, tokens_differ h.0 (0 + i) (0 + j) (omega (arith, lt, h.2)) (omega (arith, r.1.inside, h.2)) a)))
          by false s = sym (cond_false (is_among (get_or parts i d).token (t ∷ [])) span (get_or births i (0, 0)) (one_false i d s))

-- one token more of those whose parts' births are set
more : (token t : List ℕ) (ts : List (List ℕ)) (k : ℕ) (span now was : ℕ × ℕ) → k < length ts → t ≡ get_or ts k t → was ≡ cond (is_among token (take k ts)) span now → cond (is_among token (t ∷ [])) span was ≡ cond (is_among token (take (k + 1) ts)) span now
more token t ts k span now was l is e =
    by (is_among token (t ∷ [])) (is_among token (take k ts)) e
    ∙ ap (λ b. cond b span now) (sym (ap (is_among token) (take_more ts k t l ∙ ap (λ z. take k ts ++ z ∷ []) (sym is)) ∙ among_more token t (take k ts)))
  where
    by : (a b : Bool) → was ≡ cond b span now → cond a span was ≡ cond (cond a true b) span now
    by true b e = refl
    by false b e = e

module _ (parts : List Part) (h : AreOfOneStream parts) (ts : List (List ℕ)) (k : ℕ) (t : List ℕ) (l : k < length ts) (is : t ≡ get_or ts k t) (births first : List (ℕ × ℕ)) (span : ℕ × ℕ) (count : length births ≡ length parts)
    (so_far : (i : ℕ) (d : Part) → i < length parts → get_or births i (0, 0) ≡ cond (is_among (get_or parts i d).token (take k ts)) span (get_or first i (0, 0))) where
  pub births_none : index_named t parts ≡ None → (i : ℕ) (d : Part) → i < length parts → get_or births i (0, 0) ≡ cond (is_among (get_or parts i d).token (take (k + 1) ts)) span (get_or first i (0, 0))
  births_none e i d lt =
      set_none parts h t births span count e i d lt
      ∙ more (get_or parts i d).token t ts k span (get_or first i (0, 0)) (get_or births i (0, 0)) l is (so_far i d lt)

  pub births_some : (j : ℕ) → index_named t parts ≡ Some j → (i : ℕ) (d : Part) → i < length parts → get_or (set births j span) i (0, 0) ≡ cond (is_among (get_or parts i d).token (take (k + 1) ts)) span (get_or first i (0, 0))
  births_some j e i d lt =
      set_some parts h t births span count j e i d lt
      ∙ more (get_or parts i d).token t ts k span (get_or first i (0, 0)) (get_or births i (0, 0)) l is (so_far i d lt)

-- the one part of a new stream has no children
pub births_first : (stream : List ℕ) (created : ℕ) (parts : List Part) (births : List (ℕ × ℕ)) → parts ≡ first_part stream created ∷ [] → births ≡ (0, 0) ∷ [] → AreBirths parts births
births_first stream created parts births e f =
    subst (λ b. AreBirths parts b) (sym f) (subst (λ p. AreBirths p ((0, 0) ∷ [])) (sym e) (record { count = refl; near = near }))
  where
    near : (i : ℕ) (d : Part) → i < 1 → IsNear (first_part stream created ∷ []) (get_or ((0, 0) ∷ []) i (0, 0)) (get_or (first_part stream created ∷ []) i d).token
    near zero d lt = record { rising = omega arith; inside = omega arith; all = refl }
    near (suc i) d lt = absurd (omega (arith, lt))

-- the births of a part that is there
pub span_fits : (parts : List Part) (births : List (ℕ × ℕ)) (index : ℕ) (span : ℕ × ℕ) → AreBirths parts births → index < length parts → span ≡ get_or births index (0, 0) → (span.0 ≤ span.1) × (span.1 ≤ length parts)
span_fits [] births index span b lt e = absurd (omega (arith, lt))
span_fits (p ∷ ps) births index span b lt e =
    let near = b.near index p lt in
    subst (λ z. (z.0 ≤ z.1) × (z.1 ≤ length (p ∷ ps))) (sym e) (near.rising, near.inside)

-- what is said of marked births, of equal lists and of an equal span
pub same_marks : (parts qs : List Part) (births first marked : List (ℕ × ℕ)) (ts : List (List ℕ)) (span other : ℕ × ℕ) → qs ≡ parts → births ≡ first → span ≡ other
    → ((i : ℕ) (d : Part) → i < length qs → get_or marked i (0, 0) ≡ cond (is_among (get_or qs i d).token ts) span (get_or births i (0, 0)))
    → (i : ℕ) (d : Part) → i < length parts → get_or marked i (0, 0) ≡ cond (is_among (get_or parts i d).token ts) other (get_or first i (0, 0))
same_marks parts qs births first marked ts span other e f g h =
    subst (λ ps. (i : ℕ) (d : Part) → i < length ps → get_or marked i (0, 0) ≡ cond (is_among (get_or ps i d).token ts) other (get_or first i (0, 0))) e
    (subst (λ bs. (i : ℕ) (d : Part) → i < length qs → get_or marked i (0, 0) ≡ cond (is_among (get_or qs i d).token ts) other (get_or bs i (0, 0))) f
    (subst (λ z. (i : ℕ) (d : Part) → i < length qs → get_or marked i (0, 0) ≡ cond (is_among (get_or qs i d).token ts) z (get_or births i (0, 0))) g h))
