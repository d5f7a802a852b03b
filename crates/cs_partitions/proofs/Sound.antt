-- A reshape that is not refused keeps a layout sound.
use Rattle.std.proofs.Common.{◌≡◌, ◌≢◌, ◌⊎◌, ◌↔◌, ℕ, suc, ◌+◌, ◌-◌, ◌<◌, ◌≤◌, Bool, true, false, cond, not, ◌&&◌, nat_lt, List, [], ◌∷◌, ◌++◌, map, filter, length, Option, Some, None, inl, inr, ⊎_elim, sym, refl, ap, ◌∙◌, subst, true≢false, Contains, arith}
use Rattle.std.proofs.lemmas.List.Elements.{Contains-append_left, Contains-append_right, Contains-append_cases}
use Rattle.cs_place.specs.declared.place.Place.{Place}
use Rattle.cs_place.specs.declared.part.Range.{Range}
use Rattle.cs_place.specs.declared.part.Part.{Part}
use Rattle.cs_place.specs.Held.{below_high_is}
use Rattle.cs_place.specs.Part.{is_below, IsBelowHigh, IsInRange, IsBefore, Holds, Meet, is_below_high}
use Rattle.cs_place.specs.Layout.{HasOnePart, IsFollowedBy, IsSoundLayout}
use Rattle.cs_partitions.specs.declared.fault.LayoutFault.{LayoutFault}
use Rattle.cs_partitions.specs.declared.fault.LayoutFault.TheVariants.{NotNeighbours, BorderOutside, BordersNotRising, StampNotAfter, TooManyParts, TooWide}
use Rattle.std.specs.Option.{option_or}
use Rattle.cs_types.specs.Names.{is_among}
use Rattle.cs_types.specs.Members.{in_head, in_filter, from_filter, in_map, from_map}
use Rattle.cs_partitions.specs.Tokens.{most_parts}
use Rattle.cs_partitions.specs.Layout.{StreamParts, IsLayout, IsLower}
use Rattle.cs_partitions.specs.Reshape.{parts_named, joined_range, ranges_between, do_meet, parents_of, with_end, new_parts}
use Rattle.cs_partitions.specs.Fault.{unknown, ended, are_neighbours, all_divide, are_rising, begin_before, unless, most_wide, shape_fault, number_fault, first_fault}
use Rattle.std.proofs.lemmas.Bool.{cases_lt}
use Rattle.std.specs.List.{AllPairs}
use Rattle.std.proofs.lemmas.List.Kept.{AllPairs-filter}
use Rattle.cs_partitions.proofs.Pairs.{one_of_a_token, pairs_more, pairs_map}
use Rattle.cs_partitions.proofs.Order.{from_high, below_not_above, below_not_itself}
use Rattle.cs_partitions.proofs.Runs.{both, Runs, runs_in, runs_out, runs_one, runs_have, runs_first, runs_rise, neighbours_run, followers_run, IsFollower, followers_are}
use Rattle.cs_partitions.proofs.Naming.{among_is, is_there, named_are, token_named, none_ended, all_before}

-- what is known where no fault is found

none_of : (a b : Option LayoutFault) → option_or a b ≡ None → (a ≡ None) × (b ≡ None)
none_of None b h = (refl, h)
none_of (Some x) b h = cc

passes : (test : Bool) (f : LayoutFault) → unless test f ≡ None → test ≡ true
passes true f h = refl
passes false f h = cc

-- a reshape that may be applied
pub record IsApplied (l : StreamParts) (at : ℕ) (tokens : List (List ℕ)) (borders : List Place) : Type 0 where
  pub known : unknown l.parts tokens ≡ None
  pub live : ended (parts_named tokens l.parts) ≡ None
  pub neighbours : are_neighbours (parts_named tokens l.parts) ≡ true
  pub inside : all_divide (joined_range (parts_named tokens l.parts)) borders ≡ true
  pub rising : are_rising borders ≡ true
  pub before : begin_before at (parts_named tokens l.parts) ≡ true
  pub count : not (nat_lt most_parts (length l.parts + suc (length borders))) ≡ true

pub is_applied : (l : StreamParts) (at : ℕ) (tokens : List (List ℕ)) (borders : List Place) → first_fault l.parts at tokens borders ≡ None → IsApplied l at tokens borders
is_applied l at tokens borders h =
    let named = parts_named tokens l.parts in
    let total = length l.parts in
    let made = suc (length borders) in
    let a = none_of (unknown l.parts tokens) (option_or (shape_fault named at borders) (number_fault total (length tokens) made)) h in
    let b = none_of (shape_fault named at borders) (number_fault total (length tokens) made) a.1 in
    let c = none_of (ended named) (option_or (unless (are_neighbours named) NotNeighbours) (option_or (unless (all_divide (joined_range named) borders) BorderOutside) (option_or (unless (are_rising borders) BordersNotRising) (unless (begin_before at named) StampNotAfter)))) b.0 in
    let d = none_of (unless (are_neighbours named) NotNeighbours) (option_or (unless (all_divide (joined_range named) borders) BorderOutside) (option_or (unless (are_rising borders) BordersNotRising) (unless (begin_before at named) StampNotAfter))) c.1 in
    let e = none_of (unless (all_divide (joined_range named) borders) BorderOutside) (option_or (unless (are_rising borders) BordersNotRising) (unless (begin_before at named) StampNotAfter)) d.1 in
    let f = none_of (unless (are_rising borders) BordersNotRising) (unless (begin_before at named) StampNotAfter) e.1 in
    let g = none_of (unless (not (nat_lt most_parts (total + made))) (TooManyParts most_parts)) (unless (not (nat_lt most_wide (length tokens)) && not (nat_lt most_wide made)) (TooWide most_wide)) b.1 in
    record {
      known = a.0;
      live = c.0;
      neighbours = passes _ _ d.0;
      inside = passes _ _ e.0;
      rising = passes _ _ f.0;
      before = passes _ _ f.1;
      count = passes _ _ g.0;
    }

-- a test that two ranges meet, and a place that they have in common

meet_at : (a b : Range) → IsBelowHigh a.low a.high → IsBelowHigh b.low b.high → do_meet a b ≡ true → Meet a b
meet_at a b has_a has_b h = by (is_below a.low b.low) refl
  where
    h2 : (is_below_high a.low b.high ≡ true) × (is_below_high b.low a.high ≡ true)
    h2 = both (is_below_high a.low b.high) (is_below_high b.low a.high) h

    by : (t : Bool) → is_below a.low b.low ≡ t → Meet a b
    by true e = (b.low, (below_not_above a.low b.low e, (below_high_is b.low a.high).0 h2.1), (below_not_itself b.low, has_b))
    by false e = (a.low, (below_not_itself a.low, has_a), (e, (below_high_is a.low b.high).0 h2.0))

meet_is : (a b : Range) → Meet a b → do_meet a b ≡ true
meet_is a b m =
    let left : is_below_high a.low b.high ≡ true = (below_high_is a.low b.high).1 (from_high a.low m.0 b.high m.1.0 m.2.1) in
    let right : is_below_high b.low a.high ≡ true = (below_high_is b.low a.high).1 (from_high b.low m.0 a.high m.2.0 m.1.1) in
    ap (λ t. t && is_below_high b.low a.high) left ∙ right

-- parts of which some end at a moment, and others that take their places over from then on
pub record IsCut (created at : ℕ) (parts named fresh : List Part) (tokens : List (List ℕ)) (low : Place) (high : Option Place) : Type 0 where
  pub sound : IsSoundLayout created parts
  pub there : (p : Part) → Contains named p → Contains parts p × Contains tokens p.token
  pub all : (t : List ℕ) → Contains tokens t → (p : Part) × Contains named p × (p.token ≡ t)
  pub live : (p : Part) → Contains named p → p.until ≡ None
  pub before : (p : Part) → Contains named p → p.from < at
  pub old : Runs low named high
  pub new : Runs low fresh high
  pub each : (p : Part) → Contains fresh p → IsFollower at named p

pub length_same : (tokens : List (List ℕ)) (at : ℕ) (ps : List Part) → length (map (with_end tokens at) ps) ≡ length ps
length_same tokens at [] = refl
length_same tokens at (p ∷ ps) = ap suc (length_same tokens at ps)

ended_is : (tokens : List (List ℕ)) (at : ℕ) (p : Part) → is_among p.token tokens ≡ true → with_end tokens at p ≡ record p { until = Some at }
ended_is tokens at p e = ap (λ b. cond b (record p { until = Some at }) p) e

other_is : (tokens : List (List ℕ)) (at : ℕ) (p : Part) → is_among p.token tokens ≡ false → with_end tokens at p ≡ p
other_is tokens at p e = ap (λ b. cond b (record p { until = Some at }) p) e

-- what an end leaves as it was
pub record IsSamePart (p q : Part) : Type 0 where
  pub token : q.token ≡ p.token
  pub parents : q.parents ≡ p.parents
  pub range : q.range ≡ p.range
  pub from : q.from ≡ p.from

pub same_part : (tokens : List (List ℕ)) (at : ℕ) (p : Part) → IsSamePart p (with_end tokens at p)
same_part tokens at p = by (is_among p.token tokens) refl
  where
    by : (b : Bool) → is_among p.token tokens ≡ b → IsSamePart p (cond b (record p { until = Some at }) p)
    by true e = record { token = refl; parents = refl; range = refl; from = refl }
    by false e = record { token = refl; parents = refl; range = refl; from = refl }

module _ (created at : ℕ) (parts named fresh : List Part) (tokens : List (List ℕ)) (low : Place) (high : Option Place) (c : IsCut created at parts named fresh tokens low high) where
  one_token : (a b : Part) → Contains parts a → Contains parts b → a.token ≡ b.token → a ≡ b
  one_token = one_of_a_token created parts c.sound

  one_holder : (a b : Part) (x : Place) (t : ℕ) → created ≤ t → Contains parts a → Contains parts b → Holds a x t → Holds b x t → a ≡ b
  one_holder a b x t late i j k m =
      let u = c.sound.held x t late in
      u.3 a i k ∙ sym (u.3 b j m)

  -- a part whose token is named is one of the named
  is_named : (p : Part) → Contains parts p → is_among p.token tokens ≡ true → Contains named p
  is_named p i e =
      let r = c.all p.token (among_is p.token tokens e) in
      subst (λ z. Contains named z) (one_token r.0 p (c.there r.0 r.1).0 i r.2) r.1

  among : (p : Part) → Contains named p → is_among p.token tokens ≡ true
  among p i = is_there p.token tokens (c.there p i).1

  -- a named part has its places at each moment from its beginning on
  goes_on : (p : Part) → Contains named p → (x : Place) (t : ℕ) → IsInRange p.range x → p.from ≤ t → Holds p x t
  goes_on p i x t k late = record { inside = k; live = record { born = late; lives = subst (λ o. IsBefore t o) (sym (c.live p i)) tt } }

  after : (p : Part) → Contains named p → created < at
  after p i = omega (arith, c.before p i, c.sound.begins p (c.there p i).0)

  -- the first of the named parts shows that the moment is after the creation
  late_run : (ns : List Part) → Runs low ns high → ((p : Part) → Contains ns p → Contains named p) → created < at
  late_run [] r f = absurd r
  late_run (n ∷ ns) r f = after n (f n (in_head n ns))

  late : created < at
  late = late_run named c.old (λ p i. i)

  result : List Part
  result = map (with_end tokens at) parts ++ fresh

  -- what is in the result: a part as it was or with its end, or a new one
  in_old : (p : Part) → Contains parts p → Contains result (with_end tokens at p)
  unfolding result
  in_old p i = Contains-append_left (map (with_end tokens at) parts) fresh (with_end tokens at p) (in_map (with_end tokens at) p parts i)

  in_new : (p : Part) → Contains fresh p → Contains result p
  unfolding result
  in_new p i = Contains-append_right (map (with_end tokens at) parts) fresh p i

  cases : (q : Part) → Contains result q → ((p : Part) × Contains parts p × (with_end tokens at p ≡ q)) ⊎ Contains fresh q
  unfolding result
  cases q i =
      ⊎_elim
      (λ (k : Contains (map (with_end tokens at) parts) q). let o = from_map (with_end tokens at) q parts k in inl (o.0, o.1, sym o.2))
      (λ (k : Contains fresh q). inr k)
      (Contains-append_cases (map (with_end tokens at) parts) fresh q i)

  -- a part that holds a place with its end held it without
  held_so : (p : Part) (x : Place) (t : ℕ) → Contains parts p → Holds (with_end tokens at p) x t → Holds p x t
  held_so p x t i k = by (is_among p.token tokens) refl
    where
      by : (b : Bool) → is_among p.token tokens ≡ b → Holds p x t
      by true e = let m = subst (λ z. Holds z x t) (ended_is tokens at p e) k in goes_on p (is_named p i e) x t m.inside m.live.born
      by false e = subst (λ z. Holds z x t) (other_is tokens at p e) k

  -- a new part has only places of the named parts
  old_holder : (p : Part) (x : Place) (t : ℕ) → Contains fresh p → Holds p x t → (n : Part) × Contains named n × Holds n x t
  old_holder p x t i k =
      let n = runs_in low named high c.old x (runs_out low fresh high c.new p i x k.inside) in
      let born : at ≤ t = subst (λ m. m ≤ t) (c.each p i).from k.live.born in
      (n.0, n.1, goes_on n.0 n.1 x t n.2 (omega (arith, c.before n.0 n.1, born)))

  new_holds : (p : Part) (x : Place) (t : ℕ) → Contains fresh p → IsInRange p.range x → at ≤ t → Holds p x t
  new_holds p x t i k late = record {
    inside = k;
    live = record { born = subst (λ m. m ≤ t) (sym (c.each p i).from) late; lives = subst (λ o. IsBefore t o) (sym (c.each p i).until) tt };
  }

  held_other : (x : Place) (t : ℕ) → (q : Part) → Contains parts q → Holds q x t → ((p : Part) → Contains parts p → Holds p x t → p ≡ q) → is_among q.token tokens ≡ false → HasOnePart result x t
  held_other x t q i k only e = (q, subst (λ z. Contains result z) (other_is tokens at q e) (in_old q i), k, one)
    where
      one : (other : Part) → Contains result other → Holds other x t → other ≡ q
      one other j m =
          ⊎_elim
          (λ (o : (p : Part) × Contains parts p × (with_end tokens at p ≡ other)).
          let s : o.0 ≡ q = only o.0 o.1 (held_so o.0 x t o.1 (subst (λ z. Holds z x t) (sym o.2) m)) in
          sym o.2 ∙ ap (with_end tokens at) s ∙ other_is tokens at q e)
          (λ (n : Contains fresh other).
          let r = old_holder other x t n m in
          let s : r.0 ≡ q = only r.0 (c.there r.0 r.1).0 r.2 in
          absurd (true≢false (sym (among r.0 r.1) ∙ ap (λ (z : Part). is_among z.token tokens) s ∙ e)))
          (cases other j)

  held_early : (x : Place) (t : ℕ) → (q : Part) → Contains parts q → Holds q x t → ((p : Part) → Contains parts p → Holds p x t → p ≡ q) → is_among q.token tokens ≡ true → t < at → HasOnePart result x t
  held_early x t q i k only e early = (
    with_end tokens at q,
    in_old q i,
    subst (λ z. Holds z x t) (sym (ended_is tokens at q e)) (record { inside = k.inside; live = record { born = k.live.born; lives = early } }),
    one,
  )
    where
      one : (other : Part) → Contains result other → Holds other x t → other ≡ with_end tokens at q
      one other j m =
          ⊎_elim
          (λ (o : (p : Part) × Contains parts p × (with_end tokens at p ≡ other)).
          sym o.2 ∙ ap (with_end tokens at) (only o.0 o.1 (held_so o.0 x t o.1 (subst (λ z. Holds z x t) (sym o.2) m))))
          (λ (n : Contains fresh other).
          let born : at ≤ t = subst (λ z. z ≤ t) (c.each other n).from m.live.born in
          absurd (omega (arith, early, born)))
          (cases other j)

  held_late : (x : Place) (t : ℕ) → (q : Part) → Contains parts q → Holds q x t → ((p : Part) → Contains parts p → Holds p x t → p ≡ q) → is_among q.token tokens ≡ true → at ≤ t → HasOnePart result x t
  held_late x t q i k only e late = (new.0, in_new new.0 new.1, new_holds new.0 x t new.1 new.2 late, one)
    where
      new : (p : Part) × Contains fresh p × IsInRange p.range x
      new = runs_in low fresh high c.new x (runs_out low named high c.old q (is_named q i e) x k.inside)

      one : (other : Part) → Contains result other → Holds other x t → other ≡ new.0
      one other j m =
          ⊎_elim
          (λ (o : (p : Part) × Contains parts p × (with_end tokens at p ≡ other)).
          let s : o.0 ≡ q = only o.0 o.1 (held_so o.0 x t o.1 (subst (λ z. Holds z x t) (sym o.2) m)) in
          let w : Holds (record q { until = Some at }) x t = subst (λ z. Holds z x t) (sym o.2 ∙ ap (with_end tokens at) s ∙ ended_is tokens at q e) m in
          let early : t < at = w.live.lives in
          absurd (omega (arith, early, late)))
          (λ (n : Contains fresh other). runs_one low fresh high c.new other new.0 n new.1 x m.inside new.2)
          (cases other j)

  held_after : (x : Place) (t : ℕ) → created ≤ t → HasOnePart result x t
  held_after x t since = by (is_among u.0.token tokens) refl (cases_lt t at)
    where
      u : HasOnePart parts x t
      u = c.sound.held x t since

      by : (b : Bool) → is_among u.0.token tokens ≡ b → (t < at) ⊎ (at ≤ t) → HasOnePart result x t
      by false e o = held_other x t u.0 u.1 u.2 u.3 e
      by true e (inl early) = held_early x t u.0 u.1 u.2 u.3 e early
      by true e (inr late) = held_late x t u.0 u.1 u.2 u.3 e late

  lives_after : (q : Part) → Contains result q → IsBefore q.from q.until
  lives_after q i =
      ⊎_elim
      (λ (o : (p : Part) × Contains parts p × (with_end tokens at p ≡ q)). subst (λ (z : Part). IsBefore z.from z.until) o.2 (old o.0 o.1))
      (λ (n : Contains fresh q). subst (λ o. IsBefore q.from o) (sym (c.each q n).until) tt)
      (cases q i)
    where
      old : (p : Part) → Contains parts p → IsBefore (with_end tokens at p).from (with_end tokens at p).until
      old p j = by (is_among p.token tokens) refl
        where
          by : (b : Bool) → is_among p.token tokens ≡ b → IsBefore (with_end tokens at p).from (with_end tokens at p).until
          by true e = subst (λ (z : Part). IsBefore z.from z.until) (sym (ended_is tokens at p e)) (c.before p (is_named p j e))
          by false e = subst (λ (z : Part). IsBefore z.from z.until) (sym (other_is tokens at p e)) (c.sound.lives p j)

  ranges_after : (q : Part) → Contains result q → IsBelowHigh q.range.low q.range.high
  ranges_after q i =
      ⊎_elim
      (λ (o : (p : Part) × Contains parts p × (with_end tokens at p ≡ q)).
      subst (λ (r : Range). IsBelowHigh r.low r.high) (sym (same_part tokens at o.0).range ∙ ap (λ (z : Part). z.range) o.2) (c.sound.ranges o.0 o.1))
      (λ (n : Contains fresh q). runs_have low fresh high c.new q n)
      (cases q i)

  begins_after : (q : Part) → Contains result q → created ≤ q.from
  begins_after q i =
      ⊎_elim
      (λ (o : (p : Part) × Contains parts p × (with_end tokens at p ≡ q)).
      subst (λ t. created ≤ t) (sym (same_part tokens at o.0).from ∙ ap (λ (z : Part). z.from) o.2) (c.sound.begins o.0 o.1))
      (λ (n : Contains fresh q). subst (λ t. created ≤ t) (sym (c.each q n).from) (omega (arith, late)))
      (cases q i)

  first_after : (q : Part) → Contains result q → q.from ≡ created → q.parents ≡ []
  first_after q i e =
      ⊎_elim
      (λ (o : (p : Part) × Contains parts p × (with_end tokens at p ≡ q)).
      let s = same_part tokens at o.0 in
      sym (ap (λ (z : Part). z.parents) o.2) ∙ s.parents ∙ c.sound.first o.0 o.1 (sym s.from ∙ ap (λ (z : Part). z.from) o.2 ∙ e))
      (λ (n : Contains fresh q). let f : q.from ≡ at = (c.each q n).from in absurd (omega (arith, late, e, f)))
      (cases q i)

  -- a part of the result that ends is one that ended before, or a named one that ends now
  Ends : Part → ℕ → Type 0
  Ends q u = ((p : Part) × Contains parts p × (p ≡ q) × (p.until ≡ Some u)) ⊎ ((p : Part) × Contains named p × (with_end tokens at p ≡ q) × (u ≡ at))

  ends : (q : Part) (u : ℕ) → Contains result q → q.until ≡ Some u → Ends q u
  unfolding Ends
  ends q u i e =
      ⊎_elim
      (λ (o : (p : Part) × Contains parts p × (with_end tokens at p ≡ q)). by (is_among o.0.token tokens) o refl)
      (λ (n : Contains fresh q). absurd (none_some (sym (c.each q n).until ∙ e)))
      (cases q i)
    where
      none_some : {u : ℕ} → None ≡ Some u → ⊥
      none_some h = cc

      by : (b : Bool) (o : (p : Part) × Contains parts p × (with_end tokens at p ≡ q)) → is_among o.0.token tokens ≡ b → ((p : Part) × Contains parts p × (p ≡ q) × (p.until ≡ Some u)) ⊎ ((p : Part) × Contains named p × (with_end tokens at p ≡ q) × (u ≡ at))
      by true o n =
          let s : with_end tokens at o.0 ≡ record o.0 { until = Some at } = ended_is tokens at o.0 n in
          let u_at : Some at ≡ Some u = sym (ap (λ (z : Part). z.until) s) ∙ ap (λ (z : Part). z.until) o.2 ∙ e in
          inr (o.0, is_named o.0 o.1 n, o.2, cc)
      by false o n =
          let s : o.0 ≡ q = sym (other_is tokens at o.0 n) ∙ o.2 in
          inl (o.0, o.1, s, ap (λ (z : Part). z.until) s ∙ e)

  IsParent : List Part → Part → List ℕ → Type 0
  IsParent ps child token = (parent : Part) × Contains ps parent × (parent.token ≡ token) × IsFollowedBy parent child

  -- a part that was there has the parents that it had
  parents_old : (p : Part) → Contains parts p → created < p.from → (token : List ℕ) → Contains p.parents token ↔ IsParent result (with_end tokens at p) token
  unfolding IsParent Ends
  parents_old p i born token = (forth, back)
    where
      same : IsSamePart p (with_end tokens at p)
      same = same_part tokens at p

      forth : Contains p.parents token → IsParent result (with_end tokens at p) token
      forth k = by (is_among r.0.token tokens) refl
        where
          r : (parent : Part) × Contains parts parent × (parent.token ≡ token) × IsFollowedBy parent p
          r = (c.sound.parents p i born token).0 k

          some_none : (o : Option ℕ) → o ≡ None → o ≡ Some p.from → ⊥
          some_none o e f = cc

          by : (b : Bool) → is_among r.0.token tokens ≡ b → IsParent result (with_end tokens at p) token
          by true e = absurd (some_none r.0.until (c.live r.0 (is_named r.0 r.1 e)) r.3.moment)
          by false e = (
            r.0,
            subst (λ z. Contains result z) (other_is tokens at r.0 e) (in_old r.0 r.1),
            r.2,
            record {
              moment = r.3.moment ∙ ap Some (sym same.from);
              places = subst (λ z. Meet r.0.range z) (sym same.range) r.3.places;
            },
          )

      back : IsParent result (with_end tokens at p) token → Contains p.parents token
      back r = by (ends r.0 p.from r.1 (r.3.moment ∙ ap Some same.from))
        where
          meet : Meet r.0.range p.range
          meet = subst (λ z. Meet r.0.range z) same.range r.3.places

          by : Ends r.0 p.from → Contains p.parents token
          by (inl o) =
              (c.sound.parents p i born token).1
              (o.0, o.1, ap (λ (z : Part). z.token) o.2 ∙ r.2, record { moment = o.3; places = subst (λ (z : Part). Meet z.range p.range) (sym o.2) meet })
          by (inr n) =
              let x = meet.0 in
              let range : r.0.range ≡ n.0.range = sym (ap (λ (z : Part). z.range) n.2) ∙ (same_part tokens at n.0).range in
              let inside : IsInRange n.0.range x = subst (λ z. IsInRange z x) range meet.1 in
              let mine : Holds p x p.from = record { inside = meet.2; live = record { born = omega arith; lives = c.sound.lives p i } } in
              let level : p.from ≡ at = n.3 in
              let early : n.0.from < at = c.before n.0 n.1 in
              let its : Holds n.0 x p.from = goes_on n.0 n.1 x p.from inside (omega (arith, early, level)) in
              let one : n.0 ≡ p = one_holder n.0 p x p.from (omega (arith, born)) (c.there n.0 n.1).0 i its mine in
              let from : n.0.from ≡ p.from = ap (λ (z : Part). z.from) one in
              absurd (omega (arith, from, early, level))

  -- a new part has as parents the named parts that its range meets
  parents_new : (p : Part) → Contains fresh p → (token : List ℕ) → Contains p.parents token ↔ IsParent result p token
  unfolding IsParent Ends
  parents_new p i token = (forth, back)
    where
      is : IsFollower at named p
      is = c.each p i

      forth : Contains p.parents token → IsParent result p token
      forth k =
          let m = from_map (λ (z : Part). z.token) token (filter (λ (z : Part). do_meet z.range p.range) named) (subst (λ z. Contains z token) is.parents k) in
          let n = from_filter (λ (z : Part). do_meet z.range p.range) m.0 named m.1 in
          let e = among m.0 n.0 in
          let same = same_part tokens at m.0 in
          let there = (c.there m.0 n.0).0 in (
            with_end tokens at m.0,
            in_old m.0 there,
            same.token ∙ sym m.2,
            record {
              moment = ap (λ (z : Part). z.until) (ended_is tokens at m.0 e) ∙ ap Some (sym is.from);
              places = subst (λ z. Meet z p.range) (sym same.range) (meet_at m.0.range p.range (c.sound.ranges m.0 there) (runs_have low fresh high c.new p i) n.1);
            },
          )

      meets : (n : Part) → Contains named n → n.token ≡ token → Meet n.range p.range → Contains p.parents token
      meets n j t m =
          let k : Contains (filter (λ (z : Part). do_meet z.range p.range) named) n = in_filter (λ (z : Part). do_meet z.range p.range) n named j (meet_is n.range p.range m) in
          subst (λ z. Contains z token) (sym is.parents) (subst (λ z. Contains (parents_of p.range named) z) t (in_map (λ (z : Part). z.token) n (filter (λ (z : Part). do_meet z.range p.range) named) k))

      back : IsParent result p token → Contains p.parents token
      back r = by (ends r.0 at r.1 (r.3.moment ∙ ap Some is.from))
        where
          x : Place
          x = r.3.places.0

          none_some : None ≡ Some at → ⊥
          none_some h = cc

          by : Ends r.0 at → Contains p.parents token
          by (inr n) = meets n.0 n.1 (sym (same_part tokens at n.0).token ∙ ap (λ (z : Part). z.token) n.2 ∙ r.2) (subst (λ z. Meet z p.range) (sym (ap (λ (z : Part). z.range) n.2) ∙ (same_part tokens at n.0).range) r.3.places)
          by (inl o) =
              let n = runs_in low named high c.old x (runs_out low fresh high c.new p i x r.3.places.2) in
              let its : Holds n.0 x (at - 1) = goes_on n.0 n.1 x (at - 1) n.2 (omega (arith, c.before n.0 n.1)) in
              let older : o.0.from < at = subst (λ u. IsBefore o.0.from u) o.3 (c.sound.lives o.0 o.1) in
              let inside : IsInRange o.0.range x = subst (λ (z : Part). IsInRange z.range x) (sym o.2) r.3.places.1 in
              let last : at - 1 < at = omega (arith, late) in
              let mine : Holds o.0 x (at - 1) = record { inside = inside; live = record { born = omega (arith, older); lives = subst (λ u. IsBefore (at - 1) u) (sym o.3) last } } in
              let one : o.0 ≡ n.0 = one_holder o.0 n.0 x (at - 1) (omega (arith, late)) o.1 (c.there n.0 n.1).0 mine its in
              absurd (none_some (sym (c.live n.0 n.1) ∙ sym (ap (λ (z : Part). z.until) one) ∙ o.3))

  parents_after : (q : Part) → Contains result q → created < q.from → (token : List ℕ) → Contains q.parents token ↔ IsParent result q token
  parents_after q i born token =
      ⊎_elim
      (λ (o : (p : Part) × Contains parts p × (with_end tokens at p ≡ q)).
      let same = same_part tokens at o.0 in
      let r = parents_old o.0 o.1 (subst (λ t. created < t) (sym (ap (λ (z : Part). z.from) o.2) ∙ same.from) born) token in
      subst (λ (z : Part). Contains z.parents token ↔ IsParent result z token) o.2 (subst (λ z. Contains z token ↔ IsParent result (with_end tokens at o.0) token) (sym same.parents) r))
      (λ (n : Contains fresh q). parents_new q n token)
      (cases q i)

  -- the parents of a new part are tokens of different parts
  named_differ : AllPairs (λ (a b : Part). a.token ≢ b.token) named
  named_differ = pairs_more IsLower (λ (a b : Part). a.token ≢ b.token) named apart (runs_rise low named high c.old)
    where
      apart : (x y : Part) → Contains named x → Contains named y → IsLower x y → x.token ≡ y.token → ⊥
      apart x y i j lower e =
          let s : x ≡ y = one_token x y (c.there x i).0 (c.there y j).0 e in
          true≢false (sym lower ∙ ap (λ (z : Part). is_below z.range.low y.range.low) s ∙ below_not_itself y.range.low)

  Differ : List (List ℕ) → Type 0
  Differ tokens = AllPairs (λ a b. a ≢ b) tokens

  parents_once_after : (q : Part) → Contains result q → Differ q.parents
  unfolding Differ
  parents_once_after q i =
      ⊎_elim
      (λ (o : (p : Part) × Contains parts p × (with_end tokens at p ≡ q)).
      subst Differ (sym (same_part tokens at o.0).parents ∙ ap (λ (z : Part). z.parents) o.2) (c.sound.parents_once o.0 o.1))
      (λ (n : Contains fresh q).
      let meets : Part → Bool = λ z. do_meet z.range q.range in
      subst Differ (sym (c.each q n).parents) (pairs_map (λ a b. a ≢ b) (λ (z : Part). z.token) (filter meets named) (AllPairs-filter (λ (a b : Part). a.token ≢ b.token) meets named named_differ)))
      (cases q i)

  pub sound_after : AllPairs (λ (a b : Part). a.token ≢ b.token) (map (with_end tokens at) parts ++ fresh) → IsSoundLayout created (map (with_end tokens at) parts ++ fresh)
  unfolding result IsParent Differ
  sound_after tokens_differ = record {
    tokens = tokens_differ;
    lives = lives_after;
    ranges = ranges_after;
    begins = begins_after;
    first = first_after;
    held = held_after;
    parents = parents_after;
    parents_once = parents_once_after;
  }

-- what a reshape that is not refused finds and makes is such a cut
pub cut_of : (l : StreamParts) (at : ℕ) (tokens : List (List ℕ)) (borders : List Place) → IsLayout l → IsApplied l at tokens borders
    → IsCut l.created at l.parts (parts_named tokens l.parts) (new_parts l.stream l.parts at tokens borders) tokens (joined_range (parts_named tokens l.parts)).low (joined_range (parts_named tokens l.parts)).high
cut_of l at tokens borders h ok =
    let named = parts_named tokens l.parts in
    let joined = joined_range named in
    let old : Runs joined.low named joined.high = neighbours_run named ok.neighbours (λ p i. h.sound.ranges p (named_are tokens l.parts p i).0) in
    record {
      sound = h.sound;
      there = named_are tokens l.parts;
      all = token_named tokens l.parts ok.known;
      live = none_ended named ok.live;
      before = all_before at named ok.before;
      old = old;
      new = followers_run l.stream at named joined.high (length l.parts) joined.low borders (runs_first joined.low named joined.high old) ok.inside ok.rising;
      each = followers_are l.stream at named (length l.parts) (ranges_between joined.low borders joined.high);
    }
