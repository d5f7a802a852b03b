-- The answer of a READ without a part is honest, and what a database keeps of a stream is a feed.
use Rattle.std.proofs.Common.{◌≡◌, ◌≢◌, ℕ, ◌≤◌, Bool, true, false, cond, ◌==◌, List, [], ◌∷◌, length, map, filter, refl, sym, ◌∙◌, subst, arith, Contains}
use Rattle.std.proofs.lemmas.Bool.{and_parts}
use Rattle.std.proofs.lemmas.List.{length-map}
use Rattle.cs_types.specs.declared.change.Change.{Change}
use Rattle.cs_types.specs.Members.{Pairwise, in_nil, in_filter, from_filter, filter_shorter, pairs_to, pairs_from, pairs_filter, pairs_weaker, in_map, from_map}
use Rattle.cs_place.specs.declared.part.Part.{Part}
use Rattle.cs_place.specs.Part.{is_held, is_live}
use Rattle.cs_place.specs.Layout.{IsSoundLayout}
use Rattle.cs_records.specs.declared.captured.Captured.{Captured}
use Rattle.cs_records.specs.declared.records.Child.{Child}
use Rattle.cs_link.specs.declared.feed.Feed.{Feed}
use Rattle.cs_link.specs.Feed.{place_of, is_of_at, IsFeed}
use Rattle.cs_link.specs.Reading.{new_child}
use Rattle.cs_link.specs.Honest.{Follows, IsFirst, IsThere, MayFollowFirst}
use Rattle.cs_steps.specs.Feed.{feed_of, AreCommitted}
use Rattle.cs_steps.specs.Steps.{by_low, first_of, live_at, steps_of_start}
use Rattle.cs_steps.proofs.Held.{live_from, from_live}
use Rattle.cs_steps.proofs.Listed.{children_follow, apart_in, new_in, there}
use Rattle.cs_steps.proofs.Low.{from_low, into_low, pairs_low, length_low}
use Rattle.cs_steps.proofs.Records.{change_of}
use Rattle.cs_steps.proofs.Tools.{pairs_map}

module _ (parts : List Part) (items : List Captured) (created retention start : ℕ) (S : IsSoundLayout created parts) (few : length parts ≤ 65536) where
  abbrev feed : Feed
  feed = feed_of parts items created retention

  abbrev live : Part → Bool
  live q = is_live q start

  from_firsts : (x : Child) → Contains (live_at parts start) x → IsFirst feed start x
  from_firsts x i =
      let v = from_map first_of x (by_low (filter live parts)) i in
      let w = from_filter live v.0 parts (from_low (filter live parts) v.0 v.1) in
      subst (IsFirst feed start) (sym v.2) (record { parents = refl; part = (v.0, record { there = w.0; live = live_from v.0 start w.1 }, refl) })

  into_firsts : (p : Part) → IsThere feed start p → Contains (live_at parts start) (first_of p)
  into_firsts p h = in_map first_of p (by_low (filter live parts)) (into_low (filter live parts) p (in_filter live p parts h.there (from_live p start h.live)))

  apart : Pairwise (λ (x y : Child). x.token ≢ y.token) (live_at parts start)
  apart = pairs_map (λ (x y : Child). x.token ≢ y.token) first_of (by_low (filter live parts))
      (pairs_low (λ (x y : Part). x.token ≢ y.token) (λ x y h e. h (sym e)) (filter live parts)
      (pairs_filter (λ (x y : Part). x.token ≢ y.token) live parts (pairs_from (λ (x y : Part). x.token ≢ y.token) parts S.tokens)))

  few_firsts : length (live_at parts start) ≤ 65536
  few_firsts = omega (arith, few, length-map (by_low (filter live parts)) first_of, length_low (filter live parts), filter_shorter live parts)

  pub start_follows : Follows (MayFollowFirst feed start) [] (steps_of_start parts start)
  start_follows = children_follow start [] (live_at parts start) (MayFollowFirst feed start)
      (λ done n earlier k later B some lt. (
        B.unclosed,
        record {
          start = refl;
          some = some;
          child = λ x i. from_firsts x (there start [] (live_at parts start) apart done n earlier k later B x i);
          once = pairs_to (λ (x y : Child). x.token ≢ y.token) k (apart_in start [] (live_at parts start) apart done n earlier k later B);
          new = new_in start [] (live_at parts start) apart done n earlier k later B;
          few = omega (arith, B.counted, lt);
        },
      ))
      (λ done n B. (B.unclosed, λ p h. (new_child start (first_of p), subst (λ l. Contains l (new_child start (first_of p))) (sym B.named) (in_map (new_child start) (first_of p) (live_at parts start) (into_firsts p h)), refl)))
      (λ x i. absurd (in_nil x i)) (λ x i. absurd (in_nil x i)) few_firsts

-- a test that implies another passes no more
fewer_pass : (p : Change → Bool) (q : Captured → Bool) → ((c : Captured) → p c.change ≡ true → q c ≡ true) → (items : List Captured) → length (filter p (map change_of items)) ≤ length (filter q items)
fewer_pass p q h [] = omega arith
fewer_pass p q h (c ∷ items) = by (p c.change) (q c) refl refl (fewer_pass p q h items)
  where
    by : (a b : Bool) → p c.change ≡ a → q c ≡ b → length (filter p (map change_of items)) ≤ length (filter q items)
        → length (cond a (c.change ∷ filter p (map change_of items)) (filter p (map change_of items))) ≤ length (cond b (c ∷ filter q items) (filter q items))
    by false false e f k = k
    by false true e f k = omega arith
    by true true e f k = omega arith
    by true false e f k = let no : true ≡ false = sym (h c e) ∙ f in cc

pub is_feed : (parts : List Part) (items : List Captured) (created retention : ℕ) → IsSoundLayout created parts → length parts ≤ 65536 → AreCommitted created items → IsFeed (feed_of parts items created retention)
is_feed parts items created retention S few C =
    let order = pairs_from (λ (c d : Captured). (c.change.stamp ≤ d.change.stamp) × (c.change.stamp ≡ d.change.stamp → c.change.row ≢ d.change.row)) items C.order in
    record {
      layout = S;
      few_parts = few;
      created = λ c i. let u = from_map change_of c items i in subst (λ (x : Change). created ≤ x.stamp) (sym u.2) (C.born u.0 u.1);
      order = pairs_to (λ (c d : Change). c.stamp ≤ d.stamp) (map change_of items) (pairs_map (λ (c d : Change). c.stamp ≤ d.stamp) change_of items
          (pairs_weaker (λ (c d : Captured). (c.change.stamp ≤ d.change.stamp) × (c.change.stamp ≡ d.change.stamp → c.change.row ≢ d.change.row)) (λ (c d : Captured). c.change.stamp ≤ d.change.stamp) items (λ c d i j h. h.0) order));
      rows = pairs_to (λ (c d : Change). c.stamp ≡ d.stamp → c.row ≢ d.row) (map change_of items) (pairs_map (λ (c d : Change). c.stamp ≡ d.stamp → c.row ≢ d.row) change_of items
          (pairs_weaker (λ (c d : Captured). (c.change.stamp ≤ d.change.stamp) × (c.change.stamp ≡ d.change.stamp → c.change.row ≢ d.change.row)) (λ (c d : Captured). c.change.stamp ≡ d.change.stamp → c.change.row ≢ d.change.row) items (λ c d i j h. h.1) order));
      names = pairs_to (λ (c d : Change). c.tx ≡ d.tx → c.row ≢ d.row) (map change_of items) (pairs_map (λ (c d : Change). c.tx ≡ d.tx → c.row ≢ d.row) change_of items
          (pairs_weaker (λ (c d : Captured). (c.change.stamp ≤ d.change.stamp) × (c.change.stamp ≡ d.change.stamp → c.change.row ≢ d.change.row)) (λ (c d : Captured). c.change.tx ≡ d.change.tx → c.change.row ≢ d.change.row) items
          (λ c d i j h t. h.1 (C.agree c d i j t).stamp) order));
      few_changes = λ p stamp i.
          let a = fewer_pass (is_of_at p stamp) (λ c. c.change.stamp == stamp) (λ c h. (and_parts (is_held p (place_of c.change.row) c.change.stamp) (c.change.stamp == stamp) h).1) items in
          let b = C.few stamp in
          omega (arith, a, b);
    }
