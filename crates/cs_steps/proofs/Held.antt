-- The changes of a part in the feed, and those of which an answer tells.
use Rattle.std.proofs.Common.{◌≡◌, ◌≢◌, ℕ, ◌≤◌, Bool, true, nat_le, List, map, filter, Option, Some, None, sym, ap, subst, arith, Contains}
use Rattle.std.specs.Int.{is_in_range}
use Rattle.std.proofs.lemmas.Bool.{and_parts, and_from, leb-true, le-leb}
use Rattle.cs_types.specs.declared.change.Change.{Change}
use Rattle.cs_types.specs.Members.{in_filter, from_filter, pairs_from, pairs_filter, pairs_weaker, in_map, from_map}
use Rattle.cs_place.specs.declared.part.Part.{Part}
use Rattle.cs_place.specs.declared.place.Place.{Place}
use Rattle.cs_place.specs.Part.{IsBefore, IsLive, Holds, is_held, is_live}
use Rattle.cs_records.specs.declared.captured.Captured.{Captured}
use Rattle.cs_place.specs.Held.{live_is, held_is}
use Rattle.cs_link.specs.Feed.{place_of, IsOf}
use Rattle.cs_steps.specs.Feed.{feed_of, AreCommitted}
use Rattle.cs_steps.specs.Honest.{IsAccepted}
use Rattle.cs_steps.specs.Records.{held}
use Rattle.cs_steps.specs.Steps.{Asked, last_moment, top_of}
use Rattle.cs_steps.proofs.Paced.{IsWanted}
use Rattle.cs_steps.proofs.Records.{change_of}
use Rattle.cs_steps.proofs.Tools.{pairs_map}

pub live_from : (p : Part) (t : ℕ) → is_live p t ≡ true → IsLive p t
live_from p t h = (live_is p t).0 h

pub from_live : (p : Part) (t : ℕ) → IsLive p t → is_live p t ≡ true
from_live p t h = (live_is p t).1 h

pub holds_from : (p : Part) (place : Place) (t : ℕ) → is_held p place t ≡ true → Holds p place t
holds_from p place t h = (held_is p place t).0 h

pub from_holds : (p : Part) (place : Place) (t : ℕ) → Holds p place t → is_held p place t ≡ true
from_holds p place t h = (held_is p place t).1 h

-- the last moment of which an answer tells
top_within : (r e m : ℕ) (o : Option ℕ) → r ≤ e → r ≤ m → IsBefore r o → (r ≤ last_moment e m o) × (last_moment e m o ≤ e) × (last_moment e m o ≤ m) × IsBefore (last_moment e m o) o
top_within r e m None a b c = (omega arith, omega arith, omega arith, tt)
top_within r e m (Some u) a b c = (omega arith, omega arith, omega arith, omega arith)

pub top_covers : (t e m : ℕ) (o : Option ℕ) → IsBefore t o → t ≤ e → t ≤ m → t ≤ last_moment e m o
top_covers t e m None a b c = omega arith
top_covers t e m (Some u) a b c = omega arith

module _ (parts : List Part) (items : List Captured) (created retention : ℕ) (C : AreCommitted created items) (a : Asked) (A : IsAccepted parts a) where
  abbrev R : Captured → Captured → Type 0
  R c d = (c.change.stamp ≤ d.change.stamp) × (c.change.stamp ≡ d.change.stamp → c.change.row ≢ d.change.row)

  abbrev pub in_time : Captured → Bool
  in_time c = is_in_range a.start (top_of a) c.change.stamp

  abbrev pub is_of_part : Captured → Bool
  is_of_part c = is_held a.part (place_of c.change.row) c.change.stamp

  -- the changes of which an answer tells
  abbrev pub told_items : List Captured
  told_items = filter (λ c. is_in_range a.start (top_of a) c.change.stamp) (held a.part items)

  pub is_wanted : IsWanted (feed_of parts items created retention) a.part a.start a.end a.moment (top_of a) (map change_of told_items)
  is_wanted = record {
    order = pairs_map (λ (c d : Change). (c ≢ d) × (c.stamp ≤ d.stamp)) change_of told_items
        (pairs_filter (λ (c d : Captured). (c.change ≢ d.change) × (c.change.stamp ≤ d.change.stamp)) in_time (held a.part items)
        (pairs_filter (λ (c d : Captured). (c.change ≢ d.change) × (c.change.stamp ≤ d.change.stamp)) is_of_part items
        (pairs_weaker R (λ (c d : Captured). (c.change ≢ d.change) × (c.change.stamp ≤ d.change.stamp)) items
        (λ c d i j h. (λ e. h.1 (ap (λ (x : Change). x.stamp) e) (ap (λ (x : Change). x.row) e), h.0)) (pairs_from R items C.order))));
    wanted = λ c i.
        let u = from_map change_of c told_items i in
        let v = from_filter in_time u.0 (held a.part items) u.1 in
        let w = from_filter is_of_part u.0 items v.0 in
        let t = and_parts (nat_le a.start u.0.change.stamp) (nat_le u.0.change.stamp (top_of a)) v.1 in
        subst (λ x. IsOf (feed_of parts items created retention) a.part x × (a.start ≤ x.stamp) × (x.stamp ≤ top_of a)) (sym u.2)
        (record { wanted = in_map change_of u.0 items w.0; held = holds_from a.part (place_of u.0.change.row) u.0.change.stamp w.1 }, leb-true a.start u.0.change.stamp t.0, leb-true u.0.change.stamp (top_of a) t.1);
    all = λ c o low high.
        let u = from_map change_of c items o.wanted in
        let s : c.stamp ≡ u.0.change.stamp = ap (λ (x : Change). x.stamp) u.2 in
        let t : is_in_range a.start (top_of a) u.0.change.stamp ≡ true = and_from (nat_le a.start u.0.change.stamp) (nat_le u.0.change.stamp (top_of a)) (le-leb a.start u.0.change.stamp (omega (arith, s, low))) (le-leb u.0.change.stamp (top_of a) (omega (arith, s, high))) in
        let h : is_held a.part (place_of u.0.change.row) u.0.change.stamp ≡ true = subst (λ (x : Change). is_held a.part (place_of x.row) x.stamp ≡ true) u.2 (from_holds a.part (place_of c.row) c.stamp o.held) in
        subst (λ x. Contains (map change_of told_items) x) (sym u.2)
        (in_map change_of u.0 told_items (in_filter in_time u.0 (held a.part items) (in_filter is_of_part u.0 items u.1 h) t));
    within = let t = top_within a.start a.end a.moment a.part.until A.window A.past A.lives in (t.0, t.1, t.2);
    lives = let t = top_within a.start a.end a.moment a.part.until A.window A.past A.lives in t.3;
  }
