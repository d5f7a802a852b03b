-- The parts that hold a change of one transaction are live together, so no two of them have one low.
use Rattle.std.proofs.Common.{◌≡◌, ◌≢◌, ℕ, ◌≤◌, Bool, true, false, List, [], get_or, Option, None, Some, refl, sym, ap, ◌∙◌, subst, arith, Contains, is_lt}
use Rattle.std.specs.Cmp.Lexicographic.{nat_list_cmp_total}
use Rattle.std.proofs.lemmas.Cmp.{tied_itself}
use Rattle.std.proofs.lemmas.List.{get_or_default}
use Rattle.std.proofs.lemmas.List.Elements.{All-contains, Contains-get_or}
use Rattle.cs_types.specs.Exact.{same_name-is}
use Rattle.cs_place.specs.declared.place.Place.{Place}
use Rattle.cs_place.specs.declared.part.Part.{Part}
use Rattle.cs_place.specs.Part.{IsInRange, Holds, is_below, is_held}
use Rattle.cs_place.specs.Held.{held_is}
use Rattle.cs_partitions.specs.Views.{IsHolder}
use Rattle.cs_records.specs.declared.captured.Captured.{Captured}
use Rattle.cs_link.specs.Feed.{place_of}
use Rattle.cs_txn.specs.declared.txn.Modification.{Modification}
use Rattle.cs_steps.specs.Cursor.{IsAt}
use Rattle.cs_steps.specs.Records.{records_of}
use Rattle.cs_index.specs.Walk.{has_record, AreApart, IsUnderWay}
use Rattle.cs_index.proofs.Counts.{some_held}
use Rattle.cs_index.proofs.Lows.{DoNotTie, ties}
use Rattle.cs_index.proofs.Touching.{IsHeldAt}

-- the changes of one transaction
pub record HasOneStamp (created : ℕ) (now : List Captured) : Type 0 where
  pub born : (c : Captured) → Contains now c → created ≤ c.change.stamp
  pub one : (c d : Captured) → Contains now c → Contains now d → c.change.stamp ≡ d.change.stamp

pub one_stamp : (ms : List Modification) (created : ℕ) (now : List Captured) (begun : Option Modification) → IsUnderWay ms created now begun → HasOneStamp created now
one_stamp ms created now None h = record { born = λ c i. absurd (none c (subst (λ l. Contains l c) h i)); one = λ c d i j. absurd (none c (subst (λ l. Contains l c) h i)) }
  where
    none : (c : Captured) → Contains [] c → ⊥
    none c (k, l, e) = omega arith
one_stamp ms created now (Some m) h = record {
  born = λ c i. let e = All-contains (λ (x : Captured). x.change.stamp ≡ m.stamp) now c h.2 i in let b = h.3 in omega (arith, e, b);
  one = λ c d i j. All-contains (λ (x : Captured). x.change.stamp ≡ m.stamp) now c h.2 i ∙ sym (All-contains (λ (x : Captured). x.change.stamp ≡ m.stamp) now d h.2 j);
}

module _ (created : ℕ) (parts : List Part) (A : AreApart created parts) where
  holder_of : (k : ℕ) (part : Part) (place : Place) (moment : ℕ) → IsAt parts k part → Holds part place moment → IsHolder parts place moment k
  holder_of k part place moment p h = record { inside = p.0; holds = λ d. subst (λ q. Holds q place moment) (sym (get_or_default parts k d part p.0 ∙ p.1)) h }

  -- the part that an index is said to have, and no other
  pub held_at : (index : ℕ) (c : Captured) → created ≤ c.change.stamp → IsHolder parts (place_of c.change.row) c.change.stamp index → IsHeldAt parts index c
  held_at index c born H = record {
    inside = H.inside;
    held = λ part p. (held_is part (place_of c.change.row) c.change.stamp).1 (subst (λ q. Holds q (place_of c.change.row) c.change.stamp) p.1 (H.holds part));
    others = λ k part p n. by k part p n (is_held part (place_of c.change.row) c.change.stamp) refl;
  }
    where
      by : (k : ℕ) (part : Part) → IsAt parts k part → k ≢ index → (b : Bool) → is_held part (place_of c.change.row) c.change.stamp ≡ b → b ≡ false
      by k part p n false e = refl
      by k part p n true e = absurd (n (A.one (place_of c.change.row) c.change.stamp k index born (holder_of k part (place_of c.change.row) c.change.stamp p ((held_is part (place_of c.change.row) c.change.stamp).0 e)) H))

  module _ (now : List Captured) (S : HasOneStamp created now) where
    -- a part with a record stands once
    pub stands_once : (k : ℕ) (part : Part) → IsAt parts k part → has_record now part ≡ true → (j : ℕ) → IsAt parts j part → j ≡ k
    stands_once k part p h j q =
        let s = some_held part now h in
        let c : Captured = s.0 in
        let holds : Holds part (place_of c.change.row) c.change.stamp = (held_is part (place_of c.change.row) c.change.stamp).0 s.2 in
        A.one (place_of c.change.row) c.change.stamp j k (S.born c s.1) (holder_of j part (place_of c.change.row) c.change.stamp q holds) (holder_of k part (place_of c.change.row) c.change.stamp p holds)

    -- a part has its own low while it lives
    low_held : (part low_of : Part) (c : Captured) → Contains parts part → part.range.low ≡ low_of.range.low → is_held part (place_of c.change.row) c.change.stamp ≡ true → Holds part low_of.range.low c.change.stamp
    low_held part low_of c i e h =
        let holds : Holds part (place_of c.change.row) c.change.stamp = (held_is part (place_of c.change.row) c.change.stamp).0 h in
        let itself : is_below part.range.low part.range.low ≡ false = ap is_lt (tied_itself nat_list_cmp_total part.range.low.bytes) in
        let inside : IsInRange part.range part.range.low = (itself, A.ranges part i) in
        record { inside = subst (IsInRange part.range) e inside; live = holds.live }

    pub do_not_tie : DoNotTie (records_of now) parts
    do_not_tie i j d l m a b =
        let p : Part = get_or parts i d in
        let q : Part = get_or parts j d in
        by p q (omega (arith, l, m), get_or_default parts i p d (omega (arith, l, m))) (m, get_or_default parts j q d m) (Contains-get_or parts i d (omega (arith, l, m))) (Contains-get_or parts j d m) a b (ties p q) refl
      where
        by : (p q : Part) → IsAt parts i p → IsAt parts j q → Contains parts p → Contains parts q → has_record now p ≡ true → has_record now q ≡ true → (t : Bool) → ties p q ≡ t → t ≡ false
        by p q at_i at_j in_p in_q a b false e = refl
        by p q at_i at_j in_p in_q a b true e =
            let same : p.range.low ≡ q.range.low = ap (λ (x : List ℕ). record { bytes = x }) ((same_name-is p.range.low.bytes q.range.low.bytes).0 e) in
            let u = some_held p now a in
            let v = some_held q now b in
            let c : Captured = u.0 in
            let s : v.0.change.stamp ≡ c.change.stamp = S.one v.0 c v.1 u.1 in
            let one : Holds p p.range.low c.change.stamp = low_held p p c in_p refl u.2 in
            let other : Holds q p.range.low c.change.stamp = subst (λ n. Holds q p.range.low n) s (low_held q p v.0 in_q (sym same) v.2) in
            let k : i ≡ j = A.one p.range.low c.change.stamp i j (S.born c u.1) (holder_of i p p.range.low c.change.stamp at_i one) (holder_of j q p.range.low c.change.stamp at_j other) in
            absurd (omega (arith, k, l))
