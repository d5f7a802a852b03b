-- A faithful batch in the form in which the theory uses it.
use Rattle.cs_types.specs.declared.change.Change.{Change}
use Rattle.cs_types.specs.Members.{Pairwise, pairs_from}
use Rattle.cs_place.specs.declared.part.Part.{Part}
use Rattle.cs_place.specs.Part.{Holds}
use Rattle.cs_link.specs.declared.feed.Feed.{Feed}
use Rattle.cs_link.specs.Feed.{place_of}
use Rattle.cs_link.specs.declared.batch.Batch.{Batch}
use Rattle.cs_link.specs.declared.batch.Known.{Known}
use Rattle.cs_link.specs.declared.batch.NewChild.{NewChild}
use Rattle.cs_link.specs.Batch.{limit, seen_of, is_known}
use Rattle.std.proofs.Common.{◌≡◌, ◌≢◌, ◌⊎◌, ◌↔◌, ℕ, suc, ◌≤◌, cond, eqb, filter, map, ◌++◌, [], true, false, List, Some, Contains, refl, sym, subst, ap, inl, inr, ⊎_elim, arith}
use Rattle.cs_link.specs.declared.batch.Ending.{Ending}
use Rattle.cs_link.specs.declared.batch.Ending.TheVariants as endings
use Rattle.cs_link.specs.Batch.{IsFaithfulPart}
use Rattle.cs_schedule.specs.Consistent.{is_end, HasRow, born, news, through_by}
use Rattle.cs_schedule.specs.declared.row.Row.{Row}

-- a child of the part
abbrev pub IsChild : Feed → ℕ → Part → NewChild → Type 0
IsChild f e q b = ((u : ℕ) × (q.until ≡ Some u) × (u ≤ e)) × ((c : Part) × Contains f.parts c × Contains c.parents q.token × (b ≡ record { token = c.token; parents = c.parents; start = c.from }))

pub record IsTrueBatch (f : Feed) (e : ℕ) (k : Known) (q : Part) (b : Batch) : Type 0 where
  pub start : (suc b.start ≡ suc k.through) ⊎ (b.start ≡ suc k.through)
  pub order : Pairwise (λ c d. (c ≢ d) × (c.stamp ≤ d.stamp)) b.changes
  pub wanted : (c : Change) → Contains b.changes c → Contains f.wanted c × Holds q (place_of c.row) c.stamp × (b.start ≤ c.stamp) × (c.stamp ≤ suc b.through) × (c.stamp ≤ e) × (is_known k c ≡ false)
  pub whole : (c : Change) → Contains f.wanted c → Holds q (place_of c.row) c.stamp → b.start ≤ c.stamp → c.stamp ≤ b.through → Contains b.changes c ⊎ (is_known k c ≡ true)
  pub rises : suc k.through ≤ suc b.through
  pub bound : suc b.through ≤ limit e q.until
  pub ended : is_end b.ending ≡ true → suc b.through ≡ limit e q.until
  pub children : (x : NewChild) → Contains b.children x ↔ ((is_end b.ending ≡ true) × IsChild f e q x)

ending_is : (e : Ending) → is_end e ≡ true → e ≡ endings.Finished
ending_is endings.Finished h = refl
ending_is (endings.CaughtUp at) h = absurd cc
ending_is endings.Cut h = absurd cc
ending_is endings.Full h = absurd cc

is_ending : (e : Ending) → e ≡ endings.Finished → is_end e ≡ true
is_ending e h = subst (λ x. is_end x ≡ true) (sym h) refl

pub true_batch : (f : Feed) (e : ℕ) (k : Known) (q : Part) (b : Batch) → IsFaithfulPart f e k q b → IsTrueBatch f e k q b
true_batch f e k q b T =
    record {
      start = ⊎_elim (λ h. inl (ap suc h)) (λ h. inr h) T.start;
      order = pairs_from (λ (c d : Change). (c ≢ d) × (c.stamp ≤ d.stamp)) b.changes T.order;
      wanted = λ c i. let u = T.wanted c i in (u.0.wanted, u.0.held, u.1, u.2, u.3, u.4);
      whole = λ c i h l m. T.whole c (record { wanted = i; held = h }) l m;
      rises = omega (arith, T.rises);
      bound = T.bound;
      ended = λ h. T.ended (ending_is b.ending h);
      children = λ x. (
        λ i. let u = (T.children x).0 i in (is_ending b.ending u.0, ((u.1.until, u.1.ends, u.1.by_then), (u.1.child, u.1.there, u.1.parent, u.1.same))),
        λ h. (T.children x).1 (ending_is b.ending h.0, record { until = h.1.0.0; ends = h.1.0.1; by_then = h.1.0.2; child = h.1.1.0; there = h.1.1.1; parent = h.1.1.2; same = h.1.1.3 }),
      );
    }

-- ---- the row of a batch

-- its next moment with the batch
abbrev pub next_by : Row → Batch → ℕ
next_by r b = suc (through_by r b)

-- the row with the batch
abbrev pub moved : Row → Batch → Row
moved r b =
    record {
      token = r.token;
      parents = r.parents;
      start = r.start;
      through = through_by r b;
      seen = (cond (eqb (suc r.through) (next_by r b)) r.seen []) ++ map seen_of (filter (λ c. eqb c.stamp (next_by r b)) (news r b));
      finished = is_end b.ending;
      leased = r.leased;
      tries = r.tries;
    }

-- the rows after it: the row has moved, the children that were no rows are, all else is as it was
pub record IsMoved (rows : List Row) (r : Row) (b : Batch) (after : List Row) : Type 0 where
  pub from : (y : Row) → Contains after y → (Contains rows y × (y.token ≢ r.token)) ⊎ ((y ≡ moved r b) ⊎ ((x : NewChild) × Contains b.children x × (y ≡ born x) × (HasRow rows x.token → ⊥)))
  pub kept : (y : Row) → Contains rows y → y.token ≢ r.token → Contains after y
  pub mine : Contains after (moved r b)
  pub child : (x : NewChild) → Contains b.children x → HasRow after x.token
