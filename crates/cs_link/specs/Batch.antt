-- Batches: what of a part's changes is known, and what a READ brings that is true of a feed. This project's own.
use Rattle.std.specs.Prelude.{◌≡◌, ◌≢◌, ◌⊎◌, ◌↔◌, ◌≤◌, ◌&&◌, ◌||◌, ◌==◌, ℕ, suc, min, Bool, true, false, List, [], Option, Some, None, AllPairs, Contains, nat_le}
use Rattle.std.specs.declared.cmp.Ordering.{Ordering}
use Rattle.std.specs.List.{list_any}
use Rattle.std.specs.Ordering.{nat_cmp, ordering_then, is_eq}
use Rattle.std.specs.Cmp.Lexicographic.{slice_cmp}
use Rattle.cs_types.specs.Row.{row_cmp}
use Rattle.cs_types.specs.declared.change.Change.{Change}
use Rattle.cs_place.specs.declared.part.Part.{Part}
use Rattle.cs_link.specs.declared.batch.Batch.{Batch}
use Rattle.cs_link.specs.declared.batch.Ending.{Ending}
use Rattle.cs_link.specs.declared.batch.Known.{Known}
use Rattle.cs_link.specs.declared.batch.NewChild.{NewChild}
use Rattle.cs_link.specs.declared.batch.Seen.{Seen}
use Rattle.cs_link.specs.declared.feed.Feed.{Feed}
use Rattle.cs_link.specs.Feed.{IsOf}
use Rattle.cs_link.specs.Honest.{IsThere}

-- what tells a change from the others of its stamp
abbrev pub seen_of : Change → Seen
seen_of c = record { tx = c.tx; row = c.row }

-- the order of seen changes: by transaction, and then by row
abbrev pub seen_cmp : Seen → Seen → Ordering
seen_cmp a b = ordering_then (slice_cmp nat_cmp a.tx b.tx) (row_cmp a.row b.row)

-- whether a change's transaction and row stand in a list
abbrev pub is_seen : List Seen → Change → Bool
is_seen seen c = list_any (λ s. is_eq (seen_cmp (seen_of c) s)) seen

-- whether a change is known: its stamp is not after the known part, or it is one of the seen changes of the moment after it
abbrev pub is_known : Known → Change → Bool
is_known known c = nat_le c.stamp known.through || (c.stamp == suc known.through && is_seen known.seen c)

-- the first moment that is past e, or past a part that ends so
abbrev pub limit : ℕ → Option ℕ → ℕ
limit e None = suc e
limit e (Some until) = min (suc e) until

-- a child of the part, which ends by e, as a batch has it
pub record IsNewChild (f : Feed) (e : ℕ) (p : Part) (x : NewChild) : Type 0 where
  -- the part ends by then
  pub until : ℕ
  pub ends : p.until ≡ Some until
  pub by_then : until ≤ e
  -- the child is a part that has it among its parents
  pub child : Part
  pub there : Contains f.parts child
  pub parent : Contains child.parents p.token
  -- with its token, its parents in the layout's order, and its beginning
  pub same : x ≡ record { token = child.token; parents = child.parents; start = child.from }

-- a faithful batch of the part p, read up to e, for one who knows this much of it
pub record IsFaithfulPart (f : Feed) (e : ℕ) (known : Known) (p : Part) (b : Batch) : Type 0 where
  -- it starts at the end of the known part, or one microsecond later
  pub start : (b.start ≡ known.through) ⊎ (b.start ≡ suc known.through)
  -- no change stands twice, and stamps do not fall
  pub order : AllPairs (λ c d. (c ≢ d) × (c.stamp ≤ d.stamp)) b.changes
  -- each is a wanted change of the part, from the start to the moment after `through`, not past e, and was not known
  pub wanted : (c : Change) → Contains b.changes c → IsOf f p c × (b.start ≤ c.stamp) × (c.stamp ≤ suc b.through) × (c.stamp ≤ e) × (is_known known c ≡ false)
  -- each wanted change from the start to `through` stands there or was known
  pub whole : (c : Change) → IsOf f p c → b.start ≤ c.stamp → c.stamp ≤ b.through → Contains b.changes c ⊎ (is_known known c ≡ true)
  -- what is complete does not shrink
  pub rises : known.through ≤ b.through
  -- it is neither past the part nor past e
  pub bound : suc b.through ≤ limit e p.until
  -- with Finished it is all of both
  pub ended : b.ending ≡ Ending.Finished → suc b.through ≡ limit e p.until
  -- with Finished, and then alone, the children are exactly those of the part
  pub children : (x : NewChild) → Contains b.children x ↔ ((b.ending ≡ Ending.Finished) × IsNewChild f e p x)
  -- each once
  pub once : AllPairs (λ x y. x.token ≢ y.token) b.children

-- a part that is live at a moment, as a batch has it that begins there
pub record IsNewFirst (f : Feed) (r : ℕ) (x : NewChild) : Type 0 where
  pub part : Part
  pub live : IsThere f r part
  pub same : x ≡ record { token = part.token; parents = []; start = r }

-- a faithful batch of the parts at its start
pub record IsFaithfulFirst (f : Feed) (b : Batch) : Type 0 where
  pub changes : b.changes ≡ []
  pub ended : b.ending ≡ Ending.Finished
  -- the children are exactly the parts that are live at its start
  pub children : (x : NewChild) → Contains b.children x ↔ IsNewFirst f b.start x
  -- each once
  pub once : AllPairs (λ x y. x.token ≢ y.token) b.children

-- a faithful batch of the part that its token names, or of the parts at its start
abbrev pub IsFaithfulOf : Feed → ℕ → Known → Batch → Option (List ℕ) → Type 0
IsFaithfulOf f e known b None = IsFaithfulFirst f b
IsFaithfulOf f e known b (Some token) = (p : Part) × Contains f.parts p × (p.token ≡ token) × IsFaithfulPart f e known p b

abbrev pub IsFaithful : Feed → ℕ → Known → Batch → Type 0
IsFaithful f e known b = IsFaithfulOf f e known b b.token
