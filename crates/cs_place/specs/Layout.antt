-- Sound layouts, what Spanner's documentation promises of a stream's partitions: each place is in one part at each moment, and a part follows those that gave it its places.
use Rattle.std.specs.Prelude.{◌≡◌, ◌≢◌, ◌↔◌, ℕ, ◌<◌, ◌≤◌, List, [], Some, AllPairs, Contains}
use Rattle.cs_place.specs.declared.place.Place.{Place}
use Rattle.cs_place.specs.declared.part.Part.{Part}
use Rattle.cs_place.specs.Part.{IsBelowHigh, IsBefore, Holds, Meet}

-- exactly one of the parts has the place at the moment
abbrev pub HasOnePart : List Part → Place → ℕ → Type 0
HasOnePart parts place moment = (part : Part) × Contains parts part × Holds part place moment × ((other : Part) → Contains parts other → Holds other place moment → other ≡ part)

-- a part ends where another begins, and they have a place in common
pub record IsFollowedBy (parent child : Part) : Type 0 where
  pub moment : parent.until ≡ Some child.from
  pub places : Meet parent.range child.range

-- the parts of a stream that was created at a moment
pub record IsSoundLayout (created : ℕ) (parts : List Part) : Type 0 where
  -- tokens differ
  pub tokens : AllPairs (λ a b. a.token ≢ b.token) parts
  -- each part begins before it ends
  pub lives : (part : Part) → Contains parts part → IsBefore part.from part.until
  -- each part has a place
  pub ranges : (part : Part) → Contains parts part → IsBelowHigh part.range.low part.range.high
  -- no part begins before the creation
  pub begins : (part : Part) → Contains parts part → created ≤ part.from
  -- the parts that begin with the stream have no parents
  pub first : (part : Part) → Contains parts part → part.from ≡ created → part.parents ≡ []
  -- from the creation on, each place is in exactly one part at each moment
  pub held : (place : Place) (moment : ℕ) → created ≤ moment → HasOnePart parts place moment
  -- a part that begins later has as parents exactly the parts that it follows
  pub parents : (part : Part) → Contains parts part → created < part.from → (token : List ℕ) → Contains part.parents token ↔ ((parent : Part) × Contains parts parent × (parent.token ≡ token) × IsFollowedBy parent part)
  -- no part names a parent twice
  pub parents_once : (part : Part) → Contains parts part → AllPairs (λ a b. a ≢ b) part.parents
