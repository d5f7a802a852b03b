-- Feeds: what a Spanner change stream has to give, its changes in the order of their commits and its partitions over time.
use Rattle.std.specs.Prelude.{◌≡◌, ◌≢◌, ◌≤◌, ℕ, Bool, ◌&&◌, AllPairs, Contains, length, filter, ◌==◌}
use Rattle.cs_types.specs.declared.change.Change.{Change}
use Rattle.cs_types.specs.declared.change.RowName.{RowName}
use Rattle.cs_place.specs.declared.place.Place.{Place}
use Rattle.cs_place.specs.declared.part.Part.{Part}
use Rattle.cs_place.specs.Place.{place_bytes}
use Rattle.cs_place.specs.Part.{Holds, is_held}
use Rattle.cs_place.specs.Layout.{IsSoundLayout}
use Rattle.cs_link.specs.declared.feed.Feed.{Feed}

-- the place of a row
abbrev pub place_of : RowName → Place
place_of row = record { bytes = place_bytes row }

-- a change of the feed that the part holds: its row's place is in the part's range, and the part is live at its stamp
pub record IsOf (f : Feed) (p : Part) (c : Change) : Type 0 where
  pub wanted : Contains f.wanted c
  pub held : Holds p (place_of c.row) c.stamp

-- the test of a change of this stamp that the part holds
abbrev pub is_of_at : Part → ℕ → Change → Bool
is_of_at p stamp c = is_held p (place_of c.row) c.stamp && c.stamp == stamp

-- a feed as a stream has it
pub record IsFeed (f : Feed) : Type 0 where
  -- its parts are a sound layout
  pub layout : IsSoundLayout f.created f.parts
  -- there are at most so many
  pub few_parts : length f.parts ≤ 65536
  -- no change is before the creation
  pub created : (c : Change) → Contains f.wanted c → f.created ≤ c.stamp
  -- stamps do not fall
  pub order : AllPairs (λ c d. c.stamp ≤ d.stamp) f.wanted
  -- two changes of one stamp are of different rows
  pub rows : AllPairs (λ c d. c.stamp ≡ d.stamp → c.row ≢ d.row) f.wanted
  -- two changes of one transaction are of different rows
  pub names : AllPairs (λ c d. c.tx ≡ d.tx → c.row ≢ d.row) f.wanted
  -- one part has at most so many changes of one stamp
  pub few_changes : (p : Part) (stamp : ℕ) → Contains f.parts p → length (filter (is_of_at p stamp) f.wanted) ≤ 1024
