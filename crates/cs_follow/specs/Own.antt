-- The seen changes of rows are changes of their parts. This project's own.
use Rattle.std.specs.Prelude.{◌≡◌, ◌≢◌, ℕ, List, Contains}
use Rattle.cs_types.specs.declared.change.Change.{Change}
use Rattle.cs_types.specs.declared.names.Window.{Window}
use Rattle.cs_types.specs.Members.{Pairwise}
use Rattle.cs_place.specs.declared.part.Part.{Part}
use Rattle.cs_link.specs.declared.batch.Seen.{Seen}
use Rattle.cs_link.specs.declared.feed.Feed.{Feed}
use Rattle.cs_link.specs.Batch.{seen_of}
use Rattle.cs_link.specs.Feed.{IsOf}
use Rattle.cs_schedule.specs.declared.entry.Entry.{Entry}
use Rattle.cs_schedule.specs.declared.row.Row.{Row}
use Rattle.cs_schedule.specs.Consistent.{IsConsistent}
use Rattle.cs_schedule.specs.Rows.{next_of, rows_of}

-- names of wanted changes of a part at a moment, each once
pub record AreOwn (f : Feed) (q : Part) (m : ℕ) (names : List Seen) : Type 0 where
  pub once : Pairwise (λ a b. a ≢ b) names
  pub each : (n : Seen) → Contains names n → (c : Change) × IsOf f q c × (c.stamp ≡ m) × (seen_of c ≡ n)

-- those of a row are of its part, at its next moment
abbrev pub HasOwn : Feed → Row → Type 0
HasOwn f r = (q : Part) → Contains f.parts q → r.token ≡ q.token → AreOwn f q (next_of r) r.seen

-- entries that follow a feed as a follower makes them: they are consistent, and their rows have seen changes of their parts
pub record AreFollowing (f : Feed) (w : Window) (es : List Entry) : Type 0 where
  pub consistent : IsConsistent f w es
  pub own : (r : Row) → Contains (rows_of w.start es) r → HasOwn f r
