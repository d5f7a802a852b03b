-- What is promised of the steps that answer a READ: they are those of an honest server, for the feed of the stream.
use Rattle.std.specs.Prelude.{ℕ, ◌≤◌, List, [], length, Contains}
use Rattle.cs_place.specs.declared.part.Part.{Part}
use Rattle.cs_place.specs.Part.{IsBefore}
use Rattle.cs_place.specs.Layout.{IsSoundLayout}
use Rattle.cs_records.specs.declared.captured.Captured.{Captured}
use Rattle.cs_link.specs.Feed.{IsFeed}
use Rattle.cs_link.specs.Honest.{Follows, MayFollow, MayFollowFirst}
use Rattle.cs_steps.specs.Feed.{feed_of, AreCommitted}
use Rattle.cs_steps.specs.Steps.{Asked, steps_of_part, steps_of_start}

-- a READ of a part that no refusal meets
pub record IsAccepted (parts : List Part) (a : Asked) : Type 0 where
  pub there : Contains parts a.part
  pub window : a.start ≤ a.end
  pub past : a.start ≤ a.moment
  pub lives : IsBefore a.start a.part.until
  pub gap : 1 ≤ a.gap

-- a stream of the scripted database has a feed
abbrev pub IsFeedOfCommitted : Type 0
IsFeedOfCommitted = (parts : List Part) (items : List Captured) (created retention : ℕ) → IsSoundLayout created parts → length parts ≤ 65536 → AreCommitted created items → IsFeed (feed_of parts items created retention)

-- the steps of a part are honest
abbrev pub PartIsHonest : Type 0
PartIsHonest = (parts : List Part) (items : List Captured) (created retention : ℕ) (a : Asked) → IsSoundLayout created parts → length parts ≤ 65536 → AreCommitted created items → IsAccepted parts a
    → Follows (MayFollow (feed_of parts items created retention) a.part a.start a.end a.moment) [] (steps_of_part parts items a)

-- the steps of the start are honest
abbrev pub StartIsHonest : Type 0
StartIsHonest = (parts : List Part) (items : List Captured) (created retention start : ℕ) → IsSoundLayout created parts → length parts ≤ 65536
    → Follows (MayFollowFirst (feed_of parts items created retention) start) [] (steps_of_start parts start)
