-- What a run needs so that it comes to its end, and how it then stops. This project's own.
use Rattle.std.specs.Prelude.{◌≡◌, ℕ, ◌-◌, ◌≤◌, List, Option, Some, ⊤}
use Rattle.cs_types.specs.declared.names.Window.{Window}
use Rattle.cs_link.specs.declared.feed.Feed.{Feed}
use Rattle.cs_link.specs.Reading.{Read}
use Rattle.cs_schedule.specs.declared.entry.Entry.{Entry}
use Rattle.cs_schedule.specs.declared.row.Row.{Row}
use Rattle.cs_room.specs.Room.{low}
use Rattle.cs_follow.specs.declared.outcome.Outcome.{Outcome}
use Rattle.cs_follow.specs.Carry.{CanCarry}

-- the link is honest and paced, its moment is not before the window's end, and the journal has room for what is expected behind the entries; its last READ was opened at that moment or later, and the least start of the READs that were due over these rows was kept then
pub record CanEnd (f : Feed) (w : Window) (since : ℕ) (told : Option Feed) (before now : Option (Option Read)) (paced : Type 0) (gate : ℕ) (rows : List Row) (es : List Entry) : Type 0 where
  pub carries : CanCarry f w since told before paced gate es
  pub timely : (read : Read) → now ≡ Some (Some read) → since ≤ read.moment
  pub kept : (read : Read) → now ≡ Some (Some read) → read.moment - f.retention_us ≤ low w rows

-- over such a link a follower stops at the end alone, for a fault of the link or of a disk, each of which has risen, or for want of memory
abbrev pub OnlyEnds : Type 0 → Type 0 → Type 0 → Outcome → Type 0
OnlyEnds rose rosej roseo Outcome.Ended = ⊤
OnlyEnds rose rosej roseo Outcome.Paused = ⊥
OnlyEnds rose rosej roseo (Outcome.RetentionPassed earliest) = ⊥
OnlyEnds rose rosej roseo (Outcome.Refused refusal) = ⊥
OnlyEnds rose rosej roseo Outcome.LinkFault = rose
OnlyEnds rose rosej roseo (Outcome.Breach breach) = ⊥
OnlyEnds rose rosej roseo (Outcome.Stalled token count) = ⊥
OnlyEnds rose rosej roseo Outcome.JournalFault = rosej
OnlyEnds rose rosej roseo Outcome.OutputFault = roseo
OnlyEnds rose rosej roseo (Outcome.Full length) = ⊥
OnlyEnds rose rosej roseo Outcome.Memory = ⊤
