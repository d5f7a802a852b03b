-- How a follower stops over a link that is honest for the stream of its window. This project's own.
use Rattle.std.specs.Prelude.{◌≡◌, ◌<◌, ◌≤◌, ℕ, ◌-◌, false, List, Option, Some, ⊤}
use Rattle.cs_types.specs.declared.names.Window.{Window}
use Rattle.cs_link.specs.declared.feed.Feed.{Feed}
use Rattle.cs_link.specs.declared.refusal.ReadRefusal.{ReadRefusal}
use Rattle.cs_link.specs.Reading.{Read}
use Rattle.cs_schedule.specs.declared.row.Row.{Row}
use Rattle.cs_room.specs.Room.{low}
use Rattle.cs_follow.specs.declared.outcome.Outcome.{Outcome}
use Rattle.cs_follow.specs.Cause.{is_too_old}

-- why an honest server may refuse a READ that is due, by its start and its moment: the start, which is in the window, is before what is kept then, or the window ends after the moment
abbrev pub MayBeRefused : Feed → Window → ℕ → ℕ → ReadRefusal → Type 0
MayBeRefused f w start moment (ReadRefusal.StartTooOld earliest) = (earliest ≡ moment - f.retention_us) × (w.start ≤ start) × (start < earliest)
MayBeRefused f w start moment (ReadRefusal.StartInFuture at) = (at ≡ moment) × (at < w.end)
MayBeRefused f w start moment _ = ⊥

-- the present READ was refused at its moment
abbrev pub IsRefusedRightly : Feed → Window → Option (Option Read) → ReadRefusal → Type 0
IsRefusedRightly f w now refusal = (read : Read) × (now ≡ Some (Some read)) × MayBeRefused f w read.args.start read.moment refusal

-- what the present READ asks for is kept no longer at its moment: it starts before that, and not below the least start of the READs that are due over these rows
abbrev pub IsKeptNoLonger : Feed → Window → List Row → Option (Option Read) → ℕ → Type 0
IsKeptNoLonger f w rows now earliest = (read : Read) × (now ≡ Some (Some read)) × (earliest ≡ read.moment - f.retention_us) × (low w rows ≤ read.args.start) × (read.args.start < earliest)

-- over a window that may be followed, where the link's moment was `since` at the start: it pauses where that is before the window's end, it is never broken off for what no server may answer, nor since nothing was added; faults of a disk and a full journal are no matter of the link
abbrev pub StopsRightly : Feed → Window → ℕ → Option (Option Read) → Type 0 → Outcome → Type 0
StopsRightly f w since now rose Outcome.Ended = ⊤
StopsRightly f w since now rose Outcome.Paused = since < w.end
StopsRightly f w since now rose (Outcome.RetentionPassed earliest) = IsRefusedRightly f w now (ReadRefusal.StartTooOld earliest)
StopsRightly f w since now rose (Outcome.Refused refusal) = (is_too_old refusal ≡ false) × IsRefusedRightly f w now refusal
StopsRightly f w since now rose Outcome.LinkFault = rose
StopsRightly f w since now rose (Outcome.Breach breach) = ⊥
StopsRightly f w since now rose (Outcome.Stalled token count) = ⊥
StopsRightly f w since now rose Outcome.JournalFault = ⊤
StopsRightly f w since now rose Outcome.OutputFault = ⊤
StopsRightly f w since now rose (Outcome.Full length) = ⊤
StopsRightly f w since now rose Outcome.Memory = ⊤
