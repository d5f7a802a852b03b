-- The output of a follower that has ended. This project's own.
use Rattle.std.specs.Prelude.{ℕ, List, Option}
use Rattle.cs_types.specs.Change.{wanted_changes}
use Rattle.cs_types.specs.declared.names.Window.{Window}
use Rattle.cs_link.specs.declared.batch.Limits.{Limits}
use Rattle.cs_link.specs.declared.feed.Feed.{Feed}
use Rattle.cs_link.specs.Causes.{Rose}
use Rattle.cs_link.specs.Reading.{Read}
use Rattle.cs_output.specs.Output.{IsComplete}
use Rattle.cs_schedule.specs.declared.entry.Entry.{Entry}
use Rattle.cs_schedule.specs.Consistent.{IsConsistent}
use Rattle.cs_schedule.specs.Follows.{IsFollowed}
use Rattle.cs_follow.specs.declared.outcome.Outcome.{Outcome}
use Rattle.cs_follow.specs.Turn.{IsStopped}
use Rattle.cs_text.specs.Output.{output_of}

-- where a follower has ended over a window that may be followed, and its entries are consistent, their output is complete
abbrev pub EndedIsComplete : Type 0
EndedIsComplete = (f : Feed) (w : Window) (limits : Limits) (since : ℕ) (before now : Option (Option Read)) (turns count count_now faults faults_now : ℕ) (es : List Entry) → IsFollowed f w → IsConsistent f w es
    → IsStopped w limits since before now turns count count_now (Rose faults faults_now) es Outcome.Ended → IsComplete (output_of w es) (wanted_changes w.start w.end f.wanted) w.end
