-- What becomes of a book whose window is followed over the server of a script's database. This project's own.
use Rattle.std.specs.Prelude.{◌≡◌, ◌≤◌, ℕ, List, Option, IfSome, false, ⊤}
use Rattle.cs_types.specs.declared.names.Window.{Window}
use Rattle.cs_device.specs.Crash.{Crash, CrashesLeave}
use Rattle.cs_link.specs.declared.feed.Feed.{Feed}
use Rattle.cs_schedule.specs.declared.entry.Entry.{Entry}
use Rattle.cs_script.specs.Database.{Database}
use Rattle.cs_server.specs.Laws.{IsFeedOf}
use Rattle.cs_text.specs.Output.{output_of}
use Rattle.cs_book.specs.Book.{BookState, AreEntriesOf}
use Rattle.cs_book.specs.Entries.{HoldsSuch}
use Rattle.cs_follow.specs.declared.outcome.Outcome.{Outcome}
use Rattle.cs_follow.specs.declared.outcome.Pace.{Pace}
use Rattle.cs_follow.specs.Own.{AreFollowing}
use Rattle.cs_follow.specs.Turn.{Extends}
use Rattle.cs_tool.specs.Answers.{IsGoodIn}
use Rattle.cs_tool.specs.Journal.{HasCauseIn, IsRightIn}
use Rattle.cs_tool.specs.declared.status.Status.{Status}
use Rattle.cs_tool.specs.declared.status.Status.TheVariants.{Ended, Paused, RetentionPassed, Refused, LinkFault, Breach, Stalled, JournalFault, OutputFault, Full, Memory}

-- the status by which an outcome is said
abbrev pub IsSaidOf : Outcome → Status → Type 0
IsSaidOf Outcome.Ended status = status ≡ Ended
IsSaidOf Outcome.Paused status = status ≡ Paused
IsSaidOf (Outcome.RetentionPassed earliest) status = status ≡ RetentionPassed earliest
IsSaidOf (Outcome.Refused refusal) status = status ≡ Refused refusal
IsSaidOf Outcome.LinkFault status = status ≡ LinkFault
IsSaidOf (Outcome.Breach breach) status = status ≡ Breach breach
IsSaidOf (Outcome.Stalled token count) status = status ≡ Stalled token count
IsSaidOf Outcome.JournalFault status = status ≡ JournalFault
IsSaidOf Outcome.OutputFault status = status ≡ OutputFault
IsSaidOf (Outcome.Full length) status = status ≡ Full length
IsSaidOf Outcome.Memory status = status ≡ Memory

-- an answer of a follower of the window
abbrev pub IsFollowStatus : Status → Type 0
IsFollowStatus Ended = ⊤
IsFollowStatus Paused = ⊤
IsFollowStatus (RetentionPassed earliest) = ⊤
IsFollowStatus (Refused refusal) = ⊤
IsFollowStatus (Breach breach) = ⊤
IsFollowStatus JournalFault = ⊤
IsFollowStatus OutputFault = ⊤
IsFollowStatus (Full length) = ⊤
IsFollowStatus Memory = ⊤
IsFollowStatus _ = ⊥

-- a follower stopped with this status over a book whose journal has not failed: the status has its cause, over the book's entries; and over entries that followed the feed at the start, it is right
pub record IsStoppedIn {J O : Type 0} (seen : J → Option (List ℕ)) (text : O → Option (List ℕ)) (db : Database) (w : Window) (pace : Pace) (moment : ℕ) (before : List Entry) (new : BookState J O) (es : List Entry) (status : Status) : Type 0 where
  pub journal : new.journal.failed ≡ false
  pub entries : AreEntriesOf seen text new es
  pub cause : HasCauseIn db w pace moment new.journal.gate es status
  pub right : (f : Feed) → IsFeedOf db w.stream f → AreFollowing f w before → f.created ≤ w.start → IsGoodIn db w (output_of w es) × IsRightIn db w pace.turns moment es status

-- why it stopped: a call of a disk failed, or memory was wanting, or it has its cause
abbrev pub StopsBy : {J O : Type 0} (seen : J → Option (List ℕ)) (text : O → Option (List ℕ)) → Type 0 → Type 0 → Database → Window → Pace → ℕ → List Entry → BookState J O → List Entry → Status → Type 0
StopsBy seen text rosej roseo db w pace moment before new es JournalFault = rosej
StopsBy seen text rosej roseo db w pace moment before new es OutputFault = roseo
StopsBy seen text rosej roseo db w pace moment before new es Memory = ⊤
StopsBy seen text rosej roseo db w pace moment before new es status = IsStoppedIn seen text db w pace moment before new es status

-- entries that follow the feed and go on from these
abbrev pub FollowsOn : Feed → Window → List Entry → List Entry → Type 0
FollowsOn f w es now = AreFollowing f w now × Extends es now

-- what a follower of the window leaves of a book that held these entries: others that go on from these, and follow the feed where these did, also at each crash since, and why it stopped
pub record IsFollowedIn {J O : Type 0} (seen : J → Option (List ℕ)) (text : O → Option (List ℕ)) (crash : J → Crash) (rosej roseo : Type 0) (db : Database) (w : Window) (pace : Pace) (moment : ℕ) (old new : BookState J O) (es : List Entry) (status : Status) : Type 0 where
  pub next : List Entry
  pub more : Extends es next
  pub follow : (f : Feed) → IsFeedOf db w.stream f → AreFollowing f w es → AreFollowing f w next
  pub crashes : (f : Feed) → IsFeedOf db w.stream f → AreFollowing f w es → IfSome (seen old.journal.disk) (λ _. CrashesLeave (HoldsSuch (FollowsOn f w es)) (crash old.journal.disk) (crash new.journal.disk))
  pub stops : StopsBy seen text rosej roseo db w pace moment es new next status

-- the disks that told their bytes tell bytes still, but where a call of one failed
abbrev pub DisksTell : Status → Type 0 → Type 0
DisksTell JournalFault tell = ⊤
DisksTell OutputFault tell = ⊤
DisksTell _ tell = tell
