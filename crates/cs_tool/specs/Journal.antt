-- What a replay makes of its journal and its output, and why it stops, over the server of the script's database. This project's own.
use Rattle.std.specs.Prelude.{◌≡◌, ◌≢◌, ◌⊎◌, ◌<◌, ◌≤◌, ℕ, List, [], length, map, Option, Some, None, Ok, Err, IfSome, ⊤}
use Rattle.cs_types.specs.declared.names.Window.{Window}
use Rattle.cs_device.specs.Causes.{Rose}
use Rattle.cs_device.specs.Crash.{Crash, CrashesLeave, LeavesOnly}
use Rattle.cs_link.specs.Causes.{Rose as LinkRose}
use Rattle.cs_link.specs.declared.batch.Limits.{Limits}
use Rattle.cs_link.specs.declared.feed.Feed.{Feed}
use Rattle.cs_link.specs.declared.refusal.ReadRefusal.{ReadRefusal}
use Rattle.cs_journal.specs.Crashes.{HasSamePayloads, KeepsAnOldImage, IsUntouched}
use Rattle.cs_journal.specs.Rows.{gate_of}
use Rattle.cs_journal.specs.State.{WhereTold}
use Rattle.cs_schedule.specs.declared.entry.Entry.{Entry}
use Rattle.cs_schedule.specs.Board.{Shown, IsOrdered, fresh}
use Rattle.cs_schedule.specs.Follows.{IsBoardOf}
use Rattle.cs_schedule.specs.Rows.{Folds}
use Rattle.cs_script.specs.Database.{Database}
use Rattle.cs_server.specs.Laws.{IsFeedOf}
use Rattle.cs_server.specs.State.{LinkState, present_of}
use Rattle.cs_text.specs.Output.{output_of}
use Rattle.cs_book.specs.Book.{StillTells}
use Rattle.cs_book.specs.Entries.{HoldsEntries, HoldsSuch}
use Rattle.cs_book.specs.Opening.{IsFrom, IsRefusal, IfGateIsBroken}
use Rattle.cs_book.specs.declared.fault.OpenFault.{OpenFault}
use Rattle.cs_book.specs.declared.fault.OpenFault.TheVariants as faults
use Rattle.cs_follow.specs.declared.outcome.Outcome.{Outcome}
use Rattle.cs_follow.specs.declared.outcome.Pace.{Pace}
use Rattle.cs_follow.specs.Cause.{IsFilled}
use Rattle.cs_follow.specs.Own.{AreFollowing}
use Rattle.cs_follow.specs.Pauses.{HasComeTo}
use Rattle.cs_follow.specs.Turn.{IsStopped, Extends}
use Rattle.cs_tool.specs.Answers.{OnTold, IsCompleteIn, IsGoodIn}
use Rattle.cs_tool.specs.Database.{IsBarred, IsPassed, IsRefusedAs}
use Rattle.cs_tool.specs.declared.status.Status.{Status}
use Rattle.cs_tool.specs.declared.status.Status.TheVariants.{Ended, Paused, RetentionPassed, Refused, Breach, JournalFault, OutputFault, OtherJournal, BadJournal, Full, OutputNotEmpty, Memory}

-- the two files of a replay, by what is told of them: the journal's bytes, what a crash may leave of it, and how often a call of it has failed; and the same of the output
pub record Files : Type 1 where
  pub journal : Option (List ℕ)
  pub journal_crash : Crash
  pub journal_faults : ℕ
  pub output : Option (List ℕ)
  pub output_crash : Crash
  pub output_faults : ℕ

abbrev pub files : Option (List ℕ) → Crash → ℕ → Option (List ℕ) → Crash → ℕ → Files
files journal journal_crash journal_faults output output_crash output_faults = record { journal = journal; journal_crash = journal_crash; journal_faults = journal_faults; output = output; output_crash = output_crash; output_faults = output_faults }

-- ---- what earlier runs left

-- The journal's bytes are told, and they hold entries that follow the feed in the window. So do those of an empty journal, which has none.
pub record HoldsFollowing (f : Feed) (w : Window) (old : Files) : Type 0 where
  pub bytes : List ℕ
  pub told : old.journal ≡ Some bytes
  pub now : HoldsSuch (AreFollowing f w) bytes

-- And each image that a crash may leave holds such entries. So it is of an empty journal that is synced, and of what earlier runs of the window and their crashes left.
pub record IsLeftBehind (f : Feed) (w : Window) (old : Files) : Type 0 where
  pub held : HoldsFollowing f w old
  pub crashes : (image : List ℕ) → old.journal_crash.may_leave image → HoldsSuch (AreFollowing f w) image

-- entries that follow the feed, and go on from those of an image that a crash might have left before
pub record GoesOnFrom (f : Feed) (w : Window) (before : Crash) (es : List Entry) : Type 0 where
  pub follow : AreFollowing f w es
  pub image : List ℕ
  pub might : before.may_leave image
  pub first : List Entry
  pub held : HoldsEntries image first
  pub more : Extends first es

-- whatever a run answers: a crash at any moment since it began leaves a journal of such entries, so that none is lost that was there
abbrev pub Survives : Database → Window → Files → Files → Type 0
Survives db w old new = (f : Feed) → IsFeedOf db w.stream f → IsLeftBehind f w old → CrashesLeave (HoldsSuch (GoesOnFrom f w old.journal_crash)) old.journal_crash new.journal_crash

-- ---- why it stops

-- a link over the server of the database, at this moment
pub record IsLinkIn (db : Database) (moment : ℕ) (m : LinkState) : Type 0 where
  pub over : m.database ≡ db
  pub at : m.moment ≡ moment

-- so a follower of the window stops over the server of the database: the cause of the outcome is there, in the rows that the entries make and in the last READ of its link
abbrev pub StopsIn : Database → Window → Pace → ℕ → List Entry → Outcome → Type 0
StopsIn db w pace moment es outcome = (m : LinkState) × IsLinkIn db moment m × IsStopped w pace.limits moment (Some None) (Some (present_of m)) pace.turns 0 m.caught_up (LinkRose 0 0) es outcome

-- with the entry that is planned of the last READ, which is due, the journal, whose closed gate is at this place, would have so many bytes, more than its limit
pub record FillsIn (db : Database) (w : Window) (limits : Limits) (moment gate : ℕ) (es : List Entry) (length : ℕ) : Type 0 where
  pub link : LinkState
  pub of : IsLinkIn db moment link
  pub board : Shown
  pub window : board.window ≡ w
  pub rows : IsBoardOf es board
  pub fills : IsFilled w limits moment (Some None) (Some (present_of link)) gate (map fresh board.rows) length

-- the cause of each status behind the opening, over any journal; it never stops since records added nothing
abbrev pub HasCauseIn : Database → Window → Pace → ℕ → ℕ → List Entry → Status → Type 0
HasCauseIn db w pace moment gate es Ended = StopsIn db w pace moment es Outcome.Ended
HasCauseIn db w pace moment gate es Paused = StopsIn db w pace moment es Outcome.Paused × (moment < w.end)
HasCauseIn db w pace moment gate es (RetentionPassed earliest) = StopsIn db w pace moment es (Outcome.RetentionPassed earliest)
HasCauseIn db w pace moment gate es (Refused refusal) = StopsIn db w pace moment es (Outcome.Refused refusal) ⊎ IsBarred db w refusal
HasCauseIn db w pace moment gate es (Breach breach) = StopsIn db w pace moment es (Outcome.Breach breach)
HasCauseIn db w pace moment gate es (Full length) = FillsIn db w pace.limits moment gate es length
HasCauseIn db w pace moment gate es _ = ⊥

-- the low watermark of the rows that the entries make has come to the moment, or at least as many of them have as a replay has turns
pub record HasPausedIn (w : Window) (turns moment : ℕ) (es : List Entry) : Type 0 where
  pub board : Shown
  pub window : board.window ≡ w
  pub rows : IsBoardOf es board
  pub ordered : IsOrdered board.rows
  pub come : HasComeTo w.end moment turns board.rows

-- over what earlier runs left, and a start that is not before the stream's creation: what each status says besides. It is never broken off for what no server may answer.
abbrev pub IsRightIn : Database → Window → ℕ → ℕ → List Entry → Status → Type 0
IsRightIn db w turns moment es Ended = IsCompleteIn db w (output_of w es)
IsRightIn db w turns moment es Paused = HasPausedIn w turns moment es
IsRightIn db w turns moment es (RetentionPassed earliest) = IsPassed db w moment earliest
IsRightIn db w turns moment es (Refused refusal) = IsRefusedAs db w moment refusal
IsRightIn db w turns moment es (Full length) = ⊤
IsRightIn db w turns moment es _ = ⊥

-- ---- what it leaves

-- A run that opened the files and then stopped, but for a fault of one of them and for want of memory.
pub record HasGoneOn (db : Database) (w : Window) (pace : Pace) (moment : ℕ) (old new : Files) (status : Status) : Type 0 where
  -- the entries that the journal held, or the one that begins the window where it held none; the latter only beside an output without bytes
  pub first : List Entry
  pub from : IsFrom w old.journal first
  pub begun : IfSome old.journal (λ bytes. IfSome old.output (λ text. HoldsEntries bytes [] → text ≡ []))
  -- those of the journal as it returns, which go on from them in the window, and the place of its closed gate
  pub entries : List Entry
  pub more : Extends first entries
  pub folds : Folds w entries
  pub gate : ℕ
  pub held : IfSome new.journal (λ bytes. HoldsEntries bytes entries × (gate_of bytes ≡ Some gate))
  pub still : StillTells old.journal new.journal
  -- a crash leaves the journal as it is
  pub durable : IfSome new.journal (LeavesOnly new.journal_crash)
  -- the output is what they tell
  pub output : OnTold old.output new.output (λ text. text ≡ output_of w entries)
  -- the status has its cause
  pub cause : HasCauseIn db w pace moment gate entries status
  -- over what earlier runs left they follow the feed
  pub follow : (f : Feed) → IsFeedOf db w.stream f → HoldsFollowing f w old → AreFollowing f w entries
  -- and where the window may be followed, their output is right as far as it goes, and the status is right
  pub right : (f : Feed) → IsFeedOf db w.stream f → HoldsFollowing f w old → f.created ≤ w.start → IsGoodIn db w (output_of w entries) × IsRightIn db w pace.turns moment entries status

-- where the run ended or paused, a crash leaves the output as it is
abbrev pub IsDurable : Option (List ℕ) → Crash → Status → Type 0
IsDurable output crash Ended = IfSome output (LeavesOnly crash)
IsDurable output crash Paused = IfSome output (LeavesOnly crash)
IsDurable output crash _ = ⊤

-- ---- why the files are refused

-- a call of a file failed; or the journal or the output cannot be gone on with, and why
abbrev pub IsFileFault : Window → Files → Files → Status → Type 0
IsFileFault w old new JournalFault = Rose old.journal_faults new.journal_faults
IsFileFault w old new OutputFault = Rose old.output_faults new.output_faults
IsFileFault w old new (OtherJournal other) = IsRefusal w old.journal old.output 0 0 (faults.OtherJournal other) 0 0
IsFileFault w old new (BadJournal gate) = IsRefusal w old.journal old.output 0 0 (faults.BadJournal gate) 0 0
IsFileFault w old new (OutputNotEmpty count) = IsRefusal w old.journal old.output 0 0 (faults.OutputNotEmpty count) 0 0
IsFileFault w old new _ = ⊥

-- the status by which it is said that a book was not opened
abbrev pub IsNotOpened : OpenFault → Status → Type 0
IsNotOpened faults.JournalFault status = status ≡ JournalFault
IsNotOpened (faults.BadJournal place) status = status ≡ BadJournal place
IsNotOpened (faults.OtherJournal other) status = status ≡ OtherJournal other
IsNotOpened (faults.OutputNotEmpty count) status = status ≡ OutputNotEmpty count
IsNotOpened faults.OutputFault status = status ≡ OutputFault
IsNotOpened faults.Memory status = status ≡ Memory

-- what earlier runs of the window left is never refused so
abbrev pub IsOfAnother : Database → Window → Files → Type 0
IsOfAnother db w old = (f : Feed) → IsFeedOf db w.stream f → HoldsFollowing f w old → ⊥

-- both files stay as they are, also in a crash, but for what is mended behind the journal's entries
pub record FilesStay (old new : Files) : Type 0 where
  pub payloads : WhereTold HasSamePayloads old.journal new.journal
  pub images : KeepsAnOldImage old.journal old.journal_crash new.journal_crash
  pub output : IsUntouched old.output new.output old.output_crash new.output_crash

-- and a journal with an open gate that has no whole entry behind it stays to the byte
abbrev pub StaysBroken : ℕ → Files → Files → Type 0
StaysBroken gate old new = IfGateIsBroken (faults.BadJournal gate) old.journal (IsUntouched old.journal new.journal old.journal_crash new.journal_crash)

-- ---- all of it

-- an answer of a replay whose script was read
abbrev pub IsOpenStatus : Status → Type 0
IsOpenStatus Ended = ⊤
IsOpenStatus Paused = ⊤
IsOpenStatus (RetentionPassed earliest) = ⊤
IsOpenStatus (Refused refusal) = ⊤
IsOpenStatus (Breach breach) = ⊤
IsOpenStatus JournalFault = ⊤
IsOpenStatus OutputFault = ⊤
IsOpenStatus (OtherJournal other) = ⊤
IsOpenStatus (BadJournal place) = ⊤
IsOpenStatus (Full length) = ⊤
IsOpenStatus (OutputNotEmpty count) = ⊤
IsOpenStatus Memory = ⊤
IsOpenStatus _ = ⊥

-- what each answer of a replay says, once the script made this database
abbrev pub HasReplayed : Database → Window → Pace → ℕ → Files → Files → Status → Type 0
HasReplayed db w pace moment old new JournalFault = IsFileFault w old new JournalFault
HasReplayed db w pace moment old new OutputFault = IsFileFault w old new OutputFault
HasReplayed db w pace moment old new (OtherJournal other) = IsFileFault w old new (OtherJournal other) × FilesStay old new × IsOfAnother db w old
HasReplayed db w pace moment old new (BadJournal gate) = IsFileFault w old new (BadJournal gate) × FilesStay old new × StaysBroken gate old new × IsOfAnother db w old
HasReplayed db w pace moment old new (OutputNotEmpty count) = IsFileFault w old new (OutputNotEmpty count) × FilesStay old new
HasReplayed db w pace moment old new Memory = ⊤
HasReplayed db w pace moment old new status = HasGoneOn db w pace moment old new status × IsDurable new.output new.output_crash status
