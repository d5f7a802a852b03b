-- When a replay comes to its end, whatever the order, the batch limit and the turns are. This project's own.
use Rattle.std.specs.Prelude.{◌≡◌, ◌⊎◌, ◌+◌, ◌-◌, ◌≤◌, ℕ, List, [], length, Option, Some, ⊤}
use Rattle.cs_types.specs.declared.names.Window.{Window}
use Rattle.cs_device.specs.Causes.{Rose}
use Rattle.cs_link.specs.declared.feed.Feed.{Feed}
use Rattle.cs_journal.specs.Rows.{gate_of, limit}
use Rattle.cs_schedule.specs.declared.entry.Entry.{Entry}
use Rattle.cs_schedule.specs.declared.entry.Entry.TheVariants.{Begin}
use Rattle.cs_schedule.specs.Rows.{rows_of}
use Rattle.cs_schedule.specs.Spelling.{payload}
use Rattle.cs_room.specs.Room.{room, low}
use Rattle.cs_script.specs.Database.{Database}
use Rattle.cs_server.specs.Laws.{IsFeedOf}
use Rattle.cs_words.specs.declared.command.Command.{Command}
use Rattle.cs_words.specs.declared.command.Command.TheVariants.{Replay, Check, Show, Gen}
use Rattle.cs_book.specs.Entries.{HoldsEntries}
use Rattle.cs_follow.specs.Own.{AreFollowing}
use Rattle.cs_tool.specs.Database.{OnScript}
use Rattle.cs_tool.specs.Journal.{Files, HoldsFollowing}
use Rattle.cs_tool.specs.Run.{window_of}
use Rattle.cs_tool.specs.declared.status.Status.{Status}
use Rattle.cs_tool.specs.declared.status.Status.TheVariants.{Ended, JournalFault, OutputFault, Memory}

-- ---- what it needs

-- the place of the closed gate once the journal is opened: that behind its entries, or, where it has none, that behind the one entry that begins the window
abbrev pub IsOpenedGate : Window → List ℕ → ℕ → Type 0
IsOpenedGate w bytes gate = ((gate_of bytes ≡ Some gate) × (HoldsEntries bytes [] → ⊥)) ⊎ (HoldsEntries bytes [] × (gate ≡ 5 + length (payload (Begin w))))

pub record CanEndIn (f : Feed) (w : Window) (moment : ℕ) (old : Files) : Type 0 where
  -- the journal is what earlier runs left
  pub left : HoldsFollowing f w old
  -- and where it has no entry, the output has no byte
  pub empty : HoldsEntries left.bytes [] → old.output ≡ Some []
  -- the window starts no earlier than the stream was created, and has ended at the moment
  pub born : f.created ≤ w.start
  pub late : w.end ≤ moment
  -- what is still to be read over the journal's entries is kept at the moment
  pub kept : (es : List Entry) → HoldsEntries left.bytes es → moment - f.retention_us ≤ low w (rows_of w.start es)
  -- and the journal has room for it
  pub fits : (gate : ℕ) → IsOpenedGate w left.bytes gate → gate + room f w ≤ limit

-- ---- how it stops

-- it ends, or a call of one of these files failed, or memory was wanting
abbrev pub OnlyEndsBy : Type 0 → Type 0 → Status → Type 0
OnlyEndsBy rosej roseo Ended = ⊤
OnlyEndsBy rosej roseo JournalFault = rosej
OnlyEndsBy rosej roseo OutputFault = roseo
OnlyEndsBy rosej roseo Memory = ⊤
OnlyEndsBy rosej roseo _ = ⊥

abbrev pub OnlyEndsIn : Files → Files → Status → Type 0
OnlyEndsIn old new status = OnlyEndsBy (Rose old.journal_faults new.journal_faults) (Rose old.output_faults new.output_faults) status

-- over the server of the database
abbrev pub Completes : Database → Window → ℕ → Files → Files → Status → Type 0
Completes db w moment old new status = (f : Feed) → IsFeedOf db w.stream f → CanEndIn f w moment old → OnlyEndsIn old new status

-- of a run: this is said of replay alone
abbrev pub CompletesRun : Option (List ℕ) → Files → Files → Status → Command → Type 0
CompletesRun source old new status (Replay script journal output stream start end options) = OnScript source (λ db. Completes db (window_of stream start end) options.moment old new status)
CompletesRun source old new status (Check script output stream start end) = ⊤
CompletesRun source old new status (Show script moment query) = ⊤
CompletesRun source old new status (Gen commits text) = ⊤

-- ---- a book that was opened

-- the same of a follower over a book of these entries, whose journal has its closed gate at this place
pub record CanGoOn (f : Feed) (w : Window) (moment gate : ℕ) (es : List Entry) : Type 0 where
  pub following : AreFollowing f w es
  pub born : f.created ≤ w.start
  pub late : w.end ≤ moment
  pub kept : moment - f.retention_us ≤ low w (rows_of w.start es)
  pub fits : gate + room f w ≤ limit

abbrev pub GoesOn : Type 0 → Type 0 → Database → Window → ℕ → ℕ → List Entry → Status → Type 0
GoesOn rosej roseo db w moment gate es status = (f : Feed) → IsFeedOf db w.stream f → CanGoOn f w moment gate es → OnlyEndsBy rosej roseo status
