-- One turn of a follower: a READ that is due, and what becomes of its batch. This project's own.
use Rattle.std.specs.Prelude.{◌≡◌, ◌≢◌, ◌⊎◌, ◌<◌, ◌≤◌, ℕ, Bool, true, false, List, [], ◌∷◌, ◌++◌, map, Option, Some, None, IfSome, Ok, Err, Contains, ⊤}
use Rattle.cs_types.specs.declared.names.Window.{Window}
use Rattle.cs_link.specs.declared.batch.Batch.{Batch}
use Rattle.cs_link.specs.declared.batch.Limits.{Limits}
use Rattle.cs_link.specs.declared.feed.Feed.{Feed}
use Rattle.cs_link.specs.declared.refusal.ReadRefusal.{ReadRefusal}
use Rattle.cs_link.specs.Causes.{one_more}
use Rattle.cs_link.specs.Honest.{IsHonestFor}
use Rattle.cs_link.specs.Reading.{Read}
use Rattle.cs_fetch.specs.declared.fault.FetchFault.{FetchFault}
use Rattle.cs_fetch.specs.declared.fault.FetchFault.TheVariants as fetch
use Rattle.cs_schedule.specs.declared.entry.Entry.{Entry}
use Rattle.cs_schedule.specs.declared.plan.PlanFault.TheVariants as faults
use Rattle.cs_schedule.specs.declared.row.Row.{Row}
use Rattle.cs_schedule.specs.Board.{Shown, IsOrdered, fresh}
use Rattle.cs_schedule.specs.Follows.{IsBoardOf, IsFollowed}
use Rattle.cs_schedule.specs.Spelling.{IsInFormat}
use Rattle.cs_schedule.specs.Update.{PlansOf, applied}
use Rattle.cs_device.specs.Crash.{Crash, CrashesLeave}
use Rattle.cs_journal.specs.Rows.{limit}
use Rattle.cs_journal.specs.State.{JournalState, length_after}
use Rattle.cs_schedule.specs.Spelling.{payload}
use Rattle.cs_book.specs.Book.{BookState, IsRunning, AreEntriesOf, IsOut}
use Rattle.cs_book.specs.Entries.{HoldsEntries, HoldsSuch, with_entry, gate_after}
use Rattle.cs_follow.specs.Cause.{IsFilled}
use Rattle.cs_book.specs.Planned.{is_caught_up}
use Rattle.cs_book.specs.declared.fault.ReserveFault.{ReserveFault}
use Rattle.cs_book.specs.declared.fault.ReserveFault.TheVariants as reserve
use Rattle.cs_book.specs.declared.fault.CommitFault.{CommitFault}
use Rattle.cs_book.specs.declared.fault.CommitFault.TheVariants as commit
use Rattle.cs_book.specs.declared.lease.Lease.{Lease}
use Rattle.cs_follow.specs.declared.outcome.Outcome.{Outcome}
use Rattle.cs_follow.specs.declared.turn.Turn.{Turn}
use Rattle.cs_follow.specs.declared.turn.Turn.TheVariants as turns
use Rattle.cs_follow.specs.Cause.{is_too_old, HasCaughtUp, HasCause}
use Rattle.cs_follow.specs.Due.{IsLeaseOf, at_rest}
use Rattle.cs_book.specs.Waiting.{AreFree, AreWithin}
use Rattle.cs_follow.specs.Left.{left_of}
use Rattle.cs_follow.specs.Own.{AreFollowing}

-- between two turns: the board is that of the entries, in a window, and nothing is leased
pub record IsAfoot (w : Window) (es : List Entry) (b : Shown) : Type 0 where
  pub window : b.window ≡ w
  pub board : IsBoardOf es b
  pub ordered : IsOrdered b.rows
  pub free : AreFree b.rows
  pub within : AreWithin w.end b.rows

-- within a turn: the READ of the lease is due
pub record IsAtWork (w : Window) (es : List Entry) (b : Shown) (lease : Lease) : Type 0 where
  pub afoot : IsAfoot w es b
  pub of : IsLeaseOf w b.rows lease

-- nobody reads but one who reads a row of this token
abbrev pub OnlyReads : Option (List ℕ) → List Row → Type 0
OnlyReads token rows = (r : Row) → Contains rows r → r.leased ≡ true → token ≡ Some r.token

-- a batch was taken in: its entry, where it makes one, stands behind the others, and so much less is left
pub record IsSettled (w : Window) (es : List Entry) (b : Shown) (batch : Batch) (now : List Entry) (c : Shown) (caught_up : Bool) : Type 0 where
  pub planned : Option Entry
  pub plans : PlansOf b.rows batch batch.token (Ok planned)
  pub in_format : IfSome planned IsInFormat
  pub entries : now ≡ with_entry es planned
  -- its rows are those that the plan makes, but for what is no entry's
  pub rows : (y : Row) → Contains c.rows y → (z : Row) × Contains (applied b.window.start b.rows planned) z × (fresh y ≡ fresh z)
  pub afoot : IsAfoot w now c
  pub ending : is_caught_up batch.ending ≡ caught_up
  pub left : left_of w.end c.rows ≤ left_of w.end b.rows
  pub less : caught_up ≡ false → left_of w.end c.rows < left_of w.end b.rows

-- the outcome by which a fault of a READ is told
abbrev pub refused_as : ReadRefusal → Outcome → Type 0
refused_as refusal (Outcome.RetentionPassed earliest) = refusal ≡ ReadRefusal.StartTooOld earliest
refused_as refusal (Outcome.Refused other) = (is_too_old refusal ≡ false) × (other ≡ refusal)
refused_as refusal _ = ⊥

abbrev pub ToldAs : Option (List ℕ) → FetchFault → Outcome → Type 0
ToldAs token fetch.LinkFault outcome = outcome ≡ Outcome.LinkFault
ToldAs token (fetch.Refused refusal) outcome = refused_as refusal outcome
ToldAs token (fetch.Breach breach) outcome = outcome ≡ Outcome.Breach breach
ToldAs token (fetch.Stalled count) outcome = (outcome ≡ Outcome.Stalled token count) ⊎ (outcome ≡ Outcome.Memory)
ToldAs token fetch.Memory outcome = outcome ≡ Outcome.Memory

-- the outcome by which it is told that nothing was reserved
abbrev pub NotReservedAs : ReserveFault → Outcome → Type 0
NotReservedAs (reserve.Breach breach) outcome = outcome ≡ Outcome.Breach breach
NotReservedAs (reserve.Full length) outcome = outcome ≡ Outcome.Full length
NotReservedAs reserve.Memory outcome = outcome ≡ Outcome.Memory

-- the outcome by which a fault of a disk is told
abbrev pub FailedAs : CommitFault → Outcome → Type 0
FailedAs commit.JournalFault outcome = outcome ≡ Outcome.JournalFault
FailedAs commit.OutputFault outcome = outcome ≡ Outcome.OutputFault

-- where a link told its present READ, it does so later
abbrev pub StaysTold : Option (Option Read) → Option (Option Read) → Type 0
StaysTold None now = ⊤
StaysTold (Some before) now = (read : Option Read) × (now ≡ Some read)

-- the entries of a turn over an honest link follow its feed where those before it did
abbrev pub StaysFollowing : Window → Option Feed → Option (Option Read) → List Entry → List Entry → Type 0
StaysFollowing w told present es now = (f : Feed) → IsFollowed f w → told ≡ Some f → IsHonestFor w.stream told present → AreFollowing f w es → AreFollowing f w now

-- a follower has stopped with its entries: there is a board of them over which the outcome has its cause
pub record IsStopped (w : Window) (limits : Limits) (since : ℕ) (before now : Option (Option Read)) (turns count count_now : ℕ) (rose : Type 0) (es : List Entry) (outcome : Outcome) : Type 0 where
  pub board : Shown
  pub window : board.window ≡ w
  pub of : IsBoardOf es board
  pub ordered : IsOrdered board.rows
  pub free : AreFree board.rows
  pub cause : HasCause w limits since before now turns count count_now rose board.rows outcome

-- what a turn is: it stops and leaves the entries as they are, or something is taken in and nothing is leased
pub record GoesOn (w : Window) (limits : Limits) (since : ℕ) (before now : Option (Option Read)) (count count_now : ℕ) (b : Shown) (es : List Entry) (c : Shown) (caught_up : Bool) : Type 0 where
  pub afoot : IsAfoot w es c
  pub told : StaysTold before now
  pub left : left_of w.end c.rows ≤ left_of w.end b.rows
  pub less : caught_up ≡ false → left_of w.end c.rows < left_of w.end b.rows
  pub same : caught_up ≡ false → count_now ≡ count
  pub one : caught_up ≡ true → count_now ≡ one_more count
  pub caught : caught_up ≡ true → HasCaughtUp w limits since before now

abbrev pub IsTurn : Window → Limits → ℕ → Option (Option Read) → Option (Option Read) → ℕ → ℕ → Type 0 → List Entry → Shown → List Entry → Shown → Turn → Type 0
IsTurn w limits since before now count count_now rose es b es_now c (turns.Stops outcome) = (es_now ≡ es) × ((n : ℕ) → outcome ≢ Outcome.Paused × IsStopped w limits since before now n count count_now rose es outcome)
IsTurn w limits since before now count count_now rose es b es_now c turns.CaughtUp = GoesOn w limits since before now count count_now b es_now c true
IsTurn w limits since before now count count_now rose es b es_now c turns.On = GoesOn w limits since before now count count_now b es_now c false

-- ---- over a book

-- a book between two turns: it has not failed, and nothing is leased
pub record IsIdle {J O : Type 0} (b : BookState J O) : Type 0 where
  pub running : IsRunning b
  pub free : AreFree b.board.rows
  pub closed : b.is_opening ≡ false

-- a lease was taken of a book of which nothing was leased
pub record IsHeld {J O : Type 0} (b : BookState J O) (lease : Lease) : Type 0 where
  pub due : IsLeaseOf b.board.window (map fresh b.board.rows) lease
  pub out : IsOut b.board b.is_opening lease.args.token
  pub only : OnlyReads lease.args.token b.board.rows
  pub closed : lease.args.token ≢ None → b.is_opening ≡ false

-- a book that was left as it is, but for what is leased
pub record IsLeft {J O : Type 0} (seen : J → Option (List ℕ)) (text : O → Option (List ℕ)) (old new : BookState J O) (es : List Entry) : Type 0 where
  pub idle : IsIdle new
  pub entries : AreEntriesOf seen text new es
  pub rows : map fresh new.board.rows ≡ map fresh old.board.rows
  pub gate : new.journal.gate ≡ old.journal.gate

-- the entry that is planned of a batch stands behind the others, where it makes one
pub record IsPut {J O : Type 0} (seen : J → Option (List ℕ)) (text : O → Option (List ℕ)) (old new : BookState J O) (es : List Entry) (batch : Batch) (caught_up : Bool) : Type 0 where
  pub now : List Entry
  pub idle : IsIdle new
  pub entries : AreEntriesOf seen text new now
  pub settled : IsSettled old.board.window es (at_rest old.board) batch now (at_rest new.board) caught_up
  pub gate : new.journal.gate ≡ gate_after old.journal.gate settled.planned

-- a board with an entry taken in
abbrev pub with_taken : Shown → Entry → Shown
with_taken b e = record { window = b.window; rows = applied b.window.start b.rows (Some e); room = b.room }

-- an entry is planned of a batch, and the board with it is that of the entries and it
pub record IsPlannedOf (b : Shown) (batch : Batch) (es : List Entry) (e : Entry) : Type 0 where
  pub plans : PlansOf b.rows batch batch.token (Ok (Some e))
  pub in_format : IsInFormat e
  pub board : IsBoardOf (es ++ e ∷ []) (with_taken b e)

-- a crash leaves the entries from before, or these with the one that is planned of a batch
abbrev pub HoldsOldOrPlanned : Shown → Batch → List Entry → List ℕ → Type 0
HoldsOldOrPlanned b batch es image = HoldsEntries image es ⊎ ((e : Entry) × IsPlannedOf b batch es e × HoldsEntries image (es ++ e ∷ []))

-- what becomes of a batch, over each list of entries that the book held
abbrev pub Settles : {J O : Type 0} (seen : J → Option (List ℕ)) (text : O → Option (List ℕ)) → Type 0 → Type 0 → BookState J O → BookState J O → List Entry → Batch → Turn → Type 0
Settles seen text rosej roseo old new es batch (turns.Stops (Outcome.Breach breach)) = IsLeft seen text old new es × PlansOf (map fresh old.board.rows) batch batch.token (Err (faults.Breach breach))
Settles seen text rosej roseo old new es batch (turns.Stops (Outcome.Full length)) = IsLeft seen text old new es × ((e : Entry) × PlansOf (map fresh old.board.rows) batch batch.token (Ok (Some e)) × (length ≡ length_after old.journal.gate (payload e)) × (limit < length) × IsInFormat e)
Settles seen text rosej roseo old new es batch (turns.Stops Outcome.Memory) = IsLeft seen text old new es
Settles seen text rosej roseo old new es batch (turns.Stops Outcome.JournalFault) = (new.journal.failed ≡ true) × rosej
Settles seen text rosej roseo old new es batch (turns.Stops Outcome.OutputFault) = (new.output_failed ≡ true) × roseo
Settles seen text rosej roseo old new es batch (turns.Stops _) = ⊥
Settles seen text rosej roseo old new es batch turns.CaughtUp = IsPut seen text old new es batch true
Settles seen text rosej roseo old new es batch turns.On = IsPut seen text old new es batch false

-- entries behind others
abbrev pub Extends : List Entry → List Entry → Type 0
Extends es now = (more : List Entry) × (now ≡ es ++ more)

-- entries that follow a feed rightly where those before them did, and begin with these
abbrev pub GoOn : Window → Option Feed → Option (Option Read) → List Entry → List Entry → Type 0
GoOn w told present es now = StaysFollowing w told present es now × Extends es now

-- why a follower stops, or what a turn does, over the entries that the book then holds; the window, and the board before
abbrev pub Does : {J O : Type 0} (seen : J → Option (List ℕ)) (text : O → Option (List ℕ)) → Limits → ℕ → Option (Option Read) → Option (Option Read) → ℕ → ℕ → Type 0 → Type 0 → Type 0 → Window → Shown → BookState J O → List Entry → List Entry → Turn → Type 0
Does seen text limits since before now count count_now rose rosej roseo w b new es next (turns.Stops Outcome.JournalFault) = (new.journal.failed ≡ true) × rosej
Does seen text limits since before now count count_now rose rosej roseo w b new es next (turns.Stops Outcome.OutputFault) = (new.output_failed ≡ true) × roseo
Does seen text limits since before now count count_now rose rosej roseo w b new es next (turns.Stops (Outcome.Full length)) = IsIdle new × AreEntriesOf seen text new next × IsFilled w limits since before now new.journal.gate (map fresh new.board.rows) length
Does seen text limits since before now count count_now rose rosej roseo w b new es next turn = IsIdle new × AreEntriesOf seen text new next × IsTurn w limits since before now count count_now rose es b next (at_rest new.board) turn

-- a turn over each list of entries that the book held; its window, board and journal were these
pub record IsTurnOver {J O : Type 0} (seen : J → Option (List ℕ)) (text : O → Option (List ℕ)) (crash : J → Crash) (limits : Limits) (since : ℕ) (before now : Option (Option Read)) (count count_now : ℕ) (rose rosej roseo : Type 0) (told : Option Feed) (w : Window) (b : Shown) (journal : JournalState J) (new : BookState J O) (es : List Entry) (turn : Turn) : Type 0 where
  pub next : List Entry
  pub goes : GoOn w told before es next
  -- a crash at any moment leaves entries that go on so
  pub crashes : IfSome (seen journal.disk) (λ _. CrashesLeave (HoldsSuch (GoOn w told before es)) (crash journal.disk) (crash new.journal.disk))
  pub does : Does seen text limits since before now count count_now rose rosej roseo w b new es next turn

-- ---- a follower

-- why a follower stopped, over the entries that its book holds
abbrev pub HasStopped : {J O : Type 0} (seen : J → Option (List ℕ)) (text : O → Option (List ℕ)) → Limits → ℕ → Option (Option Read) → Option (Option Read) → ℕ → ℕ → ℕ → Type 0 → Type 0 → Type 0 → BookState J O → List Entry → Outcome → Type 0
HasStopped seen text limits since before now turns count count_now rose rosej roseo new es Outcome.JournalFault = (new.journal.failed ≡ true) × rosej
HasStopped seen text limits since before now turns count count_now rose rosej roseo new es Outcome.OutputFault = (new.output_failed ≡ true) × roseo
HasStopped seen text limits since before now turns count count_now rose rosej roseo new es (Outcome.Full length) = AreEntriesOf seen text new es × IsFilled new.board.window limits since before now new.journal.gate (map fresh new.board.rows) length
HasStopped seen text limits since before now turns count count_now rose rosej roseo new es outcome = AreEntriesOf seen text new es × IsStopped new.board.window limits since before now turns count count_now rose es outcome

-- a follower's turns so far: the entries go on, and are those of the book
pub record HasReached {J O : Type 0} (seen : J → Option (List ℕ)) (text : O → Option (List ℕ)) (crash : J → Crash) (told : Option Feed) (before : Option (Option Read)) (old new : BookState J O) (es : List Entry) : Type 0 where
  pub mid : List Entry
  pub goes : GoOn old.board.window told before es mid
  pub crashes : IfSome (seen old.journal.disk) (λ _. CrashesLeave (HoldsSuch (GoOn old.board.window told before es)) (crash old.journal.disk) (crash new.journal.disk))
  pub entries : AreEntriesOf seen text new mid

-- A follower over each list of entries that its book held: the entries go on, rightly where those before did, and a crash at any moment leaves entries that do.
pub record HasFollowed {J O : Type 0} (seen : J → Option (List ℕ)) (text : O → Option (List ℕ)) (crash : J → Crash) (limits : Limits) (since : ℕ) (before now : Option (Option Read)) (turns count count_now : ℕ) (rose rosej roseo : Type 0) (told : Option Feed) (old new : BookState J O) (es : List Entry) (outcome : Outcome) : Type 0 where
  pub next : List Entry
  pub goes : GoOn old.board.window told before es next
  pub crashes : IfSome (seen old.journal.disk) (λ _. CrashesLeave (HoldsSuch (GoOn old.board.window told before es)) (crash old.journal.disk) (crash new.journal.disk))
  pub stops : HasStopped seen text limits since before now turns count count_now rose rosej roseo new next outcome
