-- Why a follower stops: the cause of each outcome, over the rows of the board as it stands. This project's own.
use Rattle.std.specs.Prelude.{◌≡◌, ◌≢◌, ◌⊎◌, ◌<◌, ℕ, zero, suc, Bool, true, false, List, [], Option, Some, Ok, Err, ⊤}
use Rattle.cs_types.specs.declared.names.Window.{Window}
use Rattle.cs_link.specs.declared.batch.Batch.{Batch}
use Rattle.cs_link.specs.declared.batch.Ending.{Ending}
use Rattle.cs_link.specs.declared.batch.Limits.{Limits}
use Rattle.cs_link.specs.declared.breach.Breach.{Breach}
use Rattle.cs_link.specs.declared.refusal.ReadRefusal.{ReadRefusal}
use Rattle.cs_link.specs.Causes.{one_more}
use Rattle.cs_link.specs.Reading.{Read}
use Rattle.cs_fetch.specs.Fetch.{Gives, Breaks, Stalls}
use Rattle.cs_fetch.specs.Made.{Presents, WasRefused, IsMade, IsBadLine}
use Rattle.cs_journal.specs.Rows.{limit}
use Rattle.cs_journal.specs.State.{length_after}
use Rattle.cs_schedule.specs.declared.entry.Entry.{Entry}
use Rattle.cs_schedule.specs.declared.plan.PlanFault.TheVariants as faults
use Rattle.cs_schedule.specs.declared.row.Row.{Row}
use Rattle.cs_schedule.specs.Spelling.{payload}
use Rattle.cs_schedule.specs.Update.{PlansOf}
use Rattle.cs_book.specs.declared.lease.Lease.{Lease}
use Rattle.cs_follow.specs.declared.outcome.Outcome.{Outcome}
use Rattle.cs_follow.specs.Due.{IsLeaseOf}
use Rattle.cs_book.specs.Waiting.{AreFinished, IsOrphan}

-- a count of 64 bits after so many more: it stands still at its last value
abbrev pub raised : ℕ → ℕ → ℕ
raised zero count = count
raised (suc n) count = one_more (raised n count)

-- whether a refusal says that the start is no longer kept
abbrev pub is_too_old : ReadRefusal → Bool
is_too_old ReadRefusal.UnknownFunction = false
is_too_old (ReadRefusal.ArgumentType name) = false
is_too_old (ReadRefusal.ArgumentMissing name) = false
is_too_old ReadRefusal.ReadOptions = false
is_too_old ReadRefusal.Heartbeat = false
is_too_old ReadRefusal.EndBeforeStart = false
is_too_old ReadRefusal.StartBeforeCreation = false
is_too_old (ReadRefusal.StartTooOld earliest) = true
is_too_old (ReadRefusal.StartInFuture at) = false
is_too_old ReadRefusal.UnknownToken = false
is_too_old (ReadRefusal.StartBeforePartition from) = false
is_too_old (ReadRefusal.StartPastPartition until) = false
is_too_old (ReadRefusal.Syntax place) = false
is_too_old (ReadRefusal.Wire status) = false

-- the rows have none of whose parents all are finished and that may be read, and the first unfinished one waits for this parent
abbrev pub IsOrphanBreach : List Row → Breach → Type 0
IsOrphanBreach rows (Breach.Orphan row parent) = IsOrphan rows row parent
IsOrphanBreach rows _ = ⊥

-- READs of a window, with these limits, of a link whose moment was `since` at the start, and which tells of its present READ this at the start and that now
module _ (w : Window) (limits : Limits) (since : ℕ) (before now : Option (Option Read)) where
  -- the present READ is due, and was refused so
  abbrev pub IsRefused : List Row → ReadRefusal → Type 0
  IsRefused rows refusal = (lease : Lease) × IsLeaseOf w rows lease × Presents before now (WasRefused lease.args refusal)

  -- the present READ is due, and has what no server may answer, among its steps or in a line
  abbrev pub IsBroken : List Row → Breach → Type 0
  IsBroken rows breach = (lease : Lease) × IsLeaseOf w rows lease × (IsMade lease.args lease.known limits since before now (Breaks breach) ⊎ IsBadLine lease.args lease.known limits since before now breach)

  -- the present READ is due, and its batch cannot be that of an honest server, as the rows show
  abbrev pub IsRejected : List Row → Breach → Type 0
  IsRejected rows breach = (lease : Lease) × IsLeaseOf w rows lease × ((batch : Batch) × IsMade lease.args lease.known limits since before now (Gives batch) × PlansOf rows batch batch.token (Err (faults.Breach breach)))

  -- the present READ is due, and so many of its records in a row added nothing
  abbrev pub HasStalled : List Row → Option (List ℕ) → ℕ → Type 0
  HasStalled rows token count = (lease : Lease) × IsLeaseOf w rows lease × (token ≡ lease.args.token) × (count ≡ 8192) × IsMade lease.args lease.known limits since before now Stalls

  -- the present READ is one of the stream up to the window's end, and caught up with a moment before it
  pub record HasCaughtUp : Type 0 where
    pub lease : Lease
    pub stream : lease.args.stream ≡ w.stream
    pub end : lease.args.end ≡ Some w.end
    pub batch : Batch
    pub made : IsMade lease.args lease.known limits since before now (Gives batch)
    pub moment : ℕ
    pub ending : batch.ending ≡ Ending.CaughtUp moment
    pub below : moment < w.end

  -- the cause of each outcome: after so many turns, where the link's count of READs that caught up was one number and is the other now; `rose` says that the link failed
  abbrev pub HasCause : ℕ → ℕ → ℕ → Type 0 → List Row → Outcome → Type 0
  HasCause turns count count_now rose rows Outcome.Ended = (rows ≢ []) × AreFinished rows
  HasCause turns count count_now rose rows Outcome.Paused = (count_now ≡ raised turns count) × HasCaughtUp
  HasCause turns count count_now rose rows (Outcome.RetentionPassed earliest) = IsRefused rows (ReadRefusal.StartTooOld earliest)
  HasCause turns count count_now rose rows (Outcome.Refused refusal) = (is_too_old refusal ≡ false) × IsRefused rows refusal
  HasCause turns count count_now rose rows Outcome.LinkFault = rose
  HasCause turns count count_now rose rows (Outcome.Breach breach) = IsBroken rows breach ⊎ (IsRejected rows breach ⊎ IsOrphanBreach rows breach)
  HasCause turns count count_now rose rows (Outcome.Stalled token most) = HasStalled rows token most
  -- a fault of a disk, and a full journal, have no cause in the link and the rows
  HasCause turns count count_now rose rows Outcome.JournalFault = ⊥
  HasCause turns count count_now rose rows Outcome.OutputFault = ⊥
  HasCause turns count count_now rose rows (Outcome.Full length) = ⊥
  HasCause turns count count_now rose rows Outcome.Memory = ⊤

  -- the present READ is due, and with the entry that is planned of its batch the journal, whose closed gate is at this place, would have so many bytes, more than its limit
  pub record IsFilled (gate : ℕ) (rows : List Row) (length : ℕ) : Type 0 where
    pub lease : Lease
    pub due : IsLeaseOf w rows lease
    pub batch : Batch
    pub made : IsMade lease.args lease.known limits since before now (Gives batch)
    pub entry : Entry
    pub plans : PlansOf rows batch batch.token (Ok (Some entry))
    pub is : length ≡ length_after gate (payload entry)
    pub above : limit < length
