-- With which statuses a follower stops.
use Rattle.std.proofs.Common.{◌≡◌, ◌≢◌, ℕ, List, Option, Some, None, refl, sym, subst}
use Rattle.std.specs.Prelude.{IfSome, ⊤}
use Rattle.cs_device.specs.Crash.{Crash, LeavesOnly}
use Rattle.cs_link.specs.declared.batch.Limits.{Limits}
use Rattle.cs_link.specs.Causes.{Rose}
use Rattle.cs_link.specs.Reading.{Read}
use Rattle.cs_schedule.specs.declared.entry.Entry.{Entry}
use Rattle.cs_book.specs.Book.{BookState}
use Rattle.cs_follow.specs.declared.outcome.Outcome.{Outcome}
use Rattle.cs_follow.specs.Still.{WhereDone}
use Rattle.cs_follow.specs.Turn.{HasStopped}
use Rattle.cs_tool.specs.Following.{IsSaidOf, IsFollowStatus}
use Rattle.cs_tool.specs.Journal.{IsDurable}
use Rattle.cs_tool.specs.declared.status.Status.{Status}
use Rattle.cs_tool.proofs.Followed.{not_rose}

-- never since the link failed, nor since records added nothing
module _ {J O : Type 0} (seen : J → Option (List ℕ)) (text : O → Option (List ℕ)) (limits : Limits) (since : ℕ) (before now : Option (Option Read)) (turns count count_now : ℕ) (rosej roseo : Type 0) (new : BookState J O) (es : List Entry) where
  pub follow_status : (o : Outcome) (status : Status) → IsSaidOf o status → HasStopped seen text limits since before now turns count count_now (Rose 0 0) rosej roseo new es o → ((token : Option (List ℕ)) (k : ℕ) → o ≢ Outcome.Stalled token k) → IsFollowStatus status
  follow_status Outcome.Ended status e S never = subst IsFollowStatus (sym e) tt
  follow_status Outcome.Paused status e S never = subst IsFollowStatus (sym e) tt
  follow_status (Outcome.RetentionPassed earliest) status e S never = subst IsFollowStatus (sym e) tt
  follow_status (Outcome.Refused refusal) status e S never = subst IsFollowStatus (sym e) tt
  follow_status Outcome.LinkFault status e S never = absurd (not_rose S.1.cause)
  follow_status (Outcome.Breach breach) status e S never = subst IsFollowStatus (sym e) tt
  follow_status (Outcome.Stalled token k) status e S never = absurd (never token k refl)
  follow_status Outcome.JournalFault status e S never = subst IsFollowStatus (sym e) tt
  follow_status Outcome.OutputFault status e S never = subst IsFollowStatus (sym e) tt
  follow_status (Outcome.Full length) status e S never = subst IsFollowStatus (sym e) tt
  follow_status Outcome.Memory status e S never = subst IsFollowStatus (sym e) tt

-- ---- what a crash leaves of the output

-- an object that did not tell its bytes does not tell them now
told_before : (crash : Crash) (old new : Option (List ℕ)) → (old ≡ None → new ≡ None) → IfSome old (λ _. IfSome new (LeavesOnly crash)) → IfSome new (LeavesOnly crash)
told_before crash None None silent h = tt
told_before crash None (Some bytes) silent h = let none : Some bytes ≡ None = silent refl in absurd cc
told_before crash (Some bytes) new silent h = h

pub durable_so : (old new : Option (List ℕ)) (crash : Crash) → (old ≡ None → new ≡ None) → (o : Outcome) (status : Status) → IsSaidOf o status → WhereDone o (IfSome old (λ _. IfSome new (LeavesOnly crash))) → IsDurable new crash status
durable_so old new crash silent Outcome.Ended status e h = subst (IsDurable new crash) (sym e) (told_before crash old new silent h)
durable_so old new crash silent Outcome.Paused status e h = subst (IsDurable new crash) (sym e) (told_before crash old new silent h)
durable_so old new crash silent (Outcome.RetentionPassed earliest) status e h = subst (IsDurable new crash) (sym e) tt
durable_so old new crash silent (Outcome.Refused refusal) status e h = subst (IsDurable new crash) (sym e) tt
durable_so old new crash silent Outcome.LinkFault status e h = subst (IsDurable new crash) (sym e) tt
durable_so old new crash silent (Outcome.Breach breach) status e h = subst (IsDurable new crash) (sym e) tt
durable_so old new crash silent (Outcome.Stalled token k) status e h = subst (IsDurable new crash) (sym e) tt
durable_so old new crash silent Outcome.JournalFault status e h = subst (IsDurable new crash) (sym e) tt
durable_so old new crash silent Outcome.OutputFault status e h = subst (IsDurable new crash) (sym e) tt
durable_so old new crash silent (Outcome.Full length) status e h = subst (IsDurable new crash) (sym e) tt
durable_so old new crash silent Outcome.Memory status e h = subst (IsDurable new crash) (sym e) tt
