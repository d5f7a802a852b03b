-- A follower's outcome behind the last sync of its output.
use Rattle.std.proofs.Common.{◌≡◌, ◌≢◌, ◌⊎◌, ℕ, ◌+◌, ◌≤◌, true, true≢false, List, map, Option, ⊎_elim, sym, ap, ◌∙◌, subst, arith}
use Rattle.std.specs.Prelude.{IfSome}
use Rattle.cs_types.specs.declared.names.Window.{Window}
use Rattle.cs_device.specs.Causes.{Rose}
use Rattle.cs_device.specs.Crash.{Crash, CrashesLeave}
use Rattle.cs_journal.specs.Rows.{limit}
use Rattle.cs_journal.specs.State.{JournalState}
use Rattle.cs_room.specs.Room.{expected_of}
use Rattle.cs_link.specs.declared.batch.Limits.{Limits}
use Rattle.cs_link.specs.declared.feed.Feed.{Feed}
use Rattle.cs_link.specs.Reading.{Read}
use Rattle.cs_schedule.specs.declared.entry.Entry.{Entry}
use Rattle.cs_schedule.specs.Board.{Shown, fresh}
use Rattle.cs_book.specs.Book.{BookState, IsRunning, AreEntriesOf}
use Rattle.cs_book.specs.Entries.{HoldsSuch}
use Rattle.cs_follow.specs.declared.outcome.Outcome.{Outcome}
use Rattle.cs_follow.specs.Carry.{IsCarrying}
use Rattle.cs_follow.specs.Cause.{IsFilled}
use Rattle.cs_follow.specs.Rightly.{StopsRightly}
use Rattle.cs_follow.specs.Still.{UnlessFailed}
use Rattle.cs_follow.specs.Turn.{GoOn, IsStopped, HasStopped, HasFollowed}

-- an outcome stays, or a fault of a disk comes in place of an end or a pause
abbrev pub IsSynced : Outcome → Type 0 → Type 0 → Outcome → Type 0
IsSynced outcome a b result = (result ≡ outcome) ⊎ (((outcome ≡ Outcome.Ended) ⊎ (outcome ≡ Outcome.Paused)) × (((result ≡ Outcome.JournalFault) × a) ⊎ ((result ≡ Outcome.OutputFault) × b)))

module _ (a b : Type 0) (outcome result : Outcome) (S : IsSynced outcome a b result) where
  -- what holds of the outcome, and of a fault of a disk
  by_sync : (P : Outcome → Type 0) → P outcome → ((outcome ≡ Outcome.Ended) ⊎ (outcome ≡ Outcome.Paused) → a → P Outcome.JournalFault) → ((outcome ≡ Outcome.Ended) ⊎ (outcome ≡ Outcome.Paused) → b → P Outcome.OutputFault) → P result
  by_sync P p f g =
      ⊎_elim
      (λ (e : result ≡ outcome). subst P (sym e) p)
      (λ (h : ((outcome ≡ Outcome.Ended) ⊎ (outcome ≡ Outcome.Paused)) × (((result ≡ Outcome.JournalFault) × a) ⊎ ((result ≡ Outcome.OutputFault) × b))).
      ⊎_elim
      (λ (j : (result ≡ Outcome.JournalFault) × a). subst P (sym j.0) (f h.0 j.1))
      (λ (j : (result ≡ Outcome.OutputFault) × b). subst P (sym j.0) (g h.0 j.1)) h.1)
      S

  pub right_synced : (f : Feed) (w : Window) (since : ℕ) (now : Option (Option Read)) (rose : Type 0) → StopsRightly f w since now rose outcome → StopsRightly f w since now rose result
  right_synced f w since now rose R = by_sync (λ o. StopsRightly f w since now rose o) R (λ d x. tt) (λ d x. tt)

  pub paused_synced : result ≡ Outcome.Paused → outcome ≡ Outcome.Paused
  paused_synced = by_sync (λ o. o ≡ Outcome.Paused → outcome ≡ Outcome.Paused) (λ is. is) (λ d x is. absurd cc) (λ d x is. absurd cc)

  -- it has no fault of the link in place of another outcome
  pub link_synced : result ≢ Outcome.LinkFault → outcome ≢ Outcome.LinkFault
  link_synced = by_sync (λ o. o ≢ Outcome.LinkFault → outcome ≢ Outcome.LinkFault) (λ h. h) (λ d x h. done d) (λ d x h. done d)
    where
      done : (outcome ≡ Outcome.Ended) ⊎ (outcome ≡ Outcome.Paused) → outcome ≢ Outcome.LinkFault
      done d is = ⊎_elim (λ (e : outcome ≡ Outcome.Ended). absurd cc) (λ (e : outcome ≡ Outcome.Paused). absurd cc) d

pub unless_synced : (a b : Type 0) (outcome result : Outcome) → IsSynced outcome a b result → (X : Type 0) → UnlessFailed outcome X → UnlessFailed result X
unless_synced a b outcome result S X h = by_sync a b outcome result S (λ o. UnlessFailed o X) h (λ d x. tt) (λ d x. tt)

pub full_synced : (a b : Type 0) (outcome result : Outcome) → IsSynced outcome a b result → ((n : ℕ) → outcome ≢ Outcome.Full n) → (n : ℕ) → result ≢ Outcome.Full n
full_synced a b outcome result S h n = by_sync a b outcome result S (λ o. o ≢ Outcome.Full n) (h n) (λ d x is. absurd cc) (λ d x is. absurd cc)

-- what is carried is so behind the last sync
pub carrying_synced : {J O : Type 0} (seen : J → Option (List ℕ)) (text : O → Option (List ℕ)) (f : Feed) (w : Window) (mid new : BookState J O) (es : List Entry) → new.journal ≡ mid.journal → ((next : List Entry) → AreEntriesOf seen text mid next → AreEntriesOf seen text new next) → IsCarrying seen text f w mid es → IsCarrying seen text f w new es
carrying_synced seen text f w mid new es journal entries I = record {
  now = I.now;
  entries = entries I.now I.entries;
  following = I.following;
  fits = subst (λ n. n + expected_of f w I.now ≤ limit) (sym (ap (λ j. j.gate) journal)) I.fits;
  least = I.least;
}

pub done_holds : (P : Type 0) (outcome : Outcome) → (outcome ≡ Outcome.Ended) ⊎ (outcome ≡ Outcome.Paused) → UnlessFailed outcome P → P
done_holds P outcome d h = ⊎_elim (λ (e : outcome ≡ Outcome.Ended). subst (λ o. UnlessFailed o P) e h) (λ (e : outcome ≡ Outcome.Paused). subst (λ o. UnlessFailed o P) e h) d

-- ---- over the book

module _ {J O : Type 0} (seen : J → Option (List ℕ)) (text : O → Option (List ℕ)) (crash : J → Crash) (jfaults : J → ℕ) (ofaults : O → ℕ) (limits : Limits) (since : ℕ) (before now : Option (Option Read)) (turns count count_now : ℕ) (rose : Type 0) (told : Option Feed) (old mid new : BookState J O)
    (board : new.board ≡ mid.board) (journal : new.journal ≡ mid.journal) (failed : mid.output_failed ≡ true → new.output_failed ≡ true) (start : ofaults old.output ≤ ofaults mid.output) (later : ofaults mid.output ≤ ofaults new.output) (es : List Entry) where
  abbrev From : Outcome → BookState J O → List Entry → Type 0
  From o book next = HasStopped seen text limits since before now turns count count_now rose (Rose (jfaults old.journal.disk) (jfaults book.journal.disk)) (Rose (ofaults old.output) (ofaults book.output)) book next o

  module _ (next : List Entry) (entries : AreEntriesOf seen text mid next → AreEntriesOf seen text new next) where
    other : (o : Outcome) → AreEntriesOf seen text mid next × IsStopped mid.board.window limits since before now turns count count_now rose next o → AreEntriesOf seen text new next × IsStopped new.board.window limits since before now turns count count_now rose next o
    other o D = (entries D.0, subst (λ (b : Shown). IsStopped b.window limits since before now turns count count_now rose next o) (sym board) D.1)

    stays : (o : Outcome) → From o mid next → From o new next
    stays Outcome.Ended D = other Outcome.Ended D
    stays Outcome.Paused D = other Outcome.Paused D
    stays (Outcome.RetentionPassed earliest) D = other (Outcome.RetentionPassed earliest) D
    stays (Outcome.Refused refusal) D = other (Outcome.Refused refusal) D
    stays Outcome.LinkFault D = other Outcome.LinkFault D
    stays (Outcome.Breach breach) D = other (Outcome.Breach breach) D
    stays (Outcome.Stalled token k) D = other (Outcome.Stalled token k) D
    stays Outcome.JournalFault D = subst (λ (j : JournalState J). (j.failed ≡ true) × Rose (jfaults old.journal.disk) (jfaults j.disk)) (sym journal) D
    stays Outcome.OutputFault D = (failed D.0, let r = D.1 in omega (arith, r, later))
    stays (Outcome.Full n) D = (
      entries D.0,
      subst (λ (j : JournalState J). IsFilled new.board.window limits since before now j.gate (map fresh new.board.rows) n) (sym journal)
          (subst (λ (b : Shown). IsFilled b.window limits since before now mid.journal.gate (map fresh b.rows) n) (sym board) D.1),
    )
    stays Outcome.Memory D = other Outcome.Memory D

  pub followed_synced : (outcome result : Outcome) → IsSynced outcome (mid.journal.failed ≡ true) ((new.output_failed ≡ true) × ((mid.output_failed ≡ true) ⊎ Rose (ofaults mid.output) (ofaults new.output))) result → UnlessFailed outcome (IsRunning mid) → ((next : List Entry) → AreEntriesOf seen text mid next → AreEntriesOf seen text new next)
      → HasFollowed seen text crash limits since before now turns count count_now rose (Rose (jfaults old.journal.disk) (jfaults mid.journal.disk)) (Rose (ofaults old.output) (ofaults mid.output)) told old mid es outcome
      → HasFollowed seen text crash limits since before now turns count count_now rose (Rose (jfaults old.journal.disk) (jfaults new.journal.disk)) (Rose (ofaults old.output) (ofaults new.output)) told old new es result
  followed_synced outcome result S runs entries H = record {
    next = H.next;
    goes = H.goes;
    crashes = subst (λ (j : JournalState J). IfSome (seen old.journal.disk) (λ _. CrashesLeave (HoldsSuch (GoOn old.board.window told before es)) (crash old.journal.disk) (crash j.disk))) (sym journal) H.crashes;
    stops = by_sync (mid.journal.failed ≡ true) ((new.output_failed ≡ true) × ((mid.output_failed ≡ true) ⊎ Rose (ofaults mid.output) (ofaults new.output))) outcome result S (λ o. From o new H.next) (stays H.next (entries H.next) outcome H.stops)
        (λ d x. let R = done_holds (IsRunning mid) outcome d runs in absurd (true≢false (sym x ∙ R.journal)))
        (λ d x. let R = done_holds (IsRunning mid) outcome d runs in
        (x.0, ⊎_elim (λ (k : mid.output_failed ≡ true). absurd (true≢false (sym k ∙ R.output))) (λ (k : Rose (ofaults mid.output) (ofaults new.output)). let l = k in omega (arith, l, start)) x.1));
  }
