-- A turn of a follower over the entries of its book.
use Rattle.std.proofs.Common.{◌≡◌, ◌≢◌, ℕ, Bool, true, false, List, [], ◌∷◌, ◌++◌, Option, None, Some, Ok, inl, inr, sym, refl, ap, ◌∙◌, subst, append-nil, true≢false}
use Rattle.std.specs.Prelude.{IfSome}
use Rattle.cs_types.specs.declared.names.Window.{Window}
use Rattle.cs_device.specs.Crash.{Crash, CrashesLeave, crashes_now, crashes_weaker}
use Rattle.cs_journal.specs.State.{IsSettled as IsJournalSettled, length_after}
use Rattle.cs_link.specs.declared.batch.Batch.{Batch}
use Rattle.cs_link.specs.declared.batch.Limits.{Limits}
use Rattle.cs_link.specs.declared.feed.Feed.{Feed}
use Rattle.cs_link.specs.Batch.{IsFaithful}
use Rattle.cs_link.specs.Honest.{IsHonestFor}
use Rattle.cs_link.specs.Reading.{Read, end_of}
use Rattle.cs_fetch.specs.declared.fault.FetchFault.{FetchFault}
use Rattle.cs_fetch.specs.declared.fault.FetchFault.TheVariants as fetch
use Rattle.cs_fetch.specs.Fetch.{Gives}
use Rattle.cs_link.specs.declared.refusal.ReadRefusal.{ReadRefusal}
use Rattle.cs_fetch.specs.Laws.{IsWellFormed}
use Rattle.cs_fetch.specs.Made.{IsMade, counted_end}
use Rattle.cs_schedule.specs.declared.entry.Entry.{Entry}
use Rattle.cs_schedule.specs.Board.{Shown, IsOrdered}
use Rattle.cs_schedule.specs.Follows.{BatchKeepsConsistent}
use Rattle.cs_schedule.specs.Spelling.{payload}
use Rattle.cs_schedule.specs.Update.{PlansOf}
use Rattle.cs_book.specs.declared.lease.Lease.{Lease}
use Rattle.cs_follow.specs.declared.outcome.Outcome.{Outcome}
use Rattle.cs_follow.specs.declared.turn.Turn.{Turn}
use Rattle.cs_follow.specs.declared.turn.Turn.TheVariants as turns
use Rattle.cs_book.specs.Book.{BookState, AreEntriesOf}
use Rattle.cs_link.specs.declared.breach.Breach.{Breach}
use Rattle.cs_book.specs.Waiting.{AreFinished, IsOrphan}
use Rattle.cs_follow.specs.Cause.{HasCause}
use Rattle.cs_follow.specs.Due.{IsLeaseOf, at_rest}
use Rattle.cs_book.specs.Entries.{HoldsEntries, HoldsSuch, with_entry}
use Rattle.cs_follow.specs.Turn.{IsAtWork, IsSettled, refused_as, ToldAs, IsStopped, IsTurn, IsIdle, IsLeft, IsPut, IsPlannedOf, HoldsOldOrPlanned, with_taken, Settles, Extends, GoOn, Does, IsTurnOver}
use Rattle.cs_follow.proofs.Causes.{no_pause, memory_turn, caught_turn, on_turn, breach_turn}
use Rattle.cs_follow.proofs.Faithful.{planned_stays, settled_stays, nothing_stays}

-- ---- entries that go on

pub same_go : (w : Window) (told : Option Feed) (present : Option (Option Read)) (es : List Entry) → GoOn w told present es es
same_go w told present es = (nothing_stays w told present es, ([], sym (append-nil es)))

pub with_grows : (es : List Entry) (o : Option Entry) → Extends es (with_entry es o)
with_grows es None = ([], sym (append-nil es))
with_grows es (Some e) = (e ∷ [], refl)

-- a crash now leaves these entries
pub quiet_goes : (w : Window) (told : Option Feed) (present : Option (Option Read)) (es : List Entry) (seen : Option (List ℕ)) (crash : Crash) (gate : ℕ) → IfSome seen (λ bytes. HoldsEntries bytes es) → IsJournalSettled seen crash gate → IfSome seen (λ _. CrashesLeave (HoldsSuch (GoOn w told present es)) crash crash)
quiet_goes w told present es None crash gate held settled = tt
quiet_goes w told present es (Some bytes) crash gate held settled = crashes_now (HoldsSuch (GoOn w told present es)) crash (λ image left. (es, subst (λ i. HoldsEntries i es) (sym (settled.durable image left)) held, same_go w told present es))

-- whether an outcome is of the book, and not of the link and the rows
abbrev pub is_of_book : Outcome → Bool
is_of_book Outcome.Ended = false
is_of_book Outcome.Paused = false
is_of_book (Outcome.RetentionPassed earliest) = false
is_of_book (Outcome.Refused refusal) = false
is_of_book Outcome.LinkFault = false
is_of_book (Outcome.Breach breach) = false
is_of_book (Outcome.Stalled token count) = false
is_of_book Outcome.JournalFault = true
is_of_book Outcome.OutputFault = true
is_of_book (Outcome.Full length) = true
is_of_book Outcome.Memory = false

refused_apart : (refusal : ReadRefusal) (o : Outcome) → refused_as refusal o → is_of_book o ≡ false
refused_apart refusal Outcome.Ended t = refl
refused_apart refusal Outcome.Paused t = refl
refused_apart refusal (Outcome.RetentionPassed earliest) t = refl
refused_apart refusal (Outcome.Refused other) t = refl
refused_apart refusal Outcome.LinkFault t = refl
refused_apart refusal (Outcome.Breach breach) t = refl
refused_apart refusal (Outcome.Stalled token count) t = refl
refused_apart refusal Outcome.JournalFault t = absurd t
refused_apart refusal Outcome.OutputFault t = absurd t
refused_apart refusal (Outcome.Full length) t = absurd t
refused_apart refusal Outcome.Memory t = refl

pub told_apart : (token : Option (List ℕ)) (fault : FetchFault) (o : Outcome) → ToldAs token fault o → is_of_book o ≡ false
told_apart token fetch.LinkFault o t = ap is_of_book t
told_apart token (fetch.Refused refusal) o t = refused_apart refusal o t
told_apart token (fetch.Breach breach) o t = ap is_of_book t
told_apart token (fetch.Stalled count) o (inl t) = ap is_of_book t
told_apart token (fetch.Stalled count) o (inr t) = ap is_of_book t
told_apart token fetch.Memory o t = ap is_of_book t

-- ---- a READ, and what becomes of its batch

module _ {J O : Type 0} (seen : J → Option (List ℕ)) (text : O → Option (List ℕ)) (crash : J → Crash) (limits : Limits) (since : ℕ) (before now : Option (Option Read)) (count count_now : ℕ) (rose rosej roseo : Type 0) (told : Option Feed) (old new : BookState J O) (es : List Entry) (lease : Lease) (A : IsAtWork old.board.window es (at_rest old.board) lease) where
  -- without a batch
  pub fault_over : (o : Outcome) → IsLeft seen text old new es → IfSome (seen old.journal.disk) (λ _. CrashesLeave (HoldsSuch (GoOn old.board.window told before es)) (crash old.journal.disk) (crash new.journal.disk))
      → Does seen text limits since before now count count_now rose rosej roseo old.board.window (at_rest old.board) new es es (turns.Stops o) → IsTurnOver seen text crash limits since before now count count_now rose rosej roseo told old.board.window (at_rest old.board) old.journal new es (turns.Stops o)
  fault_over o L quiet does = record { next = es; goes = same_go old.board.window told before es; crashes = quiet; does = does }

  -- the outcomes by which a READ without a batch is told
  pub fault_does : (o : Outcome) → IsIdle new → AreEntriesOf seen text new es → ((c : Shown) → IsTurn old.board.window limits since before now count count_now rose es (at_rest old.board) es c (turns.Stops o)) → is_of_book o ≡ false → Does seen text limits since before now count count_now rose rosej roseo old.board.window (at_rest old.board) new es es (turns.Stops o)
  fault_does Outcome.Ended I E t f = (I, E, t (at_rest new.board))
  fault_does Outcome.Paused I E t f = (I, E, t (at_rest new.board))
  fault_does (Outcome.RetentionPassed earliest) I E t f = (I, E, t (at_rest new.board))
  fault_does (Outcome.Refused refusal) I E t f = (I, E, t (at_rest new.board))
  fault_does Outcome.LinkFault I E t f = (I, E, t (at_rest new.board))
  fault_does (Outcome.Breach breach) I E t f = (I, E, t (at_rest new.board))
  fault_does (Outcome.Stalled token k) I E t f = (I, E, t (at_rest new.board))
  fault_does Outcome.JournalFault I E t f = absurd (true≢false f)
  fault_does Outcome.OutputFault I E t f = absurd (true≢false f)
  fault_does (Outcome.Full n) I E t f = absurd (true≢false f)
  fault_does Outcome.Memory I E t f = (I, E, t (at_rest new.board))

  -- with a batch
  module _ (x : Batch) (M : IsMade lease.args lease.known limits since before now (Gives x)) (counts : count_now ≡ counted_end count x.ending) (W : IsWellFormed lease.args lease.known x) (keeps : BatchKeepsConsistent) (honest : IsHonestFor old.board.window.stream told before → (f : Feed) → told ≡ Some f → IsFaithful f (end_of lease.args) lease.known x) where
    planned_goes : (e : Entry) → IsPlannedOf (at_rest old.board) x es e → GoOn old.board.window told before es (es ++ e ∷ [])
    planned_goes e P = (
      planned_stays old.board.window es (at_rest old.board) lease A x W keeps told before honest (Some e) (with_taken (at_rest old.board) e) P.plans P.in_format refl P.board (λ y i. (y, i, refl)),
      (e ∷ [], refl),
    )

    -- a crash leaves entries that go on
    batch_crash : IfSome (seen old.journal.disk) (λ _. CrashesLeave (HoldsOldOrPlanned (at_rest old.board) x es) (crash old.journal.disk) (crash new.journal.disk)) → IfSome (seen old.journal.disk) (λ _. CrashesLeave (HoldsSuch (GoOn old.board.window told before es)) (crash old.journal.disk) (crash new.journal.disk))
    batch_crash left = by (seen old.journal.disk) left
      where
        weaker : (image : List ℕ) → HoldsOldOrPlanned (at_rest old.board) x es image → HoldsSuch (GoOn old.board.window told before es) image
        weaker image (inl h) = (es, h, same_go old.board.window told before es)
        weaker image (inr h) = (es ++ h.0 ∷ [], h.2, planned_goes h.0 h.1)

        by : (s : Option (List ℕ)) → IfSome s (λ _. CrashesLeave (HoldsOldOrPlanned (at_rest old.board) x es) (crash old.journal.disk) (crash new.journal.disk)) → IfSome s (λ _. CrashesLeave (HoldsSuch (GoOn old.board.window told before es)) (crash old.journal.disk) (crash new.journal.disk))
        by None h = tt
        by (Some bytes) h = crashes_weaker (HoldsOldOrPlanned (at_rest old.board) x es) (HoldsSuch (GoOn old.board.window told before es)) (crash old.journal.disk) (crash new.journal.disk) weaker h

    put_over : (caught_up : Bool) (t : Turn) → IsPut seen text old new es x caught_up → IfSome (seen old.journal.disk) (λ _. CrashesLeave (HoldsOldOrPlanned (at_rest old.board) x es) (crash old.journal.disk) (crash new.journal.disk))
        → ((next : List Entry) → IsIdle new → AreEntriesOf seen text new next → IsSettled old.board.window es (at_rest old.board) x next (at_rest new.board) caught_up → Does seen text limits since before now count count_now rose rosej roseo old.board.window (at_rest old.board) new es next t)
        → IsTurnOver seen text crash limits since before now count count_now rose rosej roseo told old.board.window (at_rest old.board) old.journal new es t
    put_over caught_up t P left does = record {
      next = P.now;
      goes = (
        settled_stays old.board.window es (at_rest old.board) lease A x W keeps told before honest P.now (at_rest new.board) caught_up P.settled,
        subst (Extends es) (sym P.settled.entries) (with_grows es P.settled.planned),
      );
      crashes = batch_crash left;
      does = does P.now P.idle P.entries P.settled;
    }

    stop_over : (t : Turn) → IfSome (seen old.journal.disk) (λ _. CrashesLeave (HoldsOldOrPlanned (at_rest old.board) x es) (crash old.journal.disk) (crash new.journal.disk)) → Does seen text limits since before now count count_now rose rosej roseo old.board.window (at_rest old.board) new es es t → IsTurnOver seen text crash limits since before now count count_now rose rosej roseo told old.board.window (at_rest old.board) old.journal new es t
    stop_over t left does = record { next = es; goes = same_go old.board.window told before es; crashes = batch_crash left; does = does }

    pub batch_over : (t : Turn) → Settles seen text rosej roseo old new es x t → IfSome (seen old.journal.disk) (λ _. CrashesLeave (HoldsOldOrPlanned (at_rest old.board) x es) (crash old.journal.disk) (crash new.journal.disk)) → IsTurnOver seen text crash limits since before now count count_now rose rosej roseo told old.board.window (at_rest old.board) old.journal new es t
    batch_over (turns.Stops Outcome.Ended) S left = absurd S
    batch_over (turns.Stops Outcome.Paused) S left = absurd S
    batch_over (turns.Stops (Outcome.RetentionPassed earliest)) S left = absurd S
    batch_over (turns.Stops (Outcome.Refused refusal)) S left = absurd S
    batch_over (turns.Stops Outcome.LinkFault) S left = absurd S
    batch_over (turns.Stops (Outcome.Stalled token k)) S left = absurd S
    batch_over (turns.Stops (Outcome.Breach breach)) S left =
        stop_over (turns.Stops (Outcome.Breach breach)) left (S.0.idle, S.0.entries, breach_turn old.board.window limits since before now count count_now rose es (at_rest old.board) lease A x M counts es (at_rest new.board) breach refl S.1)
    batch_over (turns.Stops (Outcome.Full n)) S left =
        stop_over (turns.Stops (Outcome.Full n)) left (
          S.0.idle,
          S.0.entries,
          record {
            lease = lease;
            due = subst (λ l. IsLeaseOf old.board.window l lease) (sym S.0.rows) A.of;
            batch = x;
            made = M;
            entry = S.1.0;
            plans = subst (λ l. PlansOf l x x.token (Ok (Some S.1.0))) (sym S.0.rows) S.1.1;
            is = S.1.2 ∙ ap (λ g. length_after g (payload S.1.0)) (sym S.0.gate);
            above = S.1.3;
          },
        )
    batch_over (turns.Stops Outcome.Memory) S left = stop_over (turns.Stops Outcome.Memory) left (S.idle, S.entries, memory_turn old.board.window limits since before now count count_now rose es (at_rest old.board) lease A es (at_rest new.board) refl)
    batch_over (turns.Stops Outcome.JournalFault) S left = stop_over (turns.Stops Outcome.JournalFault) left S
    batch_over (turns.Stops Outcome.OutputFault) S left = stop_over (turns.Stops Outcome.OutputFault) left S
    batch_over turns.CaughtUp S left = put_over true turns.CaughtUp S left (λ next I E T. (I, E, caught_turn old.board.window limits since before now count count_now rose es (at_rest old.board) lease A x M counts next (at_rest new.board) T))
    batch_over turns.On S left = put_over false turns.On S left (λ next I E T. (I, E, on_turn old.board.window limits since before now count count_now rose es (at_rest old.board) lease A x M counts next (at_rest new.board) T))

-- ---- a turn without a READ

module _ {J O : Type 0} (seen : J → Option (List ℕ)) (text : O → Option (List ℕ)) (crash : J → Crash) (limits : Limits) (since : ℕ) (before : Option (Option Read)) (count : ℕ) (rose rosej roseo : Type 0) (told : Option Feed) (b : Shown) (book : BookState J O) (es : List Entry) (I : IsIdle book) (E : AreEntriesOf seen text book es) (quiet : IfSome (seen book.journal.disk) (λ _. CrashesLeave (HoldsSuch (GoOn book.board.window told before es)) (crash book.journal.disk) (crash book.journal.disk))) where
  stopped_here : (n : ℕ) (o : Outcome) → IsOrdered book.board.rows → HasCause book.board.window limits since before before n count count rose book.board.rows o → IsStopped book.board.window limits since before before n count count rose es o
  stopped_here n o ordered h = record { board = book.board; window = refl; of = E.rows; ordered = ordered; free = I.free; cause = h }

  here_over : (t : Turn) → Does seen text limits since before before count count rose rosej roseo book.board.window b book es es t → IsTurnOver seen text crash limits since before before count count rose rosej roseo told book.board.window b book.journal book es t
  here_over t does = record { next = es; goes = same_go book.board.window told before es; crashes = quiet; does = does }

  pub ended_over : IsOrdered book.board.rows → book.board.rows ≢ [] → AreFinished book.board.rows → IsTurnOver seen text crash limits since before before count count rose rosej roseo told book.board.window b book.journal book es (turns.Stops Outcome.Ended)
  ended_over ordered some finished = here_over (turns.Stops Outcome.Ended) (I, E, (refl, λ n. (no_pause Outcome.Ended refl, stopped_here n Outcome.Ended ordered (some, finished))))

  pub orphan_over : (row parent : List ℕ) → IsOrdered book.board.rows → IsOrphan book.board.rows row parent → IsTurnOver seen text crash limits since before before count count rose rosej roseo told book.board.window b book.journal book es (turns.Stops (Outcome.Breach (Breach.Orphan row parent)))
  orphan_over row parent ordered waits = here_over (turns.Stops (Outcome.Breach (Breach.Orphan row parent))) (I, E, (refl, λ n. (no_pause (Outcome.Breach (Breach.Orphan row parent)) refl, stopped_here n (Outcome.Breach (Breach.Orphan row parent)) ordered (inr (inr waits)))))
