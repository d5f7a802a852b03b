-- A follower over an honest link whose heartbeats are paced carries on: its entries fit in, and the least start does not fall.
use Rattle.std.proofs.Common.{◌≡◌, ◌≢◌, ℕ, ◌+◌, ◌-◌, ◌^◌, ◌<◌, ◌≤◌, min, Bool, true, false, true≢false, List, [], ◌∷◌, ◌++◌, length, Option, None, Some, Ok, inl, inr, sym, refl, ap, ◌∙◌, subst, arith}
use Rattle.std.specs.Prelude.{IfSome}
use Rattle.cs_types.specs.declared.names.Window.{Window}
use Rattle.cs_link.specs.declared.batch.Batch.{Batch}
use Rattle.cs_link.specs.declared.feed.Feed.{Feed}
use Rattle.cs_link.specs.Batch.{IsFaithful}
use Rattle.cs_link.specs.Honest.{IsHonestFor}
use Rattle.cs_link.specs.Pace.{BringsOn, pace}
use Rattle.cs_link.specs.Reading.{Read, end_of}
use Rattle.cs_fetch.specs.Laws.{IsWellFormed}
use Rattle.cs_journal.specs.Rows.{limit}
use Rattle.cs_schedule.specs.declared.entry.Entry.{Entry}
use Rattle.cs_schedule.specs.Follows.{IsBoardOf, IsFollowed, BatchKeepsConsistent}
use Rattle.cs_schedule.specs.Rows.{rows_of}
use Rattle.cs_schedule.specs.Spelling.{payload, IsInFormat}
use Rattle.cs_schedule.specs.Update.{PlansOf}
use Rattle.cs_room.specs.Room.{expected_of, low}
use Rattle.cs_room.specs.Laws.{BringsRowsOn, IsPlanned, IsCarried, ReadBringsOn, FirstBringsOn, EntryIsCarried, LowStays}
use Rattle.cs_book.specs.declared.lease.Lease.{Lease}
use Rattle.cs_book.specs.Book.{BookState, AreEntriesOf}
use Rattle.cs_book.specs.Entries.{with_entry, gate_after}
use Rattle.cs_follow.specs.declared.outcome.Outcome.{Outcome}
use Rattle.cs_follow.specs.declared.turn.Turn.{Turn}
use Rattle.cs_follow.specs.declared.turn.Turn.TheVariants as turns
use Rattle.cs_follow.specs.Carry.{CanCarry, IsCarrying}
use Rattle.cs_follow.specs.Due.{IsLeaseOf, at_rest}
use Rattle.cs_follow.specs.Own.{AreFollowing}
use Rattle.cs_follow.specs.Still.{BehindTurn}
use Rattle.cs_follow.specs.Turn.{IsAtWork, IsLeft, IsPut, Settles}
use Rattle.cs_follow.proofs.Faithful.{may_come, planned_follows}
use Rattle.cs_follow.proofs.RowLemmas.{row_at}
use Rattle.cs_follow.proofs.Still.{behind_all, behind_from}
use Rattle.cs_follow.proofs.TurnOver.{is_of_book}

-- ---- numbers

full_never : (g k n : ℕ) → n ≡ min (g + 6 + k) (2 ^ 64 - 1) → limit < n → g + (6 + k) ≤ limit → ⊥
full_never g k n is above fits = omega (arith, is, above, fits)

carry_sum : (g h k n most : ℕ) → h ≡ g + 5 + k → (g + (5 + k)) + n ≤ most → h + n ≤ most
carry_sum g h k n most is fits = omega (arith, is, fits)

same_sum : (g h n most : ℕ) → h ≡ g → g + n ≤ most → h + n ≤ most
same_sum g h n most is fits = omega (arith, is, fits)

pub from_least : (a b c : ℕ) → a ≤ b → b ≤ c → a ≤ c
from_least a b c h k = omega (arith, h, k)

-- ---- a turn that adds nothing

pub left_carrying : {J O : Type 0} (seen : J → Option (List ℕ)) (text : O → Option (List ℕ)) (f : Feed) (w : Window) (gate : ℕ) (new : BookState J O) (es : List Entry) → AreEntriesOf seen text new es → new.journal.gate ≡ gate → AreFollowing f w es → gate + expected_of f w es ≤ limit → IsCarrying seen text f w new es
left_carrying seen text f w gate new es E same before fits = record {
  now = es;
  entries = E;
  following = before;
  fits = same_sum gate new.journal.gate (expected_of f w es) limit same fits;
  least = omega arith;
}

-- which does not stop for a full journal
abbrev pub Carries : {J O : Type 0} (seen : J → Option (List ℕ)) (text : O → Option (List ℕ)) → Feed → Window → BookState J O → List Entry → Turn → Type 0
Carries seen text f w new es t = BehindTurn t (IsCarrying seen text f w new es) × ((n : ℕ) → t ≢ turns.Stops (Outcome.Full n))

of_book : Turn → Bool
of_book (turns.Stops o) = is_of_book o
of_book turns.CaughtUp = false
of_book turns.On = false

not_full : (t : Turn) → of_book t ≡ false → (n : ℕ) → t ≢ turns.Stops (Outcome.Full n)
unfolding of_book
not_full t apart n is = true≢false (sym (ap of_book is) ∙ apart)

pub stop_carries : {J O : Type 0} (seen : J → Option (List ℕ)) (text : O → Option (List ℕ)) (f : Feed) (w : Window) (new : BookState J O) (es : List Entry) (o : Outcome) → is_of_book o ≡ false → IsCarrying seen text f w new es → Carries seen text f w new es (turns.Stops o)
unfolding of_book
stop_carries seen text f w new es o apart C = (behind_all (turns.Stops o) C, not_full (turns.Stops o) apart)

-- ---- a batch

module _ {J O : Type 0} (seen : J → Option (List ℕ)) (text : O → Option (List ℕ)) (rosej roseo : Type 0) (old new : BookState J O) (es : List Entry) (lease : Lease) (A : IsAtWork old.board.window es (at_rest old.board) lease) (x : Batch) (W : IsWellFormed lease.args lease.known x) (keeps : BatchKeepsConsistent)
    (f : Feed) (faithful : IsFaithful f (end_of lease.args) lease.known x) (brings : BringsOn (pace lease.args) lease.known x) (reads : ReadBringsOn) (firsts : FirstBringsOn) (carried : EntryIsCarried) (stays : LowStays) (followed : IsFollowed f old.board.window) (before : AreFollowing f old.board.window es) (fits : old.journal.gate + expected_of f old.board.window es ≤ limit) where
  planned_is : (e : Entry) → PlansOf (at_rest old.board).rows x x.token (Ok (Some e)) → IsInFormat e → IsPlanned f es (at_rest old.board) x e
  planned_is e plans form = record {
    coming = record { followed = followed; board = A.afoot.board; consistent = before.consistent; comes = may_come old.board.window es (at_rest old.board) lease A x W keeps f faithful };
    plans = plans;
    in_format = form;
  }

  rows_on : BringsRowsOn (at_rest old.board).rows x
  rows_on = by A.of
    where
      by : IsLeaseOf old.board.window (at_rest old.board).rows lease → BringsRowsOn (at_rest old.board).rows x
      by (inl h) = firsts (at_rest old.board).rows x (W.token ∙ ap (λ (l : Lease). l.args.token) h.1)
      by (inr h) =
          let r = h.0 in
          reads f (at_rest old.board).rows (end_of lease.args) r r.token x (W.token ∙ ap (λ (l : Lease). l.args.token) h.2) (row_at (at_rest old.board).rows r.token r A.afoot.ordered h.1.there refl)
          (subst (λ (l : Lease). IsFaithful f (end_of lease.args) l.known x) h.2 faithful) (subst (λ (l : Lease). BringsOn (pace l.args) l.known x) h.2 brings)

  step : (e : Entry) → PlansOf (at_rest old.board).rows x x.token (Ok (Some e)) → IsInFormat e → IsCarried f old.board.window es e old.journal.gate limit
  step e plans form = carried f es (at_rest old.board) x e old.journal.gate limit (planned_is e plans form) rows_on fits

  put_carries : (caught_up : Bool) → IsPut seen text old new es x caught_up → IsCarrying seen text f old.board.window new es
  put_carries caught_up P = by P.settled.planned refl
    where
      follows : AreFollowing f old.board.window P.now
      follows = subst (AreFollowing f old.board.window) (sym P.settled.entries)
          (planned_follows old.board.window es (at_rest old.board) lease A x W keeps f faithful P.settled.planned (at_rest new.board) P.settled.plans P.settled.in_format P.settled.afoot.window (subst (λ l. IsBoardOf l (at_rest new.board)) P.settled.entries P.settled.afoot.board) P.settled.rows followed before)

      by : (o : Option Entry) → P.settled.planned ≡ o → IsCarrying seen text f old.board.window new es
      by None q =
          let is : P.now ≡ es = P.settled.entries ∙ ap (with_entry es) q in
          record {
            now = P.now;
            entries = P.entries;
            following = follows;
            fits = subst (λ l. new.journal.gate + expected_of f old.board.window l ≤ limit) (sym is) (same_sum old.journal.gate new.journal.gate (expected_of f old.board.window es) limit (P.gate ∙ ap (gate_after old.journal.gate) q) fits);
            least = subst (λ l. low old.board.window (rows_of old.board.window.start es) ≤ low old.board.window (rows_of old.board.window.start l)) (sym is) (omega arith);
          }
      by (Some e) q =
          let is : P.now ≡ es ++ e ∷ [] = P.settled.entries ∙ ap (with_entry es) q in
          let plans = subst (λ o. PlansOf (at_rest old.board).rows x x.token (Ok o)) q P.settled.plans in
          let form = subst (λ o. IfSome o IsInFormat) q P.settled.in_format in
          record {
            now = P.now;
            entries = P.entries;
            following = follows;
            fits = subst (λ l. new.journal.gate + expected_of f old.board.window l ≤ limit) (sym is)
                (carry_sum old.journal.gate new.journal.gate (length (payload e)) (expected_of f old.board.window (es ++ e ∷ [])) limit (P.gate ∙ ap (gate_after old.journal.gate) q) (step e plans form).goes_on);
            least = subst (λ l. low old.board.window (rows_of old.board.window.start es) ≤ low old.board.window (rows_of old.board.window.start l)) (sym is) (stays f es (at_rest old.board) x e (planned_is e plans form));
          }

  quiet_carries : IsLeft seen text old new es → IsCarrying seen text f old.board.window new es
  quiet_carries L = left_carrying seen text f old.board.window old.journal.gate new es L.entries L.gate before fits

  pub batch_carries : (t : Turn) → Settles seen text rosej roseo old new es x t → Carries seen text f old.board.window new es t
  unfolding of_book
  batch_carries (turns.Stops Outcome.Ended) S = absurd S
  batch_carries (turns.Stops Outcome.Paused) S = absurd S
  batch_carries (turns.Stops (Outcome.RetentionPassed earliest)) S = absurd S
  batch_carries (turns.Stops (Outcome.Refused refusal)) S = absurd S
  batch_carries (turns.Stops Outcome.LinkFault) S = absurd S
  batch_carries (turns.Stops (Outcome.Stalled token k)) S = absurd S
  batch_carries (turns.Stops (Outcome.Breach breach)) S = stop_carries seen text f old.board.window new es (Outcome.Breach breach) refl (quiet_carries S.0)
  batch_carries (turns.Stops (Outcome.Full n)) S = absurd (full_never old.journal.gate (length (payload S.1.0)) n S.1.2 S.1.3 (step S.1.0 S.1.1 S.1.4).fits)
  batch_carries (turns.Stops Outcome.Memory) S = stop_carries seen text f old.board.window new es Outcome.Memory refl (quiet_carries S)
  batch_carries (turns.Stops Outcome.JournalFault) S = (tt, λ n is. absurd cc)
  batch_carries (turns.Stops Outcome.OutputFault) S = (tt, λ n is. absurd cc)
  batch_carries turns.CaughtUp S = (put_carries true S, not_full turns.CaughtUp refl)
  batch_carries turns.On S = (put_carries false S, not_full turns.On refl)

-- ---- from turn to turn

-- behind a claim
pub claimed_carries : {J O : Type 0} (seen : J → Option (List ℕ)) (text : O → Option (List ℕ)) (f : Feed) (new : BookState J O) (w v : Window) (gate gate_now : ℕ) (since : ℕ) (feeds : List ℕ → Option Feed) (present : Option (Option Read)) (paced : Type 0) (es : List Entry) (t : Turn) → v ≡ w → gate_now ≡ gate
    → (CanCarry f v since (feeds v.stream) present paced gate_now es → Carries seen text f v new es t) → CanCarry f w since (feeds w.stream) present paced gate es → Carries seen text f w new es t
claimed_carries seen text f new w v gate gate_now since feeds present paced es t window same goes C =
    subst (λ u. Carries seen text f u new es t) window
    (goes (subst (λ u. CanCarry f u since (feeds u.stream) present paced gate_now es) (sym window) (subst (λ n. CanCarry f w since (feeds w.stream) present paced n es) (sym same) C)))

-- a turn more, over the entries that are carried so far
pub carry_next : {J O : Type 0} (seen : J → Option (List ℕ)) (text : O → Option (List ℕ)) (f : Feed) (w : Window) (since later : ℕ) (told told_now : Option Feed) (present now : Option (Option Read)) (paced paced_now : Type 0) (gate : ℕ) (book : BookState J O) (es : List Entry) → since ≤ later → told_now ≡ told → (IsHonestFor w.stream told present → IsHonestFor w.stream told_now now) → (paced → paced_now)
    → CanCarry f w since told present paced gate es → (I : IsCarrying seen text f w book es) → CanCarry f w later told_now now paced_now book.journal.gate I.now
carry_next seen text f w since later told told_now present now paced paced_now gate book es early same stays goes C I = record {
  followed = C.followed;
  tells = same ∙ C.tells;
  honest = stays C.honest;
  at_pace = goes C.at_pace;
  moment = let m = C.moment in omega (arith, m, early);
  following = I.following;
  fits = I.fits;
}

pub carry_on : {J O : Type 0} (seen : J → Option (List ℕ)) (text : O → Option (List ℕ)) (f : Feed) (w : Window) (book new : BookState J O) (es : List Entry) (I : IsCarrying seen text f w book es) → IsCarrying seen text f w new I.now → IsCarrying seen text f w new es
carry_on seen text f w book new es I C = record { now = C.now; entries = C.entries; following = C.following; fits = C.fits; least = from_least _ _ _ I.least C.least }

pub carry_start : {J O : Type 0} (seen : J → Option (List ℕ)) (text : O → Option (List ℕ)) (f : Feed) (w : Window) (since : ℕ) (told : Option Feed) (present : Option (Option Read)) (paced : Type 0) (gate : ℕ) (book : BookState J O) (es : List Entry) → book.journal.gate ≡ gate → AreEntriesOf seen text book es → CanCarry f w since told present paced gate es → IsCarrying seen text f w book es
carry_start seen text f w since told present paced gate book es same E C = left_carrying seen text f w gate book es E same C.following C.fits

-- a turn more of a follower
module _ {J O : Type 0} (seen : J → Option (List ℕ)) (text : O → Option (List ℕ)) (f : Feed) (since later : ℕ) (feeds feeds_now : List ℕ → Option Feed) (a b : Option (Option Read)) (paced paced_now : Type 0) (old book new : BookState J O) (window : book.board.window ≡ old.board.window) (early : since ≤ later) (same : feeds_now old.board.window.stream ≡ feeds old.board.window.stream)
    (stays : IsHonestFor old.board.window.stream (feeds old.board.window.stream) a → IsHonestFor old.board.window.stream (feeds_now old.board.window.stream) b) (goes : paced → paced_now) (es : List Entry) (C : CanCarry f old.board.window since (feeds old.board.window.stream) a paced old.journal.gate es) (I : IsCarrying seen text f old.board.window book es) where
  pub turn_carries : (t u : Turn) → t ≡ u → (CanCarry f book.board.window later (feeds_now book.board.window.stream) b paced_now book.journal.gate I.now → Carries seen text f book.board.window new I.now t) → Carries seen text f old.board.window new es u
  turn_carries t u is goes_on =
      let next = carry_next seen text f old.board.window since later (feeds old.board.window.stream) (feeds_now old.board.window.stream) a b paced paced_now old.journal.gate book es early same stays goes C I in
      let K = claimed_carries seen text f new old.board.window book.board.window book.journal.gate book.journal.gate later feeds_now b paced_now I.now t window refl goes_on next in
      let here = subst (Carries seen text f old.board.window new I.now) is K in
      (behind_from u (λ D. carry_on seen text f old.board.window book new es I D) here.0, here.1)
