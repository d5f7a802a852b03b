-- A follower over an honest link whose heartbeats are paced, past the window's end and with room in its journal, stops for little else than the end.
use Rattle.std.proofs.Common.{◌≡◌, ◌≢◌, ℕ, ◌<◌, ◌≤◌, ◌-◌, List, Option, Some, sym, ap, ◌∙◌, subst, refl, arith, true≢false}
use Rattle.cs_types.specs.declared.names.Window.{Window}
use Rattle.cs_types.specs.Stamp.{IsStamp}
use Rattle.cs_link.specs.declared.batch.Limits.{Limits}
use Rattle.cs_link.specs.declared.feed.Feed.{Feed}
use Rattle.cs_link.specs.declared.refusal.ReadRefusal.{ReadRefusal}
use Rattle.cs_link.specs.Honest.{IsHonestFor}
use Rattle.cs_link.specs.Reading.{Read}
use Rattle.cs_schedule.specs.declared.entry.Entry.{Entry}
use Rattle.cs_schedule.specs.Board.{Shown}
use Rattle.cs_schedule.specs.Follows.{IsBoardOf, IsFollowed}
use Rattle.cs_schedule.specs.Rows.{rows_of}
use Rattle.cs_room.specs.Room.{low}
use Rattle.cs_room.specs.Laws.{LowIsOfEntries, DueIsAtLow}
use Rattle.cs_book.specs.Book.{BookState, AreEntriesOf}
use Rattle.cs_follow.specs.declared.outcome.Outcome.{Outcome}
use Rattle.cs_follow.specs.Carry.{IsCarrying}
use Rattle.cs_follow.specs.Cause.{is_too_old}
use Rattle.cs_follow.specs.Complete.{CanEnd, OnlyEnds}
use Rattle.cs_follow.specs.Own.{AreFollowing}
use Rattle.cs_follow.specs.Rightly.{MayBeRefused, IsKeptNoLonger, StopsRightly}
use Rattle.cs_follow.specs.Still.{UnlessFailed}
use Rattle.cs_follow.specs.Turn.{IsStopped, HasStopped}
use Rattle.cs_follow.proofs.Complete.{too_old_at}

-- the least start is the same over two boards of the same entries
low_is : LowIsOfEntries → (es : List Entry) (b : Shown) (w : Window) → b.window ≡ w → IsBoardOf es b → low w b.rows ≡ low w (rows_of w.start es)
low_is of es b w window B = subst (λ (v : Window). low v b.rows ≡ low v (rows_of v.start es)) window (of es b B)

-- ---- what is kept no longer

module _ {J O : Type 0} (seen : J → Option (List ℕ)) (text : O → Option (List ℕ)) (limits : Limits) (since : ℕ) (before now : Option (Option Read)) (turns count count_now : ℕ) (rose rosej roseo : Type 0) (new : BookState J O) (es : List Entry) (w : Window) (window : new.board.window ≡ w) (f : Feed) (told told_now : Option Feed) (E : IsHonestFor w.stream told before) (H : IsHonestFor w.stream told_now now) (same : H.feed ≡ f) where
  pub kept_no_longer : LowIsOfEntries → DueIsAtLow → IsStamp w.end → IsFollowed f w → AreFollowing f w es → (o : Outcome) (earliest : ℕ) → o ≡ Outcome.RetentionPassed earliest → HasStopped seen text limits since before now turns count count_now rose rosej roseo new es o → IsKeptNoLonger f w new.board.rows now earliest
  kept_no_longer of at_low range F A o earliest is D =
      let T = subst (λ z. HasStopped seen text limits since before now turns count count_now rose rosej roseo new es z) is D in
      let S = subst (λ (v : Window). IsStopped v limits since before now turns count count_now rose es (Outcome.RetentionPassed earliest)) window T.1 in
      let K = too_old_at f w limits since told told_now before now es S.board F E H same S.window S.of A range at_low earliest S.cause in
      let rows : low w S.board.rows ≡ low w new.board.rows = low_is of es S.board w S.window S.of ∙ sym (low_is of es new.board w window T.0.rows) in
      (K.0, K.1, K.2, subst (λ n. n ≤ K.0.args.start) rows K.3, K.4)

-- ---- the end

module _ {J O : Type 0} (seen : J → Option (List ℕ)) (text : O → Option (List ℕ)) (f : Feed) (w : Window) (since : ℕ) (told : Option Feed) (before now : Option (Option Read)) (paced : Type 0) (gate : ℕ) (old new : BookState J O) (es : List Entry) (C : CanEnd f w since told before now paced gate old.board.rows es)
    (of : LowIsOfEntries) (E : AreEntriesOf seen text old es) (window : old.board.window ≡ w) (window_now : new.board.window ≡ w) (limits : Limits) (turns count count_now : ℕ) (rose rosej roseo : Type 0) (next : List Entry) (o : Outcome) (carrying : UnlessFailed o (IsCarrying seen text f w new es)) (not_full : (n : ℕ) → o ≢ Outcome.Full n)
    (D : HasStopped seen text limits since before now turns count count_now rose rosej roseo new next o) (right : StopsRightly f w since now rose o) (kept : (earliest : ℕ) → o ≡ Outcome.RetentionPassed earliest → IsKeptNoLonger f w new.board.rows now earliest) where
  -- the least start has not fallen
  rises : IsCarrying seen text f w new es → low w old.board.rows ≤ low w new.board.rows
  rises I =
      let was = low_is of es old.board w window E.rows in
      let is = low_is of I.now new.board w window_now I.entries.rows in
      let least = I.least in
      subst (λ n. n ≤ low w new.board.rows) (sym was) (subst (λ n. low w (rows_of w.start es) ≤ n) (sym is) least)

  passed_never : (earliest : ℕ) → IsCarrying seen text f w new es → IsKeptNoLonger f w new.board.rows now earliest → ⊥
  passed_never earliest I K =
      let up = rises I in
      let was = C.kept K.0 K.1 in
      numbers earliest (K.0.moment - f.retention_us) (low w old.board.rows) (low w new.board.rows) K.0.args.start K.2 K.3 K.4 up was
    where
      numbers : (e k l m s : ℕ) → e ≡ k → m ≤ s → s < e → l ≤ m → k ≤ l → ⊥
      numbers e k l m s a b c d g = omega (arith, a, b, c, d, g)

  late : (refusal : ReadRefusal) (start : ℕ) (read : Read) → now ≡ Some (Some read) → (earliest_never : (earliest : ℕ) → refusal ≡ ReadRefusal.StartTooOld earliest → ⊥) → MayBeRefused f w start read.moment refusal → ⊥
  late ReadRefusal.UnknownFunction start read is never h = h
  late (ReadRefusal.ArgumentType name) start read is never h = h
  late (ReadRefusal.ArgumentMissing name) start read is never h = h
  late ReadRefusal.ReadOptions start read is never h = h
  late ReadRefusal.Heartbeat start read is never h = h
  late ReadRefusal.EndBeforeStart start read is never h = h
  late ReadRefusal.StartBeforeCreation start read is never h = h
  late (ReadRefusal.StartTooOld earliest) start read is never h = never earliest refl
  late (ReadRefusal.StartInFuture at) start read is never h = let moment = C.carries.moment in let time = C.timely read is in omega (arith, h.0, h.1, moment, time)
  late ReadRefusal.UnknownToken start read is never h = h
  late (ReadRefusal.StartBeforePartition from) start read is never h = h
  late (ReadRefusal.StartPastPartition until) start read is never h = h
  late (ReadRefusal.Syntax place) start read is never h = h
  late (ReadRefusal.Wire status) start read is never h = h

  pub only_ends : OnlyEnds rose rosej roseo o
  only_ends = by o refl carrying D right
    where
      by : (p : Outcome) → o ≡ p → UnlessFailed p (IsCarrying seen text f w new es) → HasStopped seen text limits since before now turns count count_now rose rosej roseo new next p → StopsRightly f w since now rose p → OnlyEnds rose rosej roseo p
      by Outcome.Ended is I d h = tt
      by Outcome.Paused is I d h = let moment = C.carries.moment in omega (arith, h, moment)
      by (Outcome.RetentionPassed earliest) is I d h = passed_never earliest I (kept earliest is)
      by (Outcome.Refused refusal) is I d h = late refusal h.1.0.args.start h.1.0 h.1.1 (λ earliest e. let no = ap is_too_old e in true≢false (sym no ∙ h.0)) h.1.2
      by Outcome.LinkFault is I d h = h
      by (Outcome.Breach breach) is I d h = h
      by (Outcome.Stalled token count) is I d h = h
      by Outcome.JournalFault is I d h = d.1
      by Outcome.OutputFault is I d h = d.1
      by (Outcome.Full n) is I d h = not_full n is
      by Outcome.Memory is I d h = tt
