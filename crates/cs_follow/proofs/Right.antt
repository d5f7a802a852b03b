-- How a follower over a book stops where its link is honest.
use Rattle.std.proofs.Common.{◌≡◌, ℕ, ◌<◌, List, Option, subst}
use Rattle.cs_types.specs.declared.names.Window.{Window}
use Rattle.cs_types.specs.Stamp.{IsStamp}
use Rattle.cs_link.specs.declared.batch.Limits.{Limits}
use Rattle.cs_link.specs.declared.feed.Feed.{Feed}
use Rattle.cs_link.specs.Honest.{IsHonestFor}
use Rattle.cs_link.specs.Reading.{Read}
use Rattle.cs_fetch.specs.Honesty.{MadeIsFaithful}
use Rattle.cs_fetch.specs.Laws.{AlwaysWellFormed}
use Rattle.cs_schedule.specs.declared.entry.Entry.{Entry}
use Rattle.cs_schedule.specs.Follows.{IsFollowed, NoneIsOrphan}
use Rattle.cs_book.specs.Book.{BookState, AreEntriesOf}
use Rattle.cs_follow.specs.declared.outcome.Outcome.{Outcome}
use Rattle.cs_follow.specs.Cause.{HasCaughtUp}
use Rattle.cs_follow.specs.Own.{AreFollowing}
use Rattle.cs_follow.specs.Rightly.{StopsRightly}
use Rattle.cs_follow.specs.Still.{UnlessFailed}
use Rattle.cs_follow.specs.Turn.{IsStopped, HasStopped}
use Rattle.cs_follow.proofs.Complete.{caught_up_before, stops_rightly}

module _ {J O : Type 0} (seen : J → Option (List ℕ)) (text : O → Option (List ℕ)) (limits : Limits) (since : ℕ) (before now : Option (Option Read)) (turns count count_now : ℕ) (rose rosej roseo : Type 0) (new : BookState J O) (es : List Entry) (w : Window) (window : new.board.window ≡ w) (f : Feed) (told told_now : Option Feed) (E : IsHonestFor w.stream told before) (H : IsHonestFor w.stream told_now now) (same : H.feed ≡ f) where
  -- it pauses only where the link's moment was before the window's end
  pub paused_before : (o : Outcome) → o ≡ Outcome.Paused → HasStopped seen text limits since before now turns count count_now rose rosej roseo new es o → since < w.end
  paused_before o is S =
      let T = subst (λ z. HasStopped seen text limits since before now turns count count_now rose rosej roseo new es z) is S in
      let C : HasCaughtUp w limits since before now = subst (λ (v : Window). HasCaughtUp v limits since before now) window T.1.cause.1 in
      caught_up_before f w told_now now H same limits since E.read (subst (λ z. HasCaughtUp w limits since z now) E.presents C)

  module _ (F : IsFollowed f w) (A : AreFollowing f w es) (range : IsStamp w.end) (faithful : MadeIsFaithful) (well : AlwaysWellFormed) (orphan : NoneIsOrphan) where
    others : (o : Outcome) → AreEntriesOf seen text new es × IsStopped new.board.window limits since before now turns count count_now rose es o → StopsRightly f w since now rose o
    others o D =
        let S = subst (λ (v : Window). IsStopped v limits since before now turns count count_now rose es o) window D.1 in
        stops_rightly f w limits since told told_now before now es S.board F E H same S.window S.of A range faithful well orphan S.ordered S.free turns count count_now rose o S.cause

    pub right_of : (o : Outcome) → HasStopped seen text limits since before now turns count count_now rose rosej roseo new es o → StopsRightly f w since now rose o
    right_of Outcome.Ended D = tt
    right_of Outcome.Paused D = others Outcome.Paused D
    right_of (Outcome.RetentionPassed earliest) D = others (Outcome.RetentionPassed earliest) D
    right_of (Outcome.Refused refusal) D = others (Outcome.Refused refusal) D
    right_of Outcome.LinkFault D = others Outcome.LinkFault D
    right_of (Outcome.Breach breach) D = others (Outcome.Breach breach) D
    right_of (Outcome.Stalled token k) D = others (Outcome.Stalled token k) D
    right_of Outcome.JournalFault D = tt
    right_of Outcome.OutputFault D = tt
    right_of (Outcome.Full n) D = tt
    right_of Outcome.Memory D = tt

-- the entries of a book whose follower stopped
module _ {J O : Type 0} (seen : J → Option (List ℕ)) (text : O → Option (List ℕ)) (limits : Limits) (since : ℕ) (before now : Option (Option Read)) (turns count count_now : ℕ) (rose rosej roseo : Type 0) (new : BookState J O) (es : List Entry) where
  pub stopped_entries : (o : Outcome) → HasStopped seen text limits since before now turns count count_now rose rosej roseo new es o → UnlessFailed o (AreEntriesOf seen text new es)
  stopped_entries Outcome.Ended D = D.0
  stopped_entries Outcome.Paused D = D.0
  stopped_entries (Outcome.RetentionPassed earliest) D = D.0
  stopped_entries (Outcome.Refused refusal) D = D.0
  stopped_entries Outcome.LinkFault D = D.0
  stopped_entries (Outcome.Breach breach) D = D.0
  stopped_entries (Outcome.Stalled token k) D = D.0
  stopped_entries Outcome.JournalFault D = tt
  stopped_entries Outcome.OutputFault D = tt
  stopped_entries (Outcome.Full n) D = D.0
  stopped_entries Outcome.Memory D = D.0
