-- A follower's turns, one after another, over the entries of its book.
use Rattle.std.proofs.Common.{◌≡◌, ℕ, ◌≤◌, ◌-◌, List, ◌++◌, map, Option, None, Some, sym, refl, ap, ◌∙◌, subst, arith, append_assoc}
use Rattle.std.specs.Prelude.{IfSome}
use Rattle.cs_types.specs.declared.names.Window.{Window}
use Rattle.cs_device.specs.Causes.{Rose}
use Rattle.cs_device.specs.Crash.{Crash, CrashesLeave, crashes_weaker, crashes_both}
use Rattle.cs_link.specs.Causes.{Rose as LinkRose}
use Rattle.cs_journal.specs.State.{IsSettled as IsJournalSettled}
use Rattle.cs_link.specs.declared.batch.Limits.{Limits}
use Rattle.cs_link.specs.declared.feed.Feed.{Feed}
use Rattle.cs_link.specs.Honest.{IsHonestFor}
use Rattle.cs_link.specs.Reading.{Read}
use Rattle.cs_schedule.specs.declared.entry.Entry.{Entry}
use Rattle.cs_schedule.specs.Board.{Shown, fresh}
use Rattle.cs_follow.specs.declared.outcome.Outcome.{Outcome}
use Rattle.cs_follow.specs.declared.turn.Turn.{Turn}
use Rattle.cs_follow.specs.declared.turn.Turn.TheVariants as turns
use Rattle.cs_book.specs.Book.{BookState, AreEntriesOf, StillTells}
use Rattle.cs_follow.specs.Cause.{raised, IsFilled}
use Rattle.cs_follow.specs.Due.{at_rest}
use Rattle.cs_book.specs.Entries.{HoldsSuch}
use Rattle.cs_follow.specs.Turn.{StaysFollowing, StaysTold, IsStopped, IsTurn, IsIdle, Extends, GoOn, Does, IsTurnOver, HasReached, HasStopped, HasFollowed}
use Rattle.cs_follow.proofs.Causes.{told_now, stopped_from, filled_from}
use Rattle.cs_follow.proofs.Looping.{pauses}
use Rattle.cs_follow.proofs.Still.{still_bytes}
use Rattle.cs_follow.proofs.TurnOver.{same_go, quiet_goes}

-- ---- entries that go on, step by step

pub stays_then : (w : Window) (told told_now : Option Feed) (present now : Option (Option Read)) (es mid next : List Entry) → told_now ≡ told → (IsHonestFor w.stream told present → IsHonestFor w.stream told_now now) → StaysFollowing w told present es mid → StaysFollowing w told_now now mid next → StaysFollowing w told present es next
stays_then w told told_now present now es mid next same stays first then f followed tells honest before = then f followed (same ∙ tells) (stays honest) (first f followed tells honest before)

grows_then : (es mid next : List Entry) → Extends es mid → Extends mid next → Extends es next
grows_then es mid next a b = (a.0 ++ b.0, b.1 ∙ ap (λ l. l ++ b.0) a.1 ∙ append_assoc es a.0 b.0)

pub go_then : (w : Window) (told told_now : Option Feed) (present now : Option (Option Read)) (es mid next : List Entry) → told_now ≡ told → (IsHonestFor w.stream told present → IsHonestFor w.stream told_now now) → GoOn w told present es mid → GoOn w told_now now mid next → GoOn w told present es next
go_then w told told_now present now es mid next same stays a b = (stays_then w told told_now present now es mid next same stays a.0 b.0, grows_then es mid next a.1 b.1)

-- what a crash leaves
pub crash_then : (w : Window) (told told_now : Option Feed) (present now : Option (Option Read)) (es mid : List Entry) (seen later : Option (List ℕ)) (old between new : Crash) → told_now ≡ told → (IsHonestFor w.stream told present → IsHonestFor w.stream told_now now) → GoOn w told present es mid → ((bytes : List ℕ) → seen ≡ Some bytes → (more : List ℕ) × (later ≡ Some more))
    → IfSome seen (λ _. CrashesLeave (HoldsSuch (GoOn w told present es)) old between) → IfSome later (λ _. CrashesLeave (HoldsSuch (GoOn w told_now now mid)) between new) → IfSome seen (λ _. CrashesLeave (HoldsSuch (GoOn w told present es)) old new)
crash_then w told told_now present now es mid None later old between new same stays a tells h k = tt
crash_then w told told_now present now es mid (Some bytes) later old between new same stays a tells h k =
    let u = tells bytes refl in
    let more : CrashesLeave (HoldsSuch (GoOn w told_now now mid)) between new = subst (λ s. IfSome s (λ _. CrashesLeave (HoldsSuch (GoOn w told_now now mid)) between new)) u.1 k in
    crashes_both (HoldsSuch (GoOn w told present es)) old between new h
    (crashes_weaker (HoldsSuch (GoOn w told_now now mid)) (HoldsSuch (GoOn w told present es)) between new (λ image x. (x.0, x.1, go_then w told told_now present now es mid x.0 same stays a x.2)) more)

-- ---- the causes, from the first turn on

module _ {J O : Type 0} (seen : J → Option (List ℕ)) (text : O → Option (List ℕ)) (limits : Limits) (since later : ℕ) (a b now : Option (Option Read)) (early : since ≤ later) (told : StaysTold a b) (n_turns count count_then count_now : ℕ) (rose also rosej alsoj roseo alsoo : Type 0) (lift : rose → also) (liftj : rosej → alsoj) (lifto : roseo → alsoo) (w : Window) (board : Shown) (new : BookState J O) (window : new.board.window ≡ w) (es next : List Entry) where
  others : (o : Outcome) → IsIdle new × AreEntriesOf seen text new next × IsTurn w limits later b now count_then count_now rose es board next (at_rest new.board) (turns.Stops o) → AreEntriesOf seen text new next × IsStopped new.board.window limits since a now n_turns count count_now also next o
  others o D =
      let S = D.2.1 n_turns in (
        D.1,
        subst (λ (v : Window). IsStopped v limits since a now n_turns count count_now also next o) (sym window)
            (subst (λ l. IsStopped w limits since a now n_turns count count_now also l o) (sym D.2.0)
            (stopped_from since later a b now early told w limits n_turns count_then count_now n_turns count count_now rose also es o lift S.0 S.1)),
      )

  pub stops : (o : Outcome) → Does seen text limits later b now count_then count_now rose rosej roseo w board new es next (turns.Stops o) → HasStopped seen text limits since a now n_turns count count_now also alsoj alsoo new next o
  stops Outcome.Ended D = others Outcome.Ended D
  stops Outcome.Paused D = others Outcome.Paused D
  stops (Outcome.RetentionPassed earliest) D = others (Outcome.RetentionPassed earliest) D
  stops (Outcome.Refused refusal) D = others (Outcome.Refused refusal) D
  stops Outcome.LinkFault D = others Outcome.LinkFault D
  stops (Outcome.Breach breach) D = others (Outcome.Breach breach) D
  stops (Outcome.Stalled token k) D = others (Outcome.Stalled token k) D
  stops Outcome.JournalFault D = (D.0, liftj D.1)
  stops Outcome.OutputFault D = (D.0, lifto D.1)
  stops (Outcome.Full n) D = (D.1, subst (λ (v : Window). IsFilled v limits since a now new.journal.gate (map fresh new.board.rows) n) (sym window) (filled_from since later a b now early told w limits new.journal.gate (map fresh new.board.rows) n D.2))
  stops Outcome.Memory D = others Outcome.Memory D

-- ---- the turns so far

-- before the first
pub reached_now : {J O : Type 0} (seen : J → Option (List ℕ)) (text : O → Option (List ℕ)) (crash : J → Crash) (told : Option Feed) (before : Option (Option Read)) (old new : BookState J O) (es : List Entry) → new.journal ≡ old.journal → IsJournalSettled (seen old.journal.disk) (crash old.journal.disk) old.journal.gate → AreEntriesOf seen text old es → AreEntriesOf seen text new es → HasReached seen text crash told before old new es
reached_now seen text crash told before old new es same settled E F = record {
  mid = es;
  goes = same_go old.board.window told before es;
  crashes = subst (λ j. IfSome (seen old.journal.disk) (λ _. CrashesLeave (HoldsSuch (GoOn old.board.window told before es)) (crash old.journal.disk) (crash j.disk))) (sym same) (quiet_goes old.board.window told before es (seen old.journal.disk) (crash old.journal.disk) old.journal.gate E.held settled);
  entries = F;
}

-- one more
module _ {J O : Type 0} (seen : J → Option (List ℕ)) (text : O → Option (List ℕ)) (crash : J → Crash) (limits : Limits) (since later : ℕ) (a b now : Option (Option Read)) (early : since ≤ later) (told : StaysTold a b) (feeds feeds_now : List ℕ → Option Feed) (old book new : BookState J O) (same : feeds_now old.board.window.stream ≡ feeds old.board.window.stream) (honest : IsHonestFor old.board.window.stream (feeds old.board.window.stream) a → IsHonestFor old.board.window.stream (feeds_now old.board.window.stream) b)
    (window : book.board.window ≡ old.board.window) (window_now : new.board.window ≡ old.board.window) (still : StillTells (seen old.journal.disk) (seen book.journal.disk)) (count count_then count_now : ℕ) (rose also rosej alsoj roseo alsoo : Type 0) (lift : rose → also) (liftj : rosej → alsoj) (lifto : roseo → alsoo) (es : List Entry) (R : HasReached seen text crash (feeds old.board.window.stream) a old book es) where
  abbrev Over : Turn → Type 0
  Over turn = IsTurnOver seen text crash limits later b now count_then count_now rose rosej roseo (feeds_now book.board.window.stream) book.board.window (at_rest book.board) book.journal new R.mid turn

  abbrev Here : Turn → Type 0
  Here turn = IsTurnOver seen text crash limits later b now count_then count_now rose rosej roseo (feeds_now old.board.window.stream) old.board.window (at_rest book.board) book.journal new R.mid turn

  here : (turn : Turn) → Over turn → Here turn
  here turn T = subst (λ (v : Window). IsTurnOver seen text crash limits later b now count_then count_now rose rosej roseo (feeds_now v.stream) v (at_rest book.board) book.journal new R.mid turn) window T

  goes_on : (turn : Turn) (T : Here turn) → GoOn old.board.window (feeds old.board.window.stream) a es T.next
  goes_on turn T = go_then old.board.window (feeds old.board.window.stream) (feeds_now old.board.window.stream) a b es R.mid T.next same honest R.goes T.goes

  leaves : (turn : Turn) (T : Here turn) → IfSome (seen old.journal.disk) (λ _. CrashesLeave (HoldsSuch (GoOn old.board.window (feeds old.board.window.stream) a es)) (crash old.journal.disk) (crash new.journal.disk))
  leaves turn T = crash_then old.board.window (feeds old.board.window.stream) (feeds_now old.board.window.stream) a b es R.mid (seen old.journal.disk) (seen book.journal.disk) (crash old.journal.disk) (crash book.journal.disk) (crash new.journal.disk) same honest R.goes (still_bytes (seen old.journal.disk) (seen book.journal.disk) still) R.crashes T.crashes

  reaches : (turn : Turn) (T : Here turn) → AreEntriesOf seen text new T.next → HasReached seen text crash (feeds old.board.window.stream) a old new es
  reaches turn T E = record { mid = T.next; goes = goes_on turn T; crashes = leaves turn T; entries = E }

  pub reached_caught : Over turns.CaughtUp → HasReached seen text crash (feeds old.board.window.stream) a old new es
  reached_caught T = let H = here turns.CaughtUp T in reaches turns.CaughtUp H H.does.1

  pub reached_on : Over turns.On → HasReached seen text crash (feeds old.board.window.stream) a old new es
  reached_on T = let H = here turns.On T in reaches turns.On H H.does.1

  pub followed_stop : (n : ℕ) (o : Outcome) → Over (turns.Stops o) → HasFollowed seen text crash limits since a now n count count_now also alsoj alsoo (feeds old.board.window.stream) old new es o
  followed_stop n o T =
      let H = here (turns.Stops o) T in
      record {
        next = H.next;
        goes = goes_on (turns.Stops o) H;
        crashes = leaves (turns.Stops o) H;
        stops = stops seen text limits since later a b now early told n count count_then count_now rose also rosej alsoj roseo alsoo lift liftj lifto old.board.window (at_rest book.board) new window_now R.mid H.next o H.does;
      }

  pub followed_pause : (n left : ℕ) → 1 ≤ left → left ≤ 1 → left ≤ n → count_then ≡ raised (n - left) count → Over turns.CaughtUp → HasFollowed seen text crash limits since a now n count count_now also alsoj alsoo (feeds old.board.window.stream) old new es Outcome.Paused
  followed_pause n left some last most is T =
      let H = here turns.CaughtUp T in
      record {
        next = H.next;
        goes = goes_on turns.CaughtUp H;
        crashes = leaves turns.CaughtUp H;
        stops = (
          H.does.1,
          subst (λ (v : Window). IsStopped v limits since a now n count count_now also H.next Outcome.Paused) (sym window_now)
              (pauses old.board.window limits since later a b now n left count count_then count_now also (at_rest book.board) (at_rest new.board) H.next early told some last most is H.does.2),
        );
      }

-- a count that rose rose since an earlier moment too
pub rose_from : (a b c : ℕ) → a ≤ b → Rose b c → Rose a c
rose_from a b c le h = omega (arith, le, h)

pub same_rose : (a b c : ℕ) → b ≡ a → LinkRose b c → LinkRose a c
same_rose a b c e h = subst (λ n. LinkRose n c) e h
