-- What a follower makes over the server of a script's database.
use Rattle.std.proofs.lemmas.List.Elements.{Contains-get_or}
use Rattle.std.proofs.lemmas.Option.{get_or_from_slice_get, slice_get_within}
use Rattle.std.proofs.Common.{◌≡◌, ◌≢◌, ◌⊎◌, inl, inr, ℕ, ◌<◌, ◌≤◌, ◌-◌, false, true, List, Option, Some, None, refl, sym, ap, ◌∙◌, subst, arith, true≢false, Contains}
use Rattle.std.specs.Prelude.{IfSome, map, ⊤}
use Rattle.std.specs.Option.{option_map}
use Rattle.cs_types.specs.declared.names.Window.{Window}
use Rattle.cs_schema.specs.declared.types.Stream.{Stream}
use Rattle.cs_device.specs.Crash.{Crash, CrashesLeave, LeavesOnly, crashes_now, crashes_weaker}
use Rattle.cs_journal.specs.State.{IsSettled}
use Rattle.cs_link.specs.declared.batch.Limits.{Limits}
use Rattle.cs_link.specs.declared.feed.Feed.{Feed}
use Rattle.cs_link.specs.declared.reading.ReadArgs.{ReadArgs}
use Rattle.cs_link.specs.declared.refusal.ReadRefusal.{ReadRefusal}
use Rattle.cs_link.specs.Causes.{Rose}
use Rattle.cs_link.specs.Honest.{IsHonestFor}
use Rattle.cs_link.specs.Reading.{Read}
use Rattle.cs_output.specs.Output.{IsGood, IsComplete}
use Rattle.cs_schedule.specs.declared.entry.Entry.{Entry}
use Rattle.cs_schedule.specs.Board.{IsOrdered, fresh}
use Rattle.cs_schedule.specs.Follows.{IsFollowed}
use Rattle.cs_script.specs.Database.{Database}
use Rattle.cs_read.specs.Honest.{IsState}
use Rattle.cs_server.specs.Laws.{FeedsAreTold, IsFeedOf}
use Rattle.cs_server.specs.State.{LinkState, present_of, read_of, last_of}
use Rattle.cs_server.specs.Typed.{feed_told}
use Rattle.cs_text.specs.Output.{output_of, ConsistentTextIsGood}
use Rattle.cs_book.specs.Book.{BookState, AreEntriesOf}
use Rattle.cs_book.specs.Entries.{HoldsEntries, HoldsSuch}
use Rattle.cs_follow.specs.declared.outcome.Outcome.{Outcome}
use Rattle.cs_follow.specs.declared.outcome.Pace.{Pace}
use Rattle.cs_follow.specs.Cause.{IsFilled}
use Rattle.cs_follow.specs.Ended.{EndedIsComplete}
use Rattle.cs_follow.specs.Own.{AreFollowing}
use Rattle.cs_follow.specs.Pauses.{HasComeTo}
use Rattle.cs_follow.specs.Rightly.{StopsRightly}
use Rattle.cs_follow.specs.Still.{UnlessFailed}
use Rattle.cs_follow.specs.Turn.{IsStopped, HasStopped, HasFollowed, GoOn}
use Rattle.cs_tool.specs.Answers.{IsGoodIn, IsCompleteIn}
use Rattle.cs_tool.specs.Database.{IsStreamIn, HasNoStream, wanted_in, IsBarred, IsPassed, IsRefusedAs}
use Rattle.cs_tool.specs.Following.{IsSaidOf, IsStoppedIn, StopsBy, IsFollowedIn, FollowsOn}
use Rattle.cs_tool.specs.Journal.{IsLinkIn, StopsIn, FillsIn, HasPausedIn}
use Rattle.cs_tool.specs.declared.status.Status.{Status}
use Rattle.cs_tool.specs.declared.status.Status.TheVariants.{Refused}
use Rattle.cs_tool.proofs.Journals.{goes_nowhere}
use Rattle.cs_tool.proofs.Wanted.{HasFeed}

-- the present READ of a link was opened at its moment
pub present_moment : (m : LinkState) (read : Read) → Some (present_of m) ≡ Some (Some read) → read.moment ≡ m.moment
present_moment m read h = by (last_of m.asked) refl
  where
    by : (o : Option ReadArgs) → last_of m.asked ≡ o → read.moment ≡ m.moment
    by None e =
        let none : present_of m ≡ None = ap (λ x. option_map (read_of m) x) e in
        absurd cc
    by (Some args) e =
        let some : present_of m ≡ Some (read_of m args) = ap (λ x. option_map (read_of m) x) e in
        let same : read_of m args ≡ read = cc in
        sym (ap (λ (r : Read). r.moment) same)

pub not_rose : Rose 0 0 → ⊥
not_rose h = omega (arith, h)

-- ---- the feed of the stream

module _ (db : Database) (name : List ℕ) (s : Stream) (F : HasFeed db name s) (told : FeedsAreTold) (state : IsState db) where
  -- it is the only one
  pub one_feed : (f : Feed) → IsFeedOf db name f → F.feed ≡ f
  one_feed f is =
      let here : feed_told db name ≡ Some f = (told db name f state).1 is in
      let both : Some F.feed ≡ Some f = sym F.told ∙ here in
      cc

  pub feed_created : (f : Feed) → IsFeedOf db name f → f.created ≡ s.created
  feed_created f is = sym (ap (λ (g : Feed). g.created) (one_feed f is)) ∙ F.created

-- a feed of a name is that of a stream of the name
pub has_stream : (db : Database) (name : List ℕ) (f : Feed) → IsFeedOf db name f → HasNoStream db name → ⊥
has_stream db name f is none =
    let there : Contains db.streams is.stream = subst (Contains db.streams) (get_or_from_slice_get db.streams is.place is.stream is.stream is.stream_at) (Contains-get_or db.streams is.place is.stream (slice_get_within db.streams is.place is.stream is.stream_at)) in
    none is.stream there is.named

module _ (db : Database) (w : Window) (s : Stream) (F : HasFeed db w.stream s) (first : 1 ≤ w.start) (born : s.created ≤ w.start) (order : w.start ≤ w.end) where
  pub followed : IsFollowed F.feed w
  followed = record { feed = F.sound; first = first; created = subst (λ n. n ≤ w.start) (sym F.created) born; in_order = order }

-- ---- what is right over entries that follow it

-- what an outcome says over entries that follow the feed
abbrev pub RightOf : Database → Window → ℕ → ℕ → List Entry → Outcome → Type 0
RightOf db w turns moment es Outcome.Ended = IsCompleteIn db w (output_of w es)
RightOf db w turns moment es Outcome.Paused = HasPausedIn w turns moment es
RightOf db w turns moment es (Outcome.RetentionPassed earliest) = IsPassed db w moment earliest
RightOf db w turns moment es (Outcome.Refused refusal) = IsRefusedAs db w moment refusal
RightOf db w turns moment es Outcome.LinkFault = ⊥
RightOf db w turns moment es (Outcome.Breach breach) = ⊥
RightOf db w turns moment es (Outcome.Stalled token count) = ⊥
RightOf db w turns moment es Outcome.JournalFault = ⊤
RightOf db w turns moment es Outcome.OutputFault = ⊤
RightOf db w turns moment es (Outcome.Full length) = ⊤
RightOf db w turns moment es Outcome.Memory = ⊤

module _ (db : Database) (w : Window) (s : Stream) (F : HasFeed db w.stream s) (there : IsStreamIn db w.stream s) (is_followed : IsFollowed F.feed w) (born : s.created ≤ w.start) (good : ConsistentTextIsGood) (ended : EndedIsComplete) (moment : ℕ) (m : LinkState) (at : m.moment ≡ moment) (es : List Entry) (C : AreFollowing F.feed w es) where
  pub good_in : IsGoodIn db w (output_of w es)
  good_in = record { stream = s; there = there; good = subst (λ l. IsGood (output_of w es) l w.end) (F.wanted w.start w.end born) (good F.feed w es F.sound is_followed.created is_followed.in_order C.consistent) }

  pub ended_in : (limits : Limits) (since : ℕ) (before now : Option (Option Read)) (turns count count_now : ℕ) → IsStopped w limits since before now turns count count_now (Rose 0 0) es Outcome.Ended → IsCompleteIn db w (output_of w es)
  ended_in limits since before now turns count count_now S = record { stream = s; there = there; complete = subst (λ l. IsComplete (output_of w es) l w.end) (F.wanted w.start w.end born) (ended F.feed w limits since before now turns count count_now 0 0 es is_followed C.consistent S) }

  pub passed_in : (earliest : ℕ) → StopsRightly F.feed w moment (Some (present_of m)) (Rose 0 0) (Outcome.RetentionPassed earliest) → IsPassed db w moment earliest
  passed_in earliest h = record {
    stream = s;
    there = there;
    created = born;
    earliest_is = h.2.0 ∙ ap (λ n. n - F.feed.retention_us) (present_moment m h.0 h.1 ∙ at) ∙ ap (λ n. moment - n) F.retention;
    before = omega (arith, h.2.1, h.2.2);
  }

  pub refused_in : (refusal : ReadRefusal) → StopsRightly F.feed w moment (Some (present_of m)) (Rose 0 0) (Outcome.Refused refusal) → IsRefusedAs db w moment refusal
  refused_in ReadRefusal.UnknownFunction h = absurd h.1.2
  refused_in (ReadRefusal.ArgumentType name) h = absurd h.1.2
  refused_in (ReadRefusal.ArgumentMissing name) h = absurd h.1.2
  refused_in ReadRefusal.ReadOptions h = absurd h.1.2
  refused_in ReadRefusal.Heartbeat h = absurd h.1.2
  refused_in ReadRefusal.EndBeforeStart h = absurd h.1.2
  refused_in ReadRefusal.StartBeforeCreation h = absurd h.1.2
  refused_in (ReadRefusal.StartTooOld earliest) h = absurd (true≢false h.0)
  refused_in (ReadRefusal.StartInFuture now) h = (s, there, born, h.1.2.0 ∙ present_moment m h.1.0 h.1.1 ∙ at, h.1.2.1)
  refused_in ReadRefusal.UnknownToken h = absurd h.1.2
  refused_in (ReadRefusal.StartBeforePartition from) h = absurd h.1.2
  refused_in (ReadRefusal.StartPastPartition until) h = absurd h.1.2
  refused_in (ReadRefusal.Syntax place) h = absurd h.1.2
  refused_in (ReadRefusal.Wire status) h = absurd h.1.2

  pub right_of : (limits : Limits) (before : Option (Option Read)) (turns count count_now : ℕ) (o : Outcome) → (o ≡ Outcome.Paused → HasPausedIn w turns moment es) → IsStopped w limits moment before (Some (present_of m)) turns count count_now (Rose 0 0) es o → StopsRightly F.feed w moment (Some (present_of m)) (Rose 0 0) o → RightOf db w turns moment es o
  right_of limits before turns count count_now Outcome.Ended P S R = ended_in limits moment before (Some (present_of m)) turns count count_now S
  right_of limits before turns count count_now Outcome.Paused P S R = P refl
  right_of limits before turns count count_now (Outcome.RetentionPassed earliest) P S R = passed_in earliest R
  right_of limits before turns count count_now (Outcome.Refused refusal) P S R = refused_in refusal R
  right_of limits before turns count count_now Outcome.LinkFault P S R = not_rose R
  right_of limits before turns count count_now (Outcome.Breach breach) P S R = R
  right_of limits before turns count count_now (Outcome.Stalled token count_1) P S R = R
  right_of limits before turns count count_now Outcome.JournalFault P S R = tt
  right_of limits before turns count count_now Outcome.OutputFault P S R = tt
  right_of limits before turns count count_now (Outcome.Full length) P S R = tt
  right_of limits before turns count count_now Outcome.Memory P S R = tt

-- ---- why it stopped

-- over entries that followed the feed the outcome is right
abbrev pub Rightly : Database → Window → ℕ → ℕ → List Entry → List Entry → Outcome → Type 0
Rightly db w turns moment before es o = (f : Feed) → IsFeedOf db w.stream f → AreFollowing f w before → f.created ≤ w.start → IsGoodIn db w (output_of w es) × RightOf db w turns moment es o

-- a follower of a new link at the moment has stopped so, where the link is this now
abbrev pub Stopped : {J O : Type 0} → (J → Option (List ℕ)) → (O → Option (List ℕ)) → Type 0 → Type 0 → Pace → ℕ → BookState J O → List Entry → LinkState → Outcome → Type 0
Stopped seen text rosej roseo pace moment new es m o = HasStopped seen text pace.limits moment (Some None) (Some (present_of m)) pace.turns 0 m.caught_up (Rose 0 0) rosej roseo new es o

module _ {J O : Type 0} (seen : J → Option (List ℕ)) (text : O → Option (List ℕ)) (rosej roseo : Type 0) (db : Database) (w : Window) (pace : Pace) (moment : ℕ) (before : List Entry) (new : BookState J O) (es : List Entry) (m : LinkState) (is : IsLinkIn db moment m) (window : new.board.window ≡ w) where
  abbrev Said : Status → Type 0
  Said status = StopsBy seen text rosej roseo db w pace moment before new es status

  stops_in : (o : Outcome) → IsStopped new.board.window pace.limits moment (Some None) (Some (present_of m)) pace.turns 0 m.caught_up (Rose 0 0) es o → StopsIn db w pace moment es o
  stops_in o S = (m, is, subst (λ (v : Window). IsStopped v pace.limits moment (Some None) (Some (present_of m)) pace.turns 0 m.caught_up (Rose 0 0) es o) window S)

  fills_in : (length : ℕ) → AreEntriesOf seen text new es → IsFilled new.board.window pace.limits moment (Some None) (Some (present_of m)) new.journal.gate (map fresh new.board.rows) length → FillsIn db w pace.limits moment new.journal.gate es length
  fills_in length E S = record { link = m; of = is; board = new.board; window = window; rows = E.rows; fills = subst (λ (v : Window). IsFilled v pace.limits moment (Some None) (Some (present_of m)) new.journal.gate (map fresh new.board.rows) length) window S }

  pub said_by : (o : Outcome) (status : Status) → IsSaidOf o status → Stopped seen text rosej roseo pace moment new es m o → UnlessFailed o (new.journal.failed ≡ false) → (o ≡ Outcome.Paused → moment < w.end) → ((token : Option (List ℕ)) (count : ℕ) → o ≢ Outcome.Stalled token count) → Rightly db w pace.turns moment before es o → Said status
  said_by Outcome.Ended status e S running paused never R = subst Said (sym e) (record { journal = running; entries = S.0; cause = stops_in Outcome.Ended S.1; right = R })
  said_by Outcome.Paused status e S running paused never R = subst Said (sym e) (record { journal = running; entries = S.0; cause = (stops_in Outcome.Paused S.1, paused refl); right = R })
  said_by (Outcome.RetentionPassed earliest) status e S running paused never R = subst Said (sym e) (record { journal = running; entries = S.0; cause = stops_in (Outcome.RetentionPassed earliest) S.1; right = R })
  said_by (Outcome.Refused refusal) status e S running paused never R = subst Said (sym e) (record { journal = running; entries = S.0; cause = inl (stops_in (Outcome.Refused refusal) S.1); right = R })
  said_by Outcome.LinkFault status e S running paused never R = absurd (not_rose S.1.cause)
  said_by (Outcome.Breach breach) status e S running paused never R = subst Said (sym e) (record { journal = running; entries = S.0; cause = stops_in (Outcome.Breach breach) S.1; right = R })
  said_by (Outcome.Stalled token count) status e S running paused never R = absurd (never token count refl)
  said_by Outcome.JournalFault status e S running paused never R = subst Said (sym e) S.1
  said_by Outcome.OutputFault status e S running paused never R = subst Said (sym e) S.1
  said_by (Outcome.Full length) status e S running paused never R = subst Said (sym e) (record { journal = running; entries = S.0; cause = fills_in length S.0 S.1; right = R })
  said_by Outcome.Memory status e S running paused never R = subst Said (sym e) tt

-- ---- all of it

module _ {J O : Type 0} (seen : J → Option (List ℕ)) (text : O → Option (List ℕ)) (crash : J → Crash) (rosej roseo : Type 0) (db : Database) (pace : Pace) (moment : ℕ) (old new : BookState J O) (es : List Entry) (s : Stream) (F : HasFeed db old.board.window.stream s) (is_followed : IsFollowed F.feed old.board.window) (m : LinkState) (o : Outcome) where
  -- a follower of a new link over the server of the database
  abbrev pub Followed : Type 0
  Followed = HasFollowed seen text crash pace.limits moment (Some None) (Some (present_of m)) pace.turns 0 m.caught_up (Rose 0 0) rosej roseo (feed_told db old.board.window.stream) old new es o

  module _ (H : Followed) (honest : IsHonestFor old.board.window.stream (feed_told db old.board.window.stream) (Some None)) (only : (f : Feed) → IsFeedOf db old.board.window.stream f → F.feed ≡ f) where
    stays : (next : List Entry) → GoOn old.board.window (feed_told db old.board.window.stream) (Some None) es next → (f : Feed) → IsFeedOf db old.board.window.stream f → AreFollowing f old.board.window es → AreFollowing f old.board.window next
    stays next G f is A =
        let there : AreFollowing F.feed old.board.window es = subst (λ g. AreFollowing g old.board.window es) (sym (only f is)) A in
        subst (λ g. AreFollowing g old.board.window next) (only f is) (G.0 F.feed is_followed F.told honest there)

    kept : (f : Feed) → IsFeedOf db old.board.window.stream f → AreFollowing f old.board.window es → (o : Option (List ℕ)) → IfSome o (λ _. CrashesLeave (HoldsSuch (GoOn old.board.window (feed_told db old.board.window.stream) (Some None) es)) (crash old.journal.disk) (crash new.journal.disk)) → IfSome o (λ _. CrashesLeave (HoldsSuch (FollowsOn f old.board.window es)) (crash old.journal.disk) (crash new.journal.disk))
    kept f is A None h = tt
    kept f is A (Some bytes) h = crashes_weaker (HoldsSuch (GoOn old.board.window (feed_told db old.board.window.stream) (Some None) es)) (HoldsSuch (FollowsOn f old.board.window es)) (crash old.journal.disk) (crash new.journal.disk) (λ image u. (u.0, u.1, (stays u.0 u.2 f is A, u.2.1))) h

    pub followed_in : (status : Status) → StopsBy seen text rosej roseo db old.board.window pace moment es new H.next status → IsFollowedIn seen text crash rosej roseo db old.board.window pace moment old new es status
    followed_in status S = record { next = H.next; more = H.goes.1; follow = λ f is A. stays H.next H.goes f is A; crashes = λ f is A. kept f is A (seen old.journal.disk) H.crashes; stops = S }

    -- over entries that follow the feed it is right
    pub rightly_in : (there : IsStreamIn db old.board.window.stream s) (born : s.created ≤ old.board.window.start) → ConsistentTextIsGood → EndedIsComplete → m.moment ≡ moment → new.board.window ≡ old.board.window → IsOrdered new.board.rows
        → ((f : Feed) → IsFollowed f old.board.window → feed_told db old.board.window.stream ≡ Some f → IsHonestFor old.board.window.stream (feed_told db old.board.window.stream) (Some None) → AreFollowing f old.board.window es → StopsRightly f old.board.window moment (Some (present_of m)) (Rose 0 0) o × (o ≡ Outcome.Paused → HasComeTo old.board.window.end moment pace.turns new.board.rows))
        → Rightly db old.board.window pace.turns moment es H.next o
    rightly_in there born good ended at window ordered R f is A created =
        let A_old : AreFollowing F.feed old.board.window es = subst (λ g. AreFollowing g old.board.window es) (sym (only f is)) A in
        let A_new : AreFollowing F.feed old.board.window H.next = H.goes.0 F.feed is_followed F.told honest A_old in
        let first = good_in db old.board.window s F there is_followed born good ended moment m at H.next A_new in
        let right = right_of db old.board.window s F there is_followed born good ended moment m at H.next A_new pace.limits (Some None) pace.turns 0 m.caught_up in
        let both = R F.feed is_followed F.told honest A_old in
        (first, by o right H.stops both.0 both.1)
      where
        Cause : Outcome → Type 0
        Cause o = IsStopped old.board.window pace.limits moment (Some None) (Some (present_of m)) pace.turns 0 m.caught_up (Rose 0 0) H.next o

        Comes : Outcome → Type 0
        Comes o = o ≡ Outcome.Paused → HasComeTo old.board.window.end moment pace.turns new.board.rows

        here : (o : Outcome) → IsStopped new.board.window pace.limits moment (Some None) (Some (present_of m)) pace.turns 0 m.caught_up (Rose 0 0) H.next o → Cause o
        here o S = subst (λ (v : Window). IsStopped v pace.limits moment (Some None) (Some (present_of m)) pace.turns 0 m.caught_up (Rose 0 0) H.next o) window S

        by : (o : Outcome) → ((o : Outcome) → (o ≡ Outcome.Paused → HasPausedIn old.board.window pace.turns moment H.next) → Cause o → StopsRightly F.feed old.board.window moment (Some (present_of m)) (Rose 0 0) o → RightOf db old.board.window pace.turns moment H.next o) → Stopped seen text rosej roseo pace moment new H.next m o → StopsRightly F.feed old.board.window moment (Some (present_of m)) (Rose 0 0) o → Comes o → RightOf db old.board.window pace.turns moment H.next o
        by Outcome.Ended right S R C = right Outcome.Ended (λ e. absurd cc) (here Outcome.Ended S.1) R
        by Outcome.Paused right S R C = record { board = new.board; window = window; rows = S.0.rows; ordered = ordered; come = C refl }
        by (Outcome.RetentionPassed earliest) right S R C = right (Outcome.RetentionPassed earliest) (λ e. absurd cc) (here (Outcome.RetentionPassed earliest) S.1) R
        by (Outcome.Refused refusal) right S R C = right (Outcome.Refused refusal) (λ e. absurd cc) (here (Outcome.Refused refusal) S.1) R
        by Outcome.LinkFault right S R C = right Outcome.LinkFault (λ e. absurd cc) (here Outcome.LinkFault S.1) R
        by (Outcome.Breach breach) right S R C = right (Outcome.Breach breach) (λ e. absurd cc) (here (Outcome.Breach breach) S.1) R
        by (Outcome.Stalled token count) right S R C = right (Outcome.Stalled token count) (λ e. absurd cc) (here (Outcome.Stalled token count) S.1) R
        by Outcome.JournalFault right S R C = tt
        by Outcome.OutputFault right S R C = tt
        by (Outcome.Full length) right S R C = tt
        by Outcome.Memory right S R C = tt

-- ---- it is not begun

module _ {J O : Type 0} (seen : J → Option (List ℕ)) (text : O → Option (List ℕ)) (crash : J → Crash) (rosej roseo : Type 0) (db : Database) (pace : Pace) (moment : ℕ) (old : BookState J O) (es : List Entry) (E : AreEntriesOf seen text old es) (settled : IsSettled (seen old.journal.disk) (crash old.journal.disk) old.journal.gate) (running : old.journal.failed ≡ false) where
  quiet : (f : Feed) → AreFollowing f old.board.window es → (o : Option (List ℕ)) → IfSome o (λ bytes. HoldsEntries bytes es) → IfSome o (LeavesOnly (crash old.journal.disk)) → IfSome o (λ _. CrashesLeave (HoldsSuch (FollowsOn f old.board.window es)) (crash old.journal.disk) (crash old.journal.disk))
  quiet f A None held durable = tt
  quiet f A (Some bytes) held durable = crashes_now (HoldsSuch (FollowsOn f old.board.window es)) (crash old.journal.disk) (λ image may. (es, subst (λ x. HoldsEntries x es) (sym (durable image may)) held, (A, goes_nowhere es)))

  pub barred_in : (refusal : ReadRefusal) → IsBarred db old.board.window refusal → ((f : Feed) → IsFeedOf db old.board.window.stream f → f.created ≤ old.board.window.start → ⊥) → IsFollowedIn seen text crash rosej roseo db old.board.window pace moment old old es (Refused refusal)
  barred_in refusal B never = record {
    next = es;
    more = goes_nowhere es;
    follow = λ f is A. A;
    crashes = λ f is A. quiet f A (seen old.journal.disk) E.held settled.durable;
    stops = record { journal = running; entries = E; cause = inr B; right = λ f is A created. absurd (never f is created) };
  }
