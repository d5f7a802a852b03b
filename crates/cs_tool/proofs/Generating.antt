-- Why no summary of a generated script was made.
use Rattle.std.proofs.Common.{◌≡◌, ◌≢◌, ◌<◌, ◌≤◌, ◌-◌, ◌⊎◌, ⊎_elim, ℕ, zero, suc, List, [], ◌∷◌, map, length, Option, Some, Result, Ok, Err, IfOk, IfErr, IfSome, codes, refl, sym, ap, ◌∙◌, subst, arith, slice_get, Contains}
use Rattle.cs_generator.specs.Generated.{script_text}
use Rattle.cs_types.specs.Change.{wanted_changes}
use Rattle.cs_types.specs.declared.names.Window.{Window}
use Rattle.cs_types.specs.Members.{in_nil, in_head, in_tail}
use Rattle.cs_output.specs.Output.{IsComplete}
use Rattle.cs_journal.specs.Rows.{payloads_of}
use Rattle.cs_link.specs.declared.feed.Feed.{Feed}
use Rattle.cs_link.specs.declared.refusal.ReadRefusal.{ReadRefusal}
use Rattle.cs_schedule.specs.declared.entry.Entry.{Entry}
use Rattle.cs_schedule.specs.declared.entry.Entry.TheVariants.{Begin}
use Rattle.cs_schedule.specs.Consistent.{BeginIsConsistent}
use Rattle.cs_schedule.specs.Spelling.{payload}
use Rattle.cs_schema.specs.declared.types.Stream.{Stream}
use Rattle.cs_partitions.specs.Layout.{StreamParts}
use Rattle.cs_read.specs.Honest.{IsState, StreamsAreSound}
use Rattle.cs_script.specs.Database.{Database}
use Rattle.cs_script.specs.Kept.{AreLayoutsOf}
use Rattle.cs_script.specs.Script.{Makes}
use Rattle.cs_server.specs.Laws.{FeedsAreTold}
use Rattle.cs_text.specs.Output.{output_of}
use Rattle.cs_book.specs.Book.{BookState}
use Rattle.cs_book.specs.Entries.{HoldsEntries}
use Rattle.cs_book.specs.Opening.{IsFrom}
use Rattle.cs_follow.specs.declared.outcome.Pace.{Pace}
use Rattle.cs_follow.specs.Own.{AreFollowing}
use Rattle.cs_tool.specs.Answers.{IsLoadStatus, IsAuditStatus, IsBadText, IsCompleteIn, IsGoodIn}
use Rattle.cs_tool.specs.Database.{IsBadScript, IsStreamIn, IsPassed, IsRefusedAs, wanted_in}
use Rattle.cs_tool.specs.Following.{IsFollowStatus, IsStoppedIn, StopsBy}
use Rattle.cs_tool.specs.Gen.{IsGenStatus, IsAuditFault, IsLeftAtEnd, IsPlacedIn, generated_window}
use Rattle.cs_tool.specs.Journal.{IsRightIn}
use Rattle.cs_tool.specs.declared.status.Status.{Status}
use Rattle.cs_tool.specs.declared.status.Status.TheVariants.{Ended, Paused, Verdict, RetentionPassed, Refused, LinkFault, Breach, Stalled, JournalFault, OutputFault, SourceFault, ConsoleFault, BadWords, BadScript, OtherJournal, BadJournal, Full, OutputNotEmpty, BadOutput, Memory}
use Rattle.cs_tool.proofs.Journals.{first_follows}
use Rattle.cs_tool.proofs.Wanted.{HasFeed, has_feed}

not_loaded : (commits : ℕ) (text : List ℕ) → text ≡ script_text commits → (status : Status) → IsLoadStatus (Some text) 0 0 status → IsGenStatus commits status
not_loaded commits text e Ended h = absurd h
not_loaded commits text e Paused h = absurd h
not_loaded commits text e (Verdict v) h = absurd h
not_loaded commits text e (RetentionPassed earliest) h = absurd h
not_loaded commits text e (Refused refusal) h = absurd h
not_loaded commits text e LinkFault h = absurd h
not_loaded commits text e (Breach breach) h = absurd h
not_loaded commits text e (Stalled token count) h = absurd h
not_loaded commits text e JournalFault h = absurd h
not_loaded commits text e OutputFault h = absurd h
not_loaded commits text e SourceFault h = absurd (omega (arith, h))
not_loaded commits text e ConsoleFault h = absurd h
not_loaded commits text e (BadWords place) h = absurd h
not_loaded commits text e (BadScript line cause) h = subst (IsBadScript line cause) e h
not_loaded commits text e (OtherJournal other) h = absurd h
not_loaded commits text e (BadJournal place) h = absurd h
not_loaded commits text e (Full length) h = absurd h
not_loaded commits text e (OutputNotEmpty count) h = absurd h
not_loaded commits text e (BadOutput line) h = absurd h
not_loaded commits text e Memory h = tt

pub none_made : {A : Type 0} → (commits : ℕ) (text : List ℕ) → text ≡ script_text commits → (r : Result A Status) → IfErr r (IsLoadStatus (Some text) 0 0) → IfErr r (IsGenStatus commits)
none_made commits text e (Ok a) h = tt
none_made commits text e (Err status) h = not_loaded commits text e status h

pub all_made : (commits : ℕ) (text : List ℕ) → text ≡ script_text commits → (r : Result Database Status) → IfOk r (λ db. IfSome (Some text) (λ bytes. Makes bytes (Ok db))) → IfOk r (λ db. Makes (script_text commits) (Ok db))
all_made commits text e (Ok db) h = subst (λ (bytes : List ℕ). Makes bytes (Ok db)) e h
all_made commits text e (Err status) h = tt

-- ---- the place of the stream

at_place : (streams : List Stream) (place : ℕ) (s : Stream) → slice_get streams place ≡ Some s → Contains streams s
at_place [] zero s h = absurd cc
at_place [] (suc place) s h = absurd cc
at_place (t ∷ ts) zero s h = let e : t ≡ s = cc in subst (λ x. Contains (t ∷ ts) x) e (in_head t ts)
at_place (t ∷ ts) (suc place) s h = in_tail t s ts (at_place ts place s h)

pub stream_placed : (db : Database) (name : List ℕ) (s : Stream) (l : StreamParts) → IsPlacedIn db name s l → IsStreamIn db name s
stream_placed db name s l p = record { there = at_place db.streams p.place s p.stream; named = p.named }

-- a stream's place has a layout
pub same_length : (streams : List Stream) (layouts : List StreamParts) → AreLayoutsOf streams layouts → length layouts ≡ length streams
same_length [] [] are = refl
same_length [] (l ∷ ls) are = absurd are
same_length (t ∷ ts) [] are = absurd are
same_length (t ∷ ts) (l ∷ ls) are = ap suc (same_length ts ls are.1)

pub is_placed : (db : Database) (name : List ℕ) (streams : List Stream) (layouts : List StreamParts) (place : ℕ) (x s : Stream) (l : StreamParts) → streams ≡ db.streams → layouts ≡ db.layouts
    → slice_get streams place ≡ Some x → x.name ≡ name → slice_get streams place ≡ Some s → slice_get layouts place ≡ Some l → IsPlacedIn db name s l
is_placed db name streams layouts place x s l same_streams same_layouts found named got laid =
    let same : x ≡ s = cc in
    record {
      place = place;
      stream = subst (λ (z : List Stream). slice_get z place ≡ Some s) same_streams got;
      named = ap (λ (t : Stream). t.name) (sym same) ∙ named;
      layout = subst (λ (z : List StreamParts). slice_get z place ≡ Some l) same_layouts laid;
    }

-- ---- a follower over disks in memory that were empty

-- the entries of a journal without bytes follow each feed
pub fresh_follow : BeginIsConsistent → (w : Window) (es : List Entry) (bytes : List ℕ) → bytes ≡ [] → IsFrom w (Some bytes) es → (f : Feed) → AreFollowing f w es
fresh_follow begin w es bytes empty from f =
    ⊎_elim
    (λ (held : HoldsEntries [] es). by es held.payloads)
    (λ (begun : HoldsEntries [] [] × (es ≡ Begin w ∷ [])). subst (AreFollowing f w) (sym begun.1) (first_follows begin f w))
    (subst (λ (b : List ℕ). IsFrom w (Some b) es) empty from)
  where
    by : (es : List Entry) → payloads_of [] ≡ Some (map payload es) → AreFollowing f w es
    by [] e = record { consistent = (begin f w).0; own = λ r i. absurd (in_nil r i) }
    by (x ∷ xs) e = absurd cc

-- the feed of the stream of the window is one, whatever stream of its name it is
module _ (db : Database) (w : Window) (s : Stream) (state : IsState db) (told : FeedsAreTold) (sound : StreamsAreSound) (there : IsStreamIn db w.stream s) (born : s.created ≤ w.start) where
  here : HasFeed db w.stream s
  here = has_feed db w.stream s state told sound there

  there_too : (t : Stream) → IsStreamIn db w.stream t → HasFeed db w.stream t
  there_too t is = has_feed db w.stream t state told sound is

  same_feed : (t : Stream) (is : IsStreamIn db w.stream t) → (there_too t is).feed ≡ here.feed
  same_feed t is =
      let both : Some (there_too t is).feed ≡ Some here.feed = sym (there_too t is).told ∙ here.told in
      cc

  same_created : (t : Stream) (is : IsStreamIn db w.stream t) → t.created ≡ s.created
  same_created t is = sym (there_too t is).created ∙ ap (λ (f : Feed). f.created) (same_feed t is) ∙ here.created

  same_retention : (t : Stream) (is : IsStreamIn db w.stream t) → t.retention_us ≡ s.retention_us
  same_retention t is = sym (there_too t is).retention ∙ ap (λ (f : Feed). f.retention_us) (same_feed t is) ∙ here.retention

  same_changes : (t : Stream) (is : IsStreamIn db w.stream t) → wanted_in db t w.start w.end ≡ wanted_in db s w.start w.end
  same_changes t is =
      let old : t.created ≤ w.start = subst (λ n. n ≤ w.start) (sym (same_created t is)) born in
      sym ((there_too t is).wanted w.start w.end old) ∙ ap (λ (f : Feed). wanted_changes w.start w.end f.wanted) (same_feed t is) ∙ here.wanted w.start w.end born

  complete_for : (text : List ℕ) → IsCompleteIn db w text → IsComplete text (wanted_in db s w.start w.end) w.end
  complete_for text C = subst (λ l. IsComplete text l w.end) (same_changes C.stream C.there) C.complete

  passed_for : (earliest : ℕ) → IsPassed db w w.end earliest → (earliest ≡ w.end - s.retention_us) × (w.start < earliest)
  passed_for earliest P = (P.earliest_is ∙ ap (λ n. w.end - n) (same_retention P.stream P.there), P.before)

  not_refused : (refusal : ReadRefusal) → IsRefusedAs db w w.end refusal → ⊥
  not_refused ReadRefusal.UnknownFunction h = h s there.there there.named
  not_refused (ReadRefusal.ArgumentType name) h = h
  not_refused (ReadRefusal.ArgumentMissing name) h = h
  not_refused ReadRefusal.ReadOptions h = h
  not_refused ReadRefusal.Heartbeat h = h
  not_refused ReadRefusal.EndBeforeStart h = h
  not_refused ReadRefusal.StartBeforeCreation (t, is, young) =
      let same = same_created t is in
      omega (arith, same, young, born)
  not_refused (ReadRefusal.StartTooOld earliest) h = h
  not_refused (ReadRefusal.StartInFuture at) (t, is, old, at_is, below) = omega (arith, at_is, below)
  not_refused ReadRefusal.UnknownToken h = h
  not_refused (ReadRefusal.StartBeforePartition from) h = h
  not_refused (ReadRefusal.StartPastPartition until) h = h
  not_refused (ReadRefusal.Syntax place) h = h
  not_refused (ReadRefusal.Wire status) h = h

  module _ {J O : Type 0} (seen : J → Option (List ℕ)) (text : O → Option (List ℕ)) (rosej roseo : Type 0) (pace : Pace) (before : List Entry) (new : BookState J O) (es : List Entry) (follow : (f : Feed) → AreFollowing f w before) where
    abbrev Stopped : Status → Type 0
    Stopped status = IsStoppedIn seen text db w pace w.end before new es status

    right_for : (status : Status) → Stopped status → IsGoodIn db w (output_of w es) × IsRightIn db w pace.turns w.end es status
    right_for status S = S.right here.feed ((told db w.stream here.feed state).0 here.told) (follow here.feed) (subst (λ n. n ≤ w.start) (sym here.created) born)

    -- where it has ended
    pub left_at_end : (left : List ℕ) → left ≡ output_of w es → Stopped Ended → IsLeftAtEnd db w s left
    left_at_end left is S = record {
      entries = es;
      ended = (pace, S.cause);
      text_is = is;
      complete = subst (λ (t : List ℕ). IsComplete t (wanted_in db s w.start w.end) w.end) (sym is) (complete_for (output_of w es) (right_for Ended S).1);
    }

    -- where it has not, and no disk failed or was full
    pub not_at_end : (status : Status) → IsFollowStatus status → StopsBy seen text rosej roseo db w pace w.end before new es status → status ≢ Ended → status ≢ JournalFault → status ≢ OutputFault → ((n : ℕ) → status ≢ Full n) → IsAuditFault db w s status
    not_at_end Ended is S e j o f = absurd (e refl)
    not_at_end Paused is S e j o f = let below = S.cause.1 in absurd (omega (arith, below))
    not_at_end (Verdict v) is S e j o f = absurd is
    not_at_end (RetentionPassed earliest) is S e j o f = passed_for earliest (right_for (RetentionPassed earliest) S).1
    not_at_end (Refused refusal) is S e j o f = absurd (not_refused refusal (right_for (Refused refusal) S).1)
    not_at_end LinkFault is S e j o f = absurd is
    not_at_end (Breach breach) is S e j o f = absurd (right_for (Breach breach) S).1
    not_at_end (Stalled token count) is S e j o f = absurd is
    not_at_end JournalFault is S e j o f = absurd (j refl)
    not_at_end OutputFault is S e j o f = absurd (o refl)
    not_at_end SourceFault is S e j o f = absurd is
    not_at_end ConsoleFault is S e j o f = absurd is
    not_at_end (BadWords place) is S e j o f = absurd is
    not_at_end (BadScript line cause) is S e j o f = absurd is
    not_at_end (OtherJournal other) is S e j o f = absurd is
    not_at_end (BadJournal place) is S e j o f = absurd is
    not_at_end (Full length) is S e j o f = absurd (f length refl)
    not_at_end (OutputNotEmpty count) is S e j o f = absurd is
    not_at_end (BadOutput line) is S e j o f = absurd is
    not_at_end Memory is S e j o f = tt

-- ---- an output that is not complete

-- of what a follower left that has ended, a verdict is that it is complete
pub judged : (db : Database) (w : Window) (s : Stream) (text : List ℕ) (status : Status) → IsLeftAtEnd db w s text → IsAuditStatus db w s text status → status ≢ Ended → IsAuditFault db w s status
judged db w s text Ended left found other = absurd (other refl)
judged db w s text Paused left found other = absurd found
judged db w s text (Verdict v) left found other = absurd (found.4 left.complete)
judged db w s text (RetentionPassed earliest) left found other = absurd found
judged db w s text (Refused refusal) left found other = absurd found
judged db w s text LinkFault left found other = absurd found
judged db w s text (Breach breach) left found other = absurd found
judged db w s text (Stalled token count) left found other = absurd found
judged db w s text JournalFault left found other = absurd found
judged db w s text OutputFault left found other = absurd found
judged db w s text SourceFault left found other = absurd found
judged db w s text ConsoleFault left found other = absurd found
judged db w s text (BadWords place) left found other = absurd found
judged db w s text (BadScript line cause) left found other = absurd found
judged db w s text (OtherJournal other_window) left found other = absurd found
judged db w s text (BadJournal place) left found other = absurd found
judged db w s text (Full length) left found other = absurd found
judged db w s text (OutputNotEmpty count) left found other = absurd found
judged db w s text (BadOutput line) left found other = (left.entries, left.ended, subst (IsBadText line) left.text_is found)
judged db w s text Memory left found other = tt

module _ (commits : ℕ) (db : Database) (s : Stream) (made : Makes (script_text commits) (Ok db)) (there : IsStreamIn db (codes "G") s) (born : s.created ≤ generated_window.start) where
  not_audited : (status : Status) → IsAuditFault db generated_window s status → IsGenStatus commits status
  not_audited Ended h = absurd h
  not_audited Paused h = absurd h
  not_audited (Verdict v) h = absurd h
  not_audited (RetentionPassed earliest) h = (db, made, record { stream = s; there = there; created = born; earliest_is = h.0; before = h.1 })
  not_audited (Refused refusal) h = absurd h
  not_audited LinkFault h = absurd h
  not_audited (Breach breach) h = absurd h
  not_audited (Stalled token count) h = absurd h
  not_audited JournalFault h = absurd h
  not_audited OutputFault h = absurd h
  not_audited SourceFault h = absurd h
  not_audited ConsoleFault h = absurd h
  not_audited (BadWords place) h = absurd h
  not_audited (BadScript line cause) h = absurd h
  not_audited (OtherJournal other) h = absurd h
  not_audited (BadJournal place) h = absurd h
  not_audited (Full length) h = absurd h
  not_audited (OutputNotEmpty count) h = absurd h
  not_audited (BadOutput line) h = (db, made, (s, there, h.0, h.1, h.2))
  not_audited Memory h = tt

pub none_audited : (commits : ℕ) (db : Database) (s : Stream) (w : Window) → Makes (script_text commits) (Ok db) → w ≡ generated_window → IsStreamIn db w.stream s → s.created ≤ w.start → (status : Status) → IsAuditFault db w s status → IsGenStatus commits status
none_audited commits db s w made same there born status h =
    not_audited commits db s made
    (subst (λ (v : Window). IsStreamIn db v.stream s) same there)
    (subst (λ (v : Window). s.created ≤ v.start) same born)
    status
    (subst (λ (v : Window). IsAuditFault db v s status) same h)
