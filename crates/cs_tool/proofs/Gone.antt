-- From a book that was followed to what a replay answers of its files.
use Rattle.std.proofs.Common.{◌≡◌, ◌∙◌, false, List, [], ℕ, Option, Some, None, subst}
use Rattle.std.specs.Prelude.{IfSome}
use Rattle.cs_types.specs.declared.names.Window.{Window}
use Rattle.cs_device.specs.Causes.{Rose}
use Rattle.cs_device.specs.Crash.{Crash}
use Rattle.cs_journal.specs.Rows.{gate_of}
use Rattle.cs_journal.specs.State.{IsSettled, IsAtRest}
use Rattle.cs_schedule.specs.declared.entry.Entry.{Entry}
use Rattle.cs_schedule.specs.Consistent.{BeginIsConsistent}
use Rattle.cs_schedule.specs.Rows.{Folds}
use Rattle.cs_schedule.specs.Spelling.{PayloadsDiffer}
use Rattle.cs_script.specs.Database.{Database}
use Rattle.cs_link.specs.declared.feed.Feed.{Feed}
use Rattle.cs_server.specs.Laws.{IsFeedOf}
use Rattle.cs_text.specs.Output.{output_of}
use Rattle.cs_book.specs.Book.{BookState, StillTells}
use Rattle.cs_book.specs.Entries.{HoldsEntries}
use Rattle.cs_book.specs.Opening.{IsFrom}
use Rattle.cs_follow.specs.declared.outcome.Pace.{Pace}
use Rattle.cs_tool.specs.Answers.{OnTold}
use Rattle.cs_tool.specs.Following.{IsFollowStatus, IsStoppedIn, StopsBy, IsFollowedIn, DisksTell}
use Rattle.cs_tool.specs.Journal.{Files, files, HasGoneOn, IsDurable, HasReplayed}
use Rattle.cs_tool.specs.declared.status.Status.{Status}
use Rattle.cs_tool.specs.declared.status.Status.TheVariants.{Ended, Paused, Verdict, RetentionPassed, Refused, LinkFault, Breach, Stalled, JournalFault, OutputFault, SourceFault, ConsoleFault, BadWords, BadScript, OtherJournal, BadJournal, Full, OutputNotEmpty, BadOutput, Memory}
use Rattle.cs_tool.proofs.Journals.{opened_follow}

pub still_then : (a b c : Option (List ℕ)) → StillTells a b → StillTells b c → StillTells a c
still_then None b c p q = tt
still_then (Some x) None c p q = absurd p
still_then (Some x) (Some y) None p q = absurd q
still_then (Some x) (Some y) (Some z) p q = tt

-- what is told of the bytes of an object that told its bytes
on_told : (a b : Option (List ℕ)) (P : List ℕ → Type 0) → StillTells a b → IfSome b P → OnTold a b P
on_told None b P still p = tt
on_told (Some x) None P still p = absurd still
on_told (Some x) (Some y) P still p = p

at_gate : (seen : Option (List ℕ)) (es : List Entry) (gate : ℕ) → IfSome seen (λ bytes. HoldsEntries bytes es) → IfSome seen (IsAtRest gate) → IfSome seen (λ bytes. HoldsEntries bytes es × (gate_of bytes ≡ Some gate))
at_gate None es gate held rest = tt
at_gate (Some bytes) es gate held rest = (held, rest.place)

-- the files of a book
abbrev pub files_of : {J O : Type 0} → (J → Option (List ℕ)) → (J → Crash) → (J → ℕ) → (O → Option (List ℕ)) → (O → Crash) → (O → ℕ) → BookState J O → Files
files_of seen crash faults text text_crash text_faults b = files (seen b.journal.disk) (crash b.journal.disk) (faults b.journal.disk) (text b.output) (text_crash b.output) (text_faults b.output)

-- a book that was opened over files, and then followed
module _ {J O : Type 0} (seen : J → Option (List ℕ)) (crash : J → Crash) (faults : J → ℕ) (text : O → Option (List ℕ)) (text_crash : O → Crash) (text_faults : O → ℕ) (begin : BeginIsConsistent) (differ : PayloadsDiffer) (db : Database) (w : Window) (pace : Pace) (moment : ℕ) (old : Files) (mid new : BookState J O) (es : List Entry) (from : IsFrom w old.journal es) (begun : IfSome old.journal (λ bytes. IfSome old.output (λ t. HoldsEntries bytes [] → t ≡ []))) (opened : StillTells old.journal (seen mid.journal.disk) × StillTells old.output (text mid.output)) (counts : (faults mid.journal.disk ≡ old.journal_faults) × (text_faults mid.output ≡ old.output_faults)) (mid_window : mid.board.window ≡ w) (window : new.board.window ≡ mid.board.window) where
  abbrev pub Left : Files
  Left = files_of seen crash faults text text_crash text_faults new

  abbrev pub Followed : Status → Type 0
  Followed status = IsFollowedIn seen text crash (Rose (faults mid.journal.disk) (faults new.journal.disk)) (Rose (text_faults mid.output) (text_faults new.output)) db w pace moment mid new es status

  module _ (settled : new.journal.failed ≡ false → IsSettled (seen new.journal.disk) (crash new.journal.disk) new.journal.gate) where
    gone_on : (status : Status) (I : Followed status) → IsStoppedIn seen text db w pace moment es new I.next status → StillTells (seen mid.journal.disk) (seen new.journal.disk) × StillTells (text mid.output) (text new.output) → HasGoneOn db w pace moment old Left status
    gone_on status I S still = record {
      first = es;
      from = from;
      begun = begun;
      entries = I.next;
      more = I.more;
      folds = subst (λ (v : Window). Folds v I.next) (window ∙ mid_window) S.entries.rows.folds;
      gate = new.journal.gate;
      held = at_gate (seen new.journal.disk) I.next new.journal.gate S.entries.held (settled S.journal).rest;
      still = still_then old.journal (seen mid.journal.disk) (seen new.journal.disk) opened.0 still.0;
      durable = (settled S.journal).durable;
      output = on_told old.output (text new.output) (λ t. t ≡ output_of w I.next) (still_then old.output (text mid.output) (text new.output) opened.1 still.1) (subst (λ (v : Window). IfSome (text new.output) (λ t. t ≡ output_of v I.next)) (window ∙ mid_window) S.entries.told);
      cause = S.cause;
      follow = λ f is L. I.follow f is (opened_follow begin differ f w old L es from);
      right = λ f is L created. S.right f is (opened_follow begin differ f w old L es from) created;
    }

    pub replayed : (status : Status) → IsFollowStatus status → Followed status → DisksTell status (StillTells (seen mid.journal.disk) (seen new.journal.disk) × StillTells (text mid.output) (text new.output)) → IsDurable (text new.output) (text_crash new.output) status → HasReplayed db w pace moment old Left status
    replayed Ended is I still durable = (gone_on Ended I I.stops still, durable)
    replayed Paused is I still durable = (gone_on Paused I I.stops still, durable)
    replayed (Verdict v) is I still durable = absurd is
    replayed (RetentionPassed earliest) is I still durable = (gone_on (RetentionPassed earliest) I I.stops still, durable)
    replayed (Refused refusal) is I still durable = (gone_on (Refused refusal) I I.stops still, durable)
    replayed LinkFault is I still durable = absurd is
    replayed (Breach breach) is I still durable = (gone_on (Breach breach) I I.stops still, durable)
    replayed (Stalled token count) is I still durable = absurd is
    replayed JournalFault is I still durable = subst (λ n. Rose n (faults new.journal.disk)) counts.0 I.stops
    replayed OutputFault is I still durable = subst (λ n. Rose n (text_faults new.output)) counts.1 I.stops
    replayed SourceFault is I still durable = absurd is
    replayed ConsoleFault is I still durable = absurd is
    replayed (BadWords place) is I still durable = absurd is
    replayed (BadScript line cause) is I still durable = absurd is
    replayed (OtherJournal other) is I still durable = absurd is
    replayed (BadJournal place) is I still durable = absurd is
    replayed (Full length) is I still durable = (gone_on (Full length) I I.stops still, durable)
    replayed (OutputNotEmpty count) is I still durable = absurd is
    replayed (BadOutput line) is I still durable = absurd is
    replayed Memory is I still durable = tt
