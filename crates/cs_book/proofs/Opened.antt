-- A book that was opened.
use Rattle.std.proofs.Common.{◌≡◌, ◌≢◌, ◌⊎◌, inl, inr, ⊎_elim, ◌≤◌, ◌<◌, ℕ, List, [], ◌∷◌, length, ◌++◌, map, false, true≢false, arith, Option, None, Some, Result, Ok, Err, IfOk, IfErr, IfSome, MatchResult, sym, refl, ap, subst, ◌∙◌}
use Rattle.std.specs.Io.KnownBytes.{Keeps}
use Rattle.cs_device.specs.Causes.{Rose}
use Rattle.cs_device.specs.Crash.{Crash, CrashesLeave, LeavesOnly, crashes_now, crashes_weaker, crashes_both, crashes_last}
use Rattle.cs_types.specs.declared.names.Window.{Window}
use Rattle.cs_journal.specs.Crashes.{HoldsAnOldImage, HasSamePayloads, KeepsAnOldImage, IsBeforeOrAfter}
use Rattle.cs_journal.specs.Rows.{stored_of, payloads_of, payloads_in, with_payload}
use Rattle.cs_journal.specs.State.{WhereTold}
use Rattle.cs_journal.specs.declared.journal.Stored.{Stored}
use Rattle.cs_schedule.specs.declared.entry.Entry.{Entry}
use Rattle.cs_schedule.specs.declared.entry.Entry.TheVariants.{Begin}
use Rattle.cs_schedule.specs.Rows.{Folds}
use Rattle.std.proofs.lemmas.List.{length-append}
use Rattle.cs_schedule.specs.declared.row.Row.{Row}
use Rattle.cs_schedule.specs.Board.{Shown, fresh}
use Rattle.cs_schedule.specs.Follows.{FreshIsNoEntry}
use Rattle.cs_schedule.specs.Spelling.{payload, count, number, IsInFormat}
use Rattle.cs_text.specs.Output.{output_of, marked_of}
use Rattle.cs_text.specs.declared.telling.Telling.{Telling}
use Rattle.cs_types.specs.Members.{from_map}
use Rattle.cs_book.specs.Book.{IsSound, AreOf}
use Rattle.cs_book.specs.Waiting.{AreFree, IsWithin}
use Rattle.cs_book.specs.Entries.{HoldsEntries}
use Rattle.cs_book.specs.Reading.{AreRead, IsTold, IsInOrder}
use Rattle.cs_book.specs.Opening.{IsFrom, HoldsSameOrFirst, HoldsOldOrFirst, IsOutputFault, IsBeginFault, IsFirstFault, IsReopenFault, IsOpenFault, IsRefusal, IfNothingIsWritten, IfGateIsBroken}
use Rattle.cs_book.specs.declared.fault.OpenFault.{OpenFault}
use Rattle.cs_book.specs.declared.fault.OpenFault.TheVariants as faults
use Rattle.cs_book.proofs.Committed.{holds_same, holds_more}
use Rattle.cs_book.proofs.Payloads.{holds_read}

abbrev pub IsRead : Option (List ℕ) → List Stored → Type 0
IsRead seen stored = IfSome seen (λ bytes. stored_of bytes ≡ Ok stored)

pub none_held : (seen : Option (List ℕ)) (stored : List Stored) → IsRead seen stored → stored ≡ [] → IfSome seen (λ bytes. HoldsEntries bytes [])
none_held None stored read nil = tt
none_held (Some bytes) stored read nil = holds_read bytes [] [] (read ∙ ap (λ (l : List Stored). Ok l) nil) tt

pub whole_held : (seen : Option (List ℕ)) (stored : List Stored) (es : List Entry) → IsRead seen stored → AreRead stored es → IfSome seen (λ bytes. HoldsEntries bytes es)
whole_held None stored es read are = tt
whole_held (Some bytes) stored es read are = holds_read bytes stored es read are

pub from_held : (w : Window) (seen : Option (List ℕ)) (es : List Entry) → IfSome seen (λ bytes. HoldsEntries bytes es) → IsFrom w seen es
from_held w None es held = tt
from_held w (Some bytes) es held = inl held

pub from_none : (w : Window) (seen : Option (List ℕ)) → IfSome seen (λ bytes. HoldsEntries bytes []) → IsFrom w seen (Begin w ∷ [])
from_none w None none = tt
from_none w (Some bytes) none = inr (none, refl)

pub if_err : {R E : Type 0} (P Q : E → Type 0) (r : Result R E) → ((e : E) → P e → Q e) → IfErr r P → IfErr r Q
if_err P Q (Ok b) weaker holds = tt
if_err P Q (Err e) weaker holds = weaker e holds

-- ---- the first entry is put

pub first_told : (x : Entry) (framed : List ℕ) (seen now : Option (List ℕ)) → framed ≡ payload x → IsInFormat x → IfSome seen (λ bytes. HoldsEntries bytes []) → (seen ≡ None → now ≡ None) → WhereTold (λ old new. payloads_of new ≡ with_payload framed (payloads_of old)) seen now → IfSome now (λ bytes. HoldsEntries bytes (x ∷ []))
first_told x framed seen None is form none silent put = tt
first_told x framed None (Some now) is form none silent put = let no : Some now ≡ None = silent refl in absurd cc
first_told x framed (Some bytes) (Some now) is form none silent put = holds_more [] x bytes now none form (put ∙ ap (λ (p : List ℕ). with_payload p (payloads_of bytes)) is)

first_image : (w : Window) (bytes framed image : List ℕ) → framed ≡ payload (Begin w) → IsInFormat (Begin w) → HoldsEntries bytes [] → IsBeforeOrAfter bytes framed image → HoldsSameOrFirst w bytes image
first_image w bytes framed image is form none held =
    ⊎_elim (λ (before : payloads_of image ≡ payloads_of bytes). inl before)
    (λ (after : payloads_of image ≡ with_payload framed (payloads_of bytes)). inr (none, holds_more [] (Begin w) bytes image none form (after ∙ ap (λ (p : List ℕ). with_payload p (payloads_of bytes)) is))) held

pub first_crash : (w : Window) (framed : List ℕ) (seen : Option (List ℕ)) (old new : Crash) → framed ≡ payload (Begin w) → IsInFormat (Begin w) → IfSome seen (λ bytes. HoldsEntries bytes []) → IfSome seen (λ bytes. CrashesLeave (IsBeforeOrAfter bytes framed) old new) → IfSome seen (λ bytes. CrashesLeave (HoldsSameOrFirst w bytes) old new)
first_crash w framed None old new is form none put = tt
first_crash w framed (Some bytes) old new is form none put = crashes_weaker (IsBeforeOrAfter bytes framed) (HoldsSameOrFirst w bytes) old new (λ image. first_image w bytes framed image is form none) put

-- a crash while nothing is put
pub opened_crash : (w : Window) (seen : Option (List ℕ)) (old : Crash) → IfSome seen (LeavesOnly old) → IfSome seen (λ bytes. CrashesLeave (HoldsSameOrFirst w bytes) old old)
opened_crash w None old durable = tt
opened_crash w (Some bytes) old durable = crashes_now (HoldsSameOrFirst w bytes) old (λ image may. inl (ap payloads_of (durable image may)))

-- a crash of what a call gives, which is that of a journal as it was, or of its disk
pub whole_crash : {R E JS D : Type 0} (w : Window) (seen : Option (List ℕ)) (old : Crash) (crash : D → Crash) (disk : JS → D) (j : JS) (journal : R → JS) (back : E → D) (r : Result R E) → IfOk r (λ b. journal b ≡ j) → IfErr r (λ e. back e ≡ disk j)
    → IfSome seen (λ bytes. CrashesLeave (HoldsSameOrFirst w bytes) old (crash (disk j))) → IfSome seen (λ bytes. MatchResult r (λ b. CrashesLeave (HoldsSameOrFirst w bytes) old (crash (disk (journal b)))) (λ e. CrashesLeave (HoldsSameOrFirst w bytes) old (crash (back e))))
whole_crash w None old crash disk j journal back r same given crashes = tt
whole_crash w (Some bytes) old crash disk j journal back (Ok b) same given crashes = subst (λ x. CrashesLeave (HoldsSameOrFirst w bytes) old (crash (disk x))) (sym same) crashes
whole_crash w (Some bytes) old crash disk j journal back (Err e) same given crashes = subst (λ x. CrashesLeave (HoldsSameOrFirst w bytes) old (crash x)) (sym given) crashes

-- ---- behind the opening of the journal

-- what was read is what the mended bytes hold
pub read_still : (seen mid : Option (List ℕ)) (stored : List Stored) → IsRead seen stored → WhereTold HasSamePayloads seen mid → (seen ≡ None → mid ≡ None) → IsRead mid stored
read_still seen None stored read same silent = tt
read_still None (Some b) stored read same silent = let no : Some b ≡ None = silent refl in absurd cc
read_still (Some a) (Some b) stored read same silent = same ∙ read

pub from_still : (w : Window) (seen mid : Option (List ℕ)) (es : List Entry) → WhereTold HasSamePayloads seen mid → IsFrom w mid es → IsFrom w seen es
from_still w None mid es same from = tt
from_still w (Some a) None es same from = absurd same
from_still w (Some a) (Some b) es same from =
    let back : payloads_of a ≡ payloads_of b = ap payloads_in (sym same) in
    ⊎_elim (λ (held : HoldsEntries b es). inl (holds_same es b a held back)) (λ (first : HoldsEntries b [] × (es ≡ Begin w ∷ [])). inr (holds_same [] b a first.0 back, first.1)) from

-- a crash since leaves the payloads of an image from before, or the one entry
both_crash : (w : Window) (bytes : List ℕ) (old mid new : Crash) → mid.may_leave bytes → CrashesLeave (HoldsAnOldImage old) old mid → CrashesLeave (HoldsSameOrFirst w bytes) mid new → CrashesLeave (HoldsOldOrFirst w old) old new
both_crash w bytes old mid new image first second =
    let here : HoldsAnOldImage old bytes = crashes_last (HoldsAnOldImage old) old mid first bytes image in
    crashes_both (HoldsOldOrFirst w old) old mid new (crashes_weaker (HoldsAnOldImage old) (HoldsOldOrFirst w old) old mid (λ image held. inl held) first)
    (crashes_weaker (HoldsSameOrFirst w bytes) (HoldsOldOrFirst w old) mid new
    (λ image. ⊎_elim
    (λ (same : payloads_of image ≡ payloads_of bytes). inl (here.0, here.1, same ∙ here.2))
    (λ (begun : HoldsEntries bytes [] × HoldsEntries image (Begin w ∷ [])). inr ((here.0, here.1, holds_same [] bytes here.0 begun.0 (sym here.2)), begun.1))) second)

pub open_crash : {R E : Type 0} (w : Window) (seen mid : Option (List ℕ)) (old now : Crash) (of_ok : R → Crash) (of_err : E → Crash) (r : Result R E) → WhereTold HasSamePayloads seen mid → IfSome mid now.may_leave → KeepsAnOldImage seen old now
    → IfSome mid (λ bytes. MatchResult r (λ b. CrashesLeave (HoldsSameOrFirst w bytes) now (of_ok b)) (λ e. CrashesLeave (HoldsSameOrFirst w bytes) now (of_err e)))
    → IfSome seen (λ _. MatchResult r (λ b. CrashesLeave (HoldsOldOrFirst w old) old (of_ok b)) (λ e. CrashesLeave (HoldsOldOrFirst w old) old (of_err e)))
open_crash w None mid old now of_ok of_err r same image first second = tt
open_crash w (Some a) None old now of_ok of_err r same image first second = absurd same
open_crash w (Some a) (Some b) old now of_ok of_err (Ok x) same image first second = both_crash w b old now (of_ok x) image first second
open_crash w (Some a) (Some b) old now of_ok of_err (Err e) same image first second = both_crash w b old now (of_err e) image first second

pub fault_crash : (w : Window) (seen : Option (List ℕ)) (old new : Crash) → KeepsAnOldImage seen old new → IfSome seen (λ _. CrashesLeave (HoldsOldOrFirst w old) old new)
fault_crash w None old new kept = tt
fault_crash w (Some a) old new kept = crashes_weaker (HoldsAnOldImage old) (HoldsOldOrFirst w old) old new (λ image held. inl held) kept

-- ---- why a book is not opened

pub begin_fault : (j o : ℕ) (fault : OpenFault) (jn on : ℕ) → IsOutputFault o fault on → IsBeginFault j o fault jn on
begin_fault j o faults.JournalFault jn on is = absurd is
begin_fault j o (faults.BadJournal gate) jn on is = absurd is
begin_fault j o (faults.OtherJournal other) jn on is = absurd is
begin_fault j o (faults.OutputNotEmpty count) jn on is = absurd is
begin_fault j o faults.OutputFault jn on is = is
begin_fault j o faults.Memory jn on is = tt

pub put_fault : (text : Option (List ℕ)) (j o k : ℕ) (fault : OpenFault) (jn on : ℕ) → k ≡ o → IsBeginFault j k fault jn on → IsFirstFault text j o fault jn on
put_fault text j o k faults.JournalFault jn on same is = is
put_fault text j o k (faults.BadJournal gate) jn on same is = absurd is
put_fault text j o k (faults.OtherJournal other) jn on same is = absurd is
put_fault text j o k (faults.OutputNotEmpty count) jn on same is = absurd is
put_fault text j o k faults.OutputFault jn on same is = subst (λ (n : ℕ). Rose n on) same is
put_fault text j o k faults.Memory jn on same is = tt

pub put_writes : (fault : OpenFault) (j o jn on : ℕ) (stays : Type 0) → IsBeginFault j o fault jn on → IfNothingIsWritten fault stays
put_writes faults.JournalFault j o jn on stays is = tt
put_writes (faults.BadJournal gate) j o jn on stays is = absurd is
put_writes (faults.OtherJournal other) j o jn on stays is = absurd is
put_writes (faults.OutputNotEmpty count) j o jn on stays is = absurd is
put_writes faults.OutputFault j o jn on stays is = tt
put_writes faults.Memory j o jn on stays is = tt

pub over_fault : (found w : Window) (o : ℕ) (fault : OpenFault) (on : ℕ) → found ≡ w → IsOutputFault o fault on → IsReopenFault found w o fault on
over_fault found w o faults.JournalFault on same is = absurd is
over_fault found w o (faults.BadJournal gate) on same is = absurd is
over_fault found w o (faults.OtherJournal other) on same is = absurd is
over_fault found w o (faults.OutputNotEmpty count) on same is = absurd is
over_fault found w o faults.OutputFault on same is = (same, is)
over_fault found w o faults.Memory on same is = tt

pub over_writes : (fault : OpenFault) (o on : ℕ) (stays : Type 0) → IsOutputFault o fault on → IfNothingIsWritten fault stays
over_writes faults.JournalFault o on stays is = tt
over_writes (faults.BadJournal gate) o on stays is = absurd is
over_writes (faults.OtherJournal other) o on stays is = absurd is
over_writes (faults.OutputNotEmpty count) o on stays is = absurd is
over_writes faults.OutputFault o on stays is = tt
over_writes faults.Memory o on stays is = tt

pub writes_more : (fault : OpenFault) (stays more : Type 0) → (stays → more) → IfNothingIsWritten fault stays → IfNothingIsWritten fault more
writes_more faults.JournalFault stays more then' is = tt
writes_more (faults.BadJournal gate) stays more then' is = then' is
writes_more (faults.OtherJournal other) stays more then' is = then' is
writes_more (faults.OutputNotEmpty count) stays more then' is = then' is
writes_more faults.OutputFault stays more then' is = tt
writes_more faults.Memory stays more then' is = tt

pub first_fault : (w : Window) (stored : List Stored) (text : Option (List ℕ)) (j o : ℕ) (fault : OpenFault) (jn on : ℕ) → stored ≡ [] → IsFirstFault text j o fault jn on → IsOpenFault w stored text j o fault jn on
first_fault w stored text j o faults.JournalFault jn on nil is = is
first_fault w stored text j o (faults.BadJournal gate) jn on nil is = absurd is
first_fault w stored text j o (faults.OtherJournal other) jn on nil is = absurd is
first_fault w stored text j o (faults.OutputNotEmpty count) jn on nil is = (nil, is.0, is.1)
first_fault w stored text j o faults.OutputFault jn on nil is = (is, ([], subst (λ (l : List Stored). AreRead l []) (sym nil) tt, tt))
first_fault w stored text j o faults.Memory jn on nil is = tt

pub whole_fault : (w found : Window) (stored : List Stored) (es : List Entry) (text : Option (List ℕ)) (j o : ℕ) (fault : OpenFault) (jn on : ℕ) → AreRead stored es → Folds found es → 0 < length es → IsReopenFault found w o fault on → IsOpenFault w stored text j o fault jn on
whole_fault w found stored es text j o faults.JournalFault jn on are folds some is = absurd is
whole_fault w found stored es text j o (faults.BadJournal gate) jn on are folds some is = absurd is
whole_fault w found stored es text j o (faults.OtherJournal other) jn on are folds some is = (λ (same : other ≡ w). is.1 (sym is.0 ∙ same), es, are, (subst (λ (v : Window). Folds v es) (sym is.0) folds, some))
whole_fault w found stored es text j o (faults.OutputNotEmpty count) jn on are folds some is = absurd is
whole_fault w found stored es text j o faults.OutputFault jn on are folds some is = (is.1, (es, are, subst (λ (v : Window). Folds v es) is.0 folds))
whole_fault w found stored es text j o faults.Memory jn on are folds some is = tt

some_read : (seen : Option (List ℕ)) (stored : List Stored) (Q : List ℕ → Type 0) → IsRead seen stored → ((bytes : List ℕ) → stored_of bytes ≡ Ok stored → Q bytes) → IfSome seen Q
some_read None stored Q read holds = tt
some_read (Some bytes) stored Q read holds = holds bytes read

pub open_fault : (w : Window) (seen : Option (List ℕ)) (stored : List Stored) (text : Option (List ℕ)) (j k o : ℕ) (fault : OpenFault) (jn on : ℕ) → IsRead seen stored → k ≡ j → IsOpenFault w stored text k o fault jn on → IsRefusal w seen text j o fault jn on
open_fault w seen stored text j k o faults.JournalFault jn on read same is = subst (λ (n : ℕ). Rose n jn) same is
open_fault w seen stored text j k o (faults.BadJournal gate) jn on read same is = some_read seen stored _ read (λ bytes at. inr (stored, at, is))
open_fault w seen stored text j k o (faults.OtherJournal other) jn on read same is = (is.0, some_read seen stored _ read (λ bytes at. (is.1, holds_read bytes stored is.1 at is.2, is.3)))
open_fault w seen stored text j k o (faults.OutputNotEmpty count) jn on read same is = (some_read seen stored _ read (λ bytes at. at ∙ ap (λ (l : List Stored). Ok l) is.0), is.1, is.2)
open_fault w seen stored text j k o faults.OutputFault jn on read same is = (is.0, some_read seen stored _ read (λ bytes at. (is.1.0, holds_read bytes stored is.1.0 at is.1.1, is.1.2)))
open_fault w seen stored text j k o faults.Memory jn on read same is = tt

pub bad_refused : (seen : Option (List ℕ)) (gate : ℕ) (Q : List ℕ → Type 0) → IfSome seen (λ bytes. stored_of bytes ≡ Err gate) → IfSome seen (λ bytes. (stored_of bytes ≡ Err gate) ⊎ Q bytes)
bad_refused None gate Q bad = tt
bad_refused (Some bytes) gate Q bad = inl bad

-- ---- an open gate without a whole entry

-- where the payloads were read there is none
pub read_not_broken : (fault : OpenFault) (seen : Option (List ℕ)) (stored : List Stored) (stays : Type 0) → IsRead seen stored → IfGateIsBroken fault seen stays
read_not_broken faults.JournalFault seen stored stays read = tt
read_not_broken (faults.BadJournal gate) None stored stays read = tt
read_not_broken (faults.BadJournal gate) (Some bytes) stored stays read = λ broken. let no : Ok stored ≡ Err gate = sym read ∙ broken in absurd cc
read_not_broken (faults.OtherJournal other) seen stored stays read = tt
read_not_broken (faults.OutputNotEmpty count) seen stored stays read = tt
read_not_broken faults.OutputFault seen stored stays read = tt
read_not_broken faults.Memory seen stored stays read = tt

pub broken_stays : (seen : Option (List ℕ)) (gate : ℕ) (stays : Type 0) → stays → IfSome seen (λ bytes. stored_of bytes ≡ Err gate → stays)
broken_stays None gate stays is = tt
broken_stays (Some bytes) gate stays is = λ _. is

-- ---- the length of the first entry

of_count : (n : ℕ) → length (count n) ≡ 4
unfolding count
of_count n = refl

of_number : (n : ℕ) → length (number n) ≡ 8
unfolding number
of_number n = refl

pub begin_length : (w : Window) → length w.stream ≤ 128 → length (payload (Begin w)) ≤ 150
begin_length w short =
    let tail = number w.start ++ number w.end in
    let whole = length-append (count (length w.stream) ++ w.stream) tail in
    let front = length-append (count (length w.stream)) w.stream in
    let back = length-append (number w.start) (number w.end) in
    let four = of_count (length w.stream) in
    let one = of_number w.start in
    let other = of_number w.end in
    omega (arith, short, whole, front, back, four, one, other)

-- ---- nothing is leased

abbrev pub freshened : Shown → Shown
freshened b = record { window = b.window; rows = map fresh b.rows; room = b.room }

pub over_sound : (old new : Shown) → new ≡ freshened old → old.window.start ≤ old.window.end → IsInOrder old → IsSound new false
over_sound old new is order within = subst (λ z. IsSound z false) (sym is) (record {
  order = order;
  within = λ y i. let u = from_map fresh y old.rows i in let w = within order u.0 u.1 in subst (IsWithin old.window.end) (sym u.2) (record { start = w.start; end = w.end });
  leased = λ y i l. let u = from_map fresh y old.rows i in absurd (true≢false (sym l ∙ ap (λ (z : Row). z.leased) u.2));
  first = λ opening. absurd (true≢false (sym opening));
})

pub over_free : (old new : Shown) → new ≡ freshened old → AreFree new.rows
over_free old new is = subst (λ (z : Shown). AreFree z.rows) (sym is) (λ y i. let u = from_map fresh y old.rows i in ap (λ (z : Row). z.leased) u.2)

told_text : (text : Option (List ℕ)) (bytes lines out : List ℕ) → IfSome text (λ b. b ≡ bytes) → bytes ≡ lines → lines ≡ out → IfSome text (λ b. b ≡ out)
told_text None bytes lines out holds same is = tt
told_text (Some b) bytes lines out holds same is = holds ∙ same ∙ is

pub over_entries : FreshIsNoEntry → (seen text : Option (List ℕ)) (t : Telling) (new : Shown) (bytes : List ℕ) (es : List Entry) → new ≡ freshened t.board → IfSome text (λ b. b ≡ bytes) → bytes ≡ t.lines → IfSome seen (λ b. HoldsEntries b es) → IsTold t es → AreOf seen text new t.marked es
over_entries law seen text t new bytes es is redone same held told = record {
  held = held;
  rows = law es t.board new (ap (λ (z : Shown). z.window) is) (ap (λ (z : Shown). z.rows) is) told.tells.rows;
  mark = told.tells.mark ∙ ap (λ (z : Shown). marked_of z.window es) (sym is);
  told = told_text text bytes t.lines (output_of new.window es) redone same (told.tells.lines ∙ ap (λ (z : Shown). output_of z.window es) (sym is));
}

-- ---- an output that has bytes

pub not_none : (stored : List Stored) (es : List Entry) → AreRead stored es → 0 < length es → stored ≡ [] → ⊥
not_none [] [] are some nil = absurd (omega (arith, some))
not_none [] (e ∷ es) are some nil = absurd are
not_none (s ∷ stored) es are some nil = absurd cc

pub if_some_all : (seen : Option (List ℕ)) (P : List ℕ → Type 0) → ((b : List ℕ) → P b) → IfSome seen P
if_some_all None P all = tt
if_some_all (Some b) P all = all b

same_stored : (r : Result (List Stored) ℕ) (a b : List Stored) → r ≡ Ok a → r ≡ Ok b → a ≡ b
same_stored r a b one other = cc

pub begun_more : {R E : Type 0} (seen text : Option (List ℕ)) (stored : List Stored) (r : Result R E) (Q S : E → Type 0) → IsRead seen stored → ((e : E) → Q e → S e)
    → IfSome text (λ t. stored ≡ [] → 0 < length t → MatchResult r (λ _. ⊥) Q) → IfSome seen (λ bytes. IfSome text (λ t. stored_of bytes ≡ Ok [] → 0 < length t → MatchResult r (λ _. ⊥) S))
begun_more None text stored r Q S read more held = tt
begun_more (Some bytes) None stored r Q S read more held = tt
begun_more (Some bytes) (Some t) stored (Ok b) Q S read more held = λ nil some. held (same_stored (stored_of bytes) stored [] read nil) some
begun_more (Some bytes) (Some t) stored (Err e) Q S read more held = λ nil some. more e (held (same_stored (stored_of bytes) stored [] read nil) some)

-- ---- parts of what is answered

pub match_more : {R E : Type 0} (P Q : R → Type 0) (S T : E → Type 0) (r : Result R E) → ((b : R) → P b → Q b) → ((e : E) → S e → T e) → MatchResult r P S → MatchResult r Q T
match_more P Q S T (Ok b) one other holds = one b holds
match_more P Q S T (Err e) one other holds = other e holds

-- what holds of a journal's disk holds of that of what is answered, which is the same
pub whole_objects : {R E JS D : Type 0} (A : D → Type 0) (disk : JS → D) (j : JS) (journal : R → JS) (back : E → D) (P : R → Type 0) (S : E → Type 0) (r : Result R E) → IfOk r (λ b. journal b ≡ j) → IfErr r (λ e. back e ≡ disk j) → A (disk j) → MatchResult r P S → MatchResult r (λ b. A (disk (journal b)) × P b) (λ e. A (back e) × S e)
whole_objects A disk j journal back P S (Ok b) same given here holds = (subst (λ x. A (disk x)) (sym same) here, holds)
whole_objects A disk j journal back P S (Err e) same given here holds = (subst A (sym given) here, holds)

pub kept_same : (seen now : Option (List ℕ)) → Keeps seen now → WhereTold HasSamePayloads seen now
kept_same None now kept = tt
kept_same (Some a) None kept = absurd kept
kept_same (Some a) (Some b) kept = ap stored_of kept
