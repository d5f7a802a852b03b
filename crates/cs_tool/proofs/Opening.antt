-- Over what earlier runs left, an opened journal can be gone on with, and no opening is refused but for a fault of a file and for want of memory.
use Rattle.std.proofs.Common.{◌≡◌, ◌⊎◌, inl, inr, ⊎_elim, ℕ, ◌+◌, ◌-◌, ◌<◌, ◌≤◌, List, [], ◌∷◌, ◌++◌, length, map, Option, Some, None, Ok, Err, refl, sym, ap, ◌∙◌, subst, arith, Contains}
use Rattle.std.specs.Prelude.{IfSome, Result}
use Rattle.std.specs.Io.KnownBytes.{Keeps}
use Rattle.cs_types.specs.declared.names.Window.{Window}
use Rattle.cs_types.specs.Members.{in_nil, in_head, in_tail}
use Rattle.cs_device.specs.Causes.{Rose}
use Rattle.cs_link.specs.declared.feed.Feed.{Feed}
use Rattle.cs_journal.specs.Rows.{stored_of, payloads_of, payloads_in, gate_of, gate_in, place_behind}
use Rattle.cs_journal.specs.State.{IsAtRest, WhereTold}
use Rattle.cs_journal.specs.Crashes.{HasSamePayloads, KeepsAnOldImage, IsUntouched}
use Rattle.cs_journal.specs.declared.journal.Stored.{Stored}
use Rattle.cs_schedule.specs.declared.entry.Entry.{Entry}
use Rattle.cs_schedule.specs.declared.entry.Entry.TheVariants.{Begin}
use Rattle.cs_schedule.specs.Consistent.{BeginIsConsistent}
use Rattle.cs_schedule.specs.Rows.{rows_of, Folds}
use Rattle.cs_schedule.specs.Spelling.{payload, IsInFormat, PayloadsDiffer, Spells}
use Rattle.cs_room.specs.Room.{low}
use Rattle.cs_script.specs.Database.{Database}
use Rattle.cs_book.specs.Book.{StillTells}
use Rattle.cs_book.specs.Entries.{HoldsEntries}
use Rattle.cs_book.specs.Opening.{IsFrom, IsRefusal, IfNothingIsWritten, IfGateIsBroken}
use Rattle.cs_book.specs.Reading.{AreRead, IsBadEntry}
use Rattle.cs_book.specs.declared.fault.OpenFault.{OpenFault}
use Rattle.cs_book.specs.declared.fault.OpenFault.TheVariants as faults
use Rattle.cs_follow.specs.declared.outcome.Pace.{Pace}
use Rattle.cs_follow.specs.Own.{AreFollowing}
use Rattle.cs_tool.specs.Complete.{IsOpenedGate, CanEndIn, CanGoOn, OnlyEndsBy}
use Rattle.cs_tool.specs.Journal.{Files, HoldsFollowing, IsNotOpened, FilesStay, HasReplayed}
use Rattle.cs_tool.specs.declared.status.Status.{Status}
use Rattle.cs_tool.proofs.Journals.{entries_once, opened_follow}

-- ---- the closed gate, by the payloads

abbrev behind : ℕ → List (List ℕ) → ℕ
behind place [] = place
behind place (x ∷ xs) = behind (place + 5 + length x) xs

behind_is : (place : ℕ) (stored : List Stored) → place_behind place stored ≡ behind place (map (λ (s : Stored). s.payload) stored)
behind_is place [] = refl
behind_is place (s ∷ stored) = behind_is (place + 5 + length s.payload) stored

gate_by : (r : Result (List Stored) ℕ) (xs : List (List ℕ)) → payloads_in r ≡ Some xs → gate_in r ≡ Some (behind 0 xs)
gate_by (Ok stored) xs e =
    let same : map (λ (s : Stored). s.payload) stored ≡ xs = cc in
    ap (λ n. Some n) (behind_is 0 stored ∙ ap (behind 0) same)
gate_by (Err place) xs e = absurd cc

gate_of_entries : (bytes : List ℕ) (es : List Entry) → HoldsEntries bytes es → gate_of bytes ≡ Some (behind 0 (map payload es))
gate_of_entries bytes es held = gate_by (stored_of bytes) (map payload es) held.payloads

not_none : (es : List Entry) → 0 < length es → es ≡ [] → ⊥
not_none [] some e = omega (arith, some)
not_none (x ∷ es) some e = cc

-- the closed gate of an opened journal
pub opened_gate : PayloadsDiffer → (w : Window) (bytes : List ℕ) (es : List Entry) (seen : Option (List ℕ)) (gate : ℕ) → 0 < length es → StillTells (Some bytes) seen → IfSome seen (λ now. HoldsEntries now es) → IfSome seen (IsAtRest gate) → HoldsEntries bytes es ⊎ (HoldsEntries bytes [] × (es ≡ Begin w ∷ [])) → IsOpenedGate w bytes gate
opened_gate differ w bytes es None gate some still held rest from = absurd still
opened_gate differ w bytes es (Some now) gate some still held rest from =
    let here : Some gate ≡ Some (behind 0 (map payload es)) = sym rest.place ∙ gate_of_entries now es held in
    ⊎_elim
    (λ (old : HoldsEntries bytes es). inl (gate_of_entries bytes es old ∙ sym here, λ none. not_none es some (entries_once differ bytes es [] old none)))
    (λ (begun : HoldsEntries bytes [] × (es ≡ Begin w ∷ [])).
    let there : Some gate ≡ Some (behind 0 (map payload (Begin w ∷ []))) = here ∙ ap (λ (l : List Entry). Some (behind 0 (map payload l))) begun.1 in
    let same : gate ≡ behind 0 (map payload (Begin w ∷ [])) = cc in
    inr (begun.0, same))
    from

-- a journal without entries is begun only beside an output without bytes
none_stored : (r : Result (List Stored) ℕ) → payloads_in r ≡ Some [] → r ≡ Ok []
none_stored (Ok []) e = refl
none_stored (Ok (s ∷ stored)) e = absurd cc
none_stored (Err place) e = absurd cc

no_bytes : (text : List ℕ) → (0 < length text → ⊥) → text ≡ []
no_bytes [] none = refl
no_bytes (x ∷ text) none = absurd (none (omega arith))

pub begun_by : (seen text : Option (List ℕ)) → IfSome seen (λ bytes. IfSome text (λ t. stored_of bytes ≡ Ok [] → 0 < length t → ⊥)) → IfSome seen (λ bytes. IfSome text (λ t. HoldsEntries bytes [] → t ≡ []))
begun_by None text h = tt
begun_by (Some bytes) None h = tt
begun_by (Some bytes) (Some t) h = λ held. no_bytes t (h (none_stored (stored_of bytes) held.payloads))

-- ---- what is bad of a journal

-- the entry that a payload stands for, behind others that were read
abbrev IsSplit : List Stored → Stored → List Entry → List Entry → Type 0
IsSplit before bad entries es = (e : Entry) × (rest : List Entry) × Spells bad.payload e × ((entries ++ e ∷ []) ++ rest ≡ es)

split : PayloadsDiffer → (before after : List Stored) (bad : Stored) (entries es : List Entry) → AreRead before entries → ((e : Entry) → Contains es e → IsInFormat e) → map (λ (s : Stored). s.payload) (before ++ (bad ∷ after)) ≡ map payload es → IsSplit before bad entries es
split differ [] after bad (e ∷ entries) es read form same = absurd read
split differ (s ∷ before) after bad [] es read form same = absurd read
split differ [] after bad [] [] read form same = absurd cc
split differ [] after bad [] (x ∷ xs) read form same =
    let written : bad.payload ≡ payload x = cc in
    (x, xs, record { in_format = form x (in_head x xs); written = written }, refl)
split differ (s ∷ before) after bad (e ∷ entries) [] read form same = absurd cc
split differ (s ∷ before) after bad (e ∷ entries) (x ∷ xs) read form same =
    let both : (s.payload ≡ payload x) × (map (λ (t : Stored). t.payload) (before ++ (bad ∷ after)) ≡ map payload xs) = (cc, cc) in
    let first : e ≡ x = differ e x read.0.in_format (form x (in_head x xs)) (sym read.0.written ∙ both.0) in
    let more = split differ before after bad entries xs read.1 (λ y i. form y (in_tail x y xs i)) both.1 in
    let rest : (entries ++ more.0 ∷ []) ++ more.1 ≡ xs = more.3 in
    let whole : e ∷ ((entries ++ more.0 ∷ []) ++ more.1) ≡ x ∷ xs = cc in
    (more.0, more.1, more.2, whole)

joined_none : (es : List Entry) → es ++ [] ≡ es
joined_none [] = refl
joined_none (x ∷ es) = ap (λ l. x ∷ l) (joined_none es)

one_window : (v w : Window) (es : List Entry) → 0 < length es → Folds v es → Folds w es → v ≡ w
one_window v w [] some F G = absurd (omega (arith, some))
one_window v w (x ∷ es) some F G =
    let same : Begin v ≡ Begin w = sym F.0 ∙ G.0 in
    cc

-- ---- over what earlier runs left

module _ (differ : PayloadsDiffer) (f : Feed) (w : Window) (old : Files) (L : HoldsFollowing f w old) where
  follow_folds : (xs ys : List Entry) → xs ++ ys ≡ L.now.0 → Folds w xs
  follow_folds xs ys e = (L.now.2.consistent xs ys e).folds

  -- it has no bad entry
  pub not_bad : (gate : ℕ) → IfSome old.journal (λ bytes. (stored_of bytes ≡ Err gate) ⊎ ((stored : List Stored) × (stored_of bytes ≡ Ok stored) × IsBadEntry stored gate)) → ⊥
  not_bad gate h =
      let bytes = L.bytes in
      let es = L.now.0 in
      let held : HoldsEntries bytes es = L.now.1 in
      ⊎_elim
      (λ (broken : stored_of bytes ≡ Err gate). let none : None ≡ Some (map payload es) = sym (ap (λ r. payloads_in r) broken) ∙ held.payloads in absurd cc)
      (λ (b : (stored : List Stored) × (stored_of bytes ≡ Ok stored) × IsBadEntry stored gate).
      let B = b.2 in
      let told : Some (map (λ (s : Stored). s.payload) b.0) ≡ Some (map payload es) = sym (ap (λ r. payloads_in r) b.1) ∙ held.payloads in
      let all : map (λ (s : Stored). s.payload) b.0 ≡ map payload es = cc in
      let parts : map (λ (s : Stored). s.payload) (B.before ++ (B.bad ∷ B.after)) ≡ map payload es = subst (λ (l : List Stored). map (λ (s : Stored). s.payload) l ≡ map payload es) B.parts all in
      let S = split differ B.before B.after B.bad B.entries es B.read held.in_format parts in
      B.not_with S.0 S.2 (w, follow_folds (B.entries ++ S.0 ∷ []) S.1 S.3))
      (subst (λ o. IfSome o (λ bytes. (stored_of bytes ≡ Err gate) ⊎ ((stored : List Stored) × (stored_of bytes ≡ Ok stored) × IsBadEntry stored gate))) L.told h)

  -- its entries are of no other window
  pub not_other : (other : Window) → ((other ≡ w) → ⊥) → IfSome old.journal (λ bytes. (es : List Entry) × HoldsEntries bytes es × (Folds other es × (0 < length es))) → ⊥
  not_other other differs h =
      let T = subst (λ o. IfSome o (λ bytes. (es : List Entry) × HoldsEntries bytes es × (Folds other es × (0 < length es)))) L.told h in
      let same : T.0 ≡ L.now.0 = entries_once differ L.bytes T.0 L.now.0 T.1 L.now.1 in
      differs (one_window other w T.0 T.2.1 T.2.0 (follow_folds T.0 [] (joined_none T.0 ∙ same)))

abbrev AsBefore : Files → Files → Type 0
AsBefore old new = WhereTold HasSamePayloads old.journal new.journal × KeepsAnOldImage old.journal old.journal_crash new.journal_crash × Keeps old.output new.output

abbrev OutputStays : Files → Files → Type 0
OutputStays old new = IsUntouched old.output new.output old.output_crash new.output_crash

stays : {old new : Files} → AsBefore old new → OutputStays old new → FilesStay old new
stays h o = record { payloads = h.0; images = h.1; output = o }

-- what a run says of it
module _ (differ : PayloadsDiffer) (db : Database) (w : Window) (pace : Pace) (moment : ℕ) (old new : Files) where
  pub refused_so : (fault : OpenFault) (status : Status) → IsNotOpened fault status → IsRefusal w old.journal old.output old.journal_faults old.output_faults fault new.journal_faults new.output_faults → IfNothingIsWritten fault (AsBefore old new) → IfNothingIsWritten fault (OutputStays old new) → IfGateIsBroken fault old.journal (IsUntouched old.journal new.journal old.journal_crash new.journal_crash) → HasReplayed db w pace moment old new status
  refused_so faults.JournalFault status e h stay o broken = subst (HasReplayed db w pace moment old new) (sym e) h
  refused_so (faults.BadJournal gate) status e h stay o broken = subst (HasReplayed db w pace moment old new) (sym e) (h, stays stay o, broken, λ f is L. not_bad differ f w old L gate h)
  refused_so (faults.OtherJournal other) status e h stay o broken = subst (HasReplayed db w pace moment old new) (sym e) (h, stays stay o, λ f is L. not_other differ f w old L other h.0 h.1)
  refused_so (faults.OutputNotEmpty count) status e h stay o broken = subst (HasReplayed db w pace moment old new) (sym e) (h, stays stay o)
  refused_so faults.OutputFault status e h stay o broken = subst (HasReplayed db w pace moment old new) (sym e) h.0
  refused_so faults.Memory status e h stay o broken = subst (HasReplayed db w pace moment old new) (sym e) tt

-- ---- where it can be gone on with

module _ (begin : BeginIsConsistent) (differ : PayloadsDiffer) (f : Feed) (w : Window) (moment : ℕ) (old : Files) (C : CanEndIn f w moment old) where
  -- an opened journal can be gone on with
  pub opened_can : (es : List Entry) (seen : Option (List ℕ)) (gate : ℕ) → 0 < length es → IsFrom w old.journal es → StillTells old.journal seen → IfSome seen (λ now. HoldsEntries now es) → IfSome seen (IsAtRest gate) → CanGoOn f w moment gate es
  opened_can es seen gate some from still held rest =
      let came : HoldsEntries C.left.bytes es ⊎ (HoldsEntries C.left.bytes [] × (es ≡ Begin w ∷ [])) = subst (λ o. IsFrom w o es) C.left.told from in
      record {
        following = opened_follow begin differ f w old C.left es from;
        born = C.born;
        late = C.late;
        kept = ⊎_elim
            (λ (here : HoldsEntries C.left.bytes es). C.kept es here)
            (λ (begun : HoldsEntries C.left.bytes [] × (es ≡ Begin w ∷ [])). subst (λ (l : List Entry). moment - f.retention_us ≤ low w (rows_of w.start l)) (sym begun.1) (C.kept [] begun.0))
            came;
        fits = C.fits gate (opened_gate differ w C.left.bytes es seen gate some (subst (λ o. StillTells o seen) C.left.told still) held rest came);
      }

  -- and where it has none the output has no byte
  not_filled : (count : ℕ) → IfSome old.journal (λ bytes. stored_of bytes ≡ Ok []) → 0 < count → IfSome old.output (λ bytes. count ≡ length bytes) → ⊥
  not_filled count h some is =
      let none : stored_of C.left.bytes ≡ Ok [] = subst (λ o. IfSome o (λ bytes. stored_of bytes ≡ Ok [])) C.left.told h in
      let empty : old.output ≡ Some [] = C.empty (record { payloads = ap (λ r. payloads_in r) none; in_format = λ e i. absurd (in_nil e i) }) in
      let zero_is : count ≡ 0 = subst (λ o. IfSome o (λ bytes. count ≡ length bytes)) empty is in
      omega (arith, some, zero_is)

  -- so its opening fails for a fault of a file or for want of memory alone
  pub refused_ends : (fault : OpenFault) (status : Status) (journal_now output_now : ℕ) → IsNotOpened fault status → IsRefusal w old.journal old.output old.journal_faults old.output_faults fault journal_now output_now → OnlyEndsBy (Rose old.journal_faults journal_now) (Rose old.output_faults output_now) status
  refused_ends faults.JournalFault status journal_now output_now e h = subst (OnlyEndsBy (Rose old.journal_faults journal_now) (Rose old.output_faults output_now)) (sym e) h
  refused_ends (faults.BadJournal gate) status journal_now output_now e h = absurd (not_bad differ f w old C.left gate h)
  refused_ends (faults.OtherJournal other) status journal_now output_now e h = absurd (not_other differ f w old C.left other h.0 h.1)
  refused_ends (faults.OutputNotEmpty count) status journal_now output_now e h = absurd (not_filled count h.0 h.1 h.2)
  refused_ends faults.OutputFault status journal_now output_now e h = subst (OnlyEndsBy (Rose old.journal_faults journal_now) (Rose old.output_faults output_now)) (sym e) h.0
  refused_ends faults.Memory status journal_now output_now e h = subst (OnlyEndsBy (Rose old.journal_faults journal_now) (Rose old.output_faults output_now)) (sym e) tt
