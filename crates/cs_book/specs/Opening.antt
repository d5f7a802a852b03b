-- Why a book is not opened, and what a crash leaves of its journal meanwhile. This project's own.
use Rattle.std.specs.Prelude.{◌≡◌, ◌≢◌, ◌⊎◌, ◌<◌, ⊤, ℕ, List, [], ◌∷◌, None, Some, Option, IfSome, length, Ok, Err}
use Rattle.cs_device.specs.Causes.{Rose}
use Rattle.std.proofs.Common.{⊎_elim, ◌∙◌}
use Rattle.cs_device.specs.Crash.{Crash, CrashesLeave, crashes_weaker}
use Rattle.cs_journal.specs.Crashes.{HoldsAnOldImage}
use Rattle.cs_journal.specs.Rows.{payloads_of, stored_of}
use Rattle.cs_journal.specs.declared.journal.Stored.{Stored}
use Rattle.cs_schedule.specs.declared.entry.Entry.{Entry}
use Rattle.cs_schedule.specs.declared.entry.Entry.TheVariants.{Begin}
use Rattle.cs_schedule.specs.Rows.{Folds}
use Rattle.cs_types.specs.declared.names.Window.{Window}
use Rattle.cs_book.specs.Entries.{HoldsEntries, HoldsSuch}
use Rattle.cs_book.specs.Reading.{AreRead, IsBadEntry}
use Rattle.cs_book.specs.declared.fault.OpenFault.{OpenFault}
use Rattle.cs_book.specs.declared.fault.OpenFault.TheVariants as faults

-- ---- step by step

-- the output's count rose, or there was no memory
abbrev pub IsOutputFault : ℕ → OpenFault → ℕ → Type 0
IsOutputFault before faults.OutputFault now = Rose before now
IsOutputFault before faults.Memory now = ⊤
IsOutputFault before _ now = ⊥

-- the journal is of another window, or the output's count rose
abbrev pub IsReopenFault : Window → Window → ℕ → OpenFault → ℕ → Type 0
IsReopenFault found window before (faults.OtherJournal other) now = (other ≡ found) × (found ≢ window)
IsReopenFault found window before faults.OutputFault now = (found ≡ window) × Rose before now
IsReopenFault found window before faults.Memory now = ⊤
IsReopenFault found window before _ now = ⊥

-- the count of the disk that failed rose, or there was no memory
abbrev pub IsBeginFault : ℕ → ℕ → OpenFault → ℕ → ℕ → Type 0
IsBeginFault journal output faults.JournalFault journal_now output_now = Rose journal journal_now
IsBeginFault journal output faults.OutputFault journal_now output_now = Rose output output_now
IsBeginFault journal output faults.Memory journal_now output_now = ⊤
IsBeginFault journal output _ journal_now output_now = ⊥

-- the same, or the output has bytes
abbrev pub IsFirstFault : Option (List ℕ) → ℕ → ℕ → OpenFault → ℕ → ℕ → Type 0
IsFirstFault text journal output (faults.OutputNotEmpty count) journal_now output_now = (0 < count) × IfSome text (λ bytes. count ≡ length bytes)
IsFirstFault text journal output fault journal_now output_now = IsBeginFault journal output fault journal_now output_now

-- what is refused of a journal of these payloads
abbrev pub IsOpenFault : Window → List Stored → Option (List ℕ) → ℕ → ℕ → OpenFault → ℕ → ℕ → Type 0
IsOpenFault w stored text journal output faults.JournalFault journal_now output_now = Rose journal journal_now
IsOpenFault w stored text journal output (faults.BadJournal gate) journal_now output_now = IsBadEntry stored gate
IsOpenFault w stored text journal output (faults.OtherJournal other) journal_now output_now = (other ≢ w) × (es : List Entry) × AreRead stored es × (Folds other es × (0 < length es))
IsOpenFault w stored text journal output (faults.OutputNotEmpty count) journal_now output_now = (stored ≡ []) × (0 < count) × IfSome text (λ bytes. count ≡ length bytes)
IsOpenFault w stored text journal output faults.OutputFault journal_now output_now = Rose output output_now × ((es : List Entry) × AreRead stored es × Folds w es)
IsOpenFault w stored text journal output faults.Memory journal_now output_now = ⊤

-- ---- from the disks

-- the entries are those that the bytes held, or the one that begins the window where they held none
abbrev pub IsFrom : Window → Option (List ℕ) → List Entry → Type 0
IsFrom w seen es = IfSome seen (λ bytes. HoldsEntries bytes es ⊎ (HoldsEntries bytes [] × (es ≡ Begin w ∷ [])))

-- the payloads are those of the bytes, or that of the one entry that begins the window, where they were none
abbrev pub HoldsSameOrFirst : Window → List ℕ → List ℕ → Type 0
HoldsSameOrFirst w bytes image = (payloads_of image ≡ payloads_of bytes) ⊎ (HoldsEntries bytes [] × HoldsEntries image (Begin w ∷ []))

-- the payloads are those of an image that a crash might have left before, or that of the one entry that begins the window, where one of these images had none
abbrev pub HoldsOldOrFirst : Window → Crash → List ℕ → Type 0
HoldsOldOrFirst w before image = HoldsAnOldImage before image ⊎ (((old : List ℕ) × before.may_leave old × HoldsEntries old []) × HoldsEntries image (Begin w ∷ []))

-- why a book is not opened, by the bytes of its journal and its output, and by their counts of faults
abbrev pub IsRefusal : Window → Option (List ℕ) → Option (List ℕ) → ℕ → ℕ → OpenFault → ℕ → ℕ → Type 0
-- the journal's count rose
IsRefusal w seen text journal output faults.JournalFault journal_now output_now = Rose journal journal_now
-- an open gate has no whole entry behind it; or there is none, and this is the gate of the first entry that is none or does not follow
IsRefusal w seen text journal output (faults.BadJournal gate) journal_now output_now = IfSome seen (λ bytes. (stored_of bytes ≡ Err gate) ⊎ ((stored : List Stored) × (stored_of bytes ≡ Ok stored) × IsBadEntry stored gate))
-- the entries are of another window
IsRefusal w seen text journal output (faults.OtherJournal other) journal_now output_now = (other ≢ w) × IfSome seen (λ bytes. (es : List Entry) × HoldsEntries bytes es × (Folds other es × (0 < length es)))
-- there is no entry, and the output has bytes
IsRefusal w seen text journal output (faults.OutputNotEmpty count) journal_now output_now = IfSome seen (λ bytes. stored_of bytes ≡ Ok []) × (0 < count) × IfSome text (λ bytes. count ≡ length bytes)
-- the output's count rose, and there are entries, if any, that the window begins
IsRefusal w seen text journal output faults.OutputFault journal_now output_now = Rose output output_now × IfSome seen (λ bytes. (es : List Entry) × HoldsEntries bytes es × Folds w es)
IsRefusal w seen text journal output faults.Memory journal_now output_now = ⊤

-- a fault by which nothing is written
abbrev pub IfNothingIsWritten : OpenFault → Type 0 → Type 0
IfNothingIsWritten (faults.BadJournal gate) stays = stays
IfNothingIsWritten (faults.OtherJournal other) stays = stays
IfNothingIsWritten (faults.OutputNotEmpty count) stays = stays
IfNothingIsWritten _ stays = ⊤

-- the journal is refused because the open gate at this place has no whole entry behind it
abbrev pub IfGateIsBroken : OpenFault → Option (List ℕ) → Type 0 → Type 0
IfGateIsBroken (faults.BadJournal gate) seen stays = IfSome seen (λ bytes. stored_of bytes ≡ Err gate → stays)
IfGateIsBroken _ seen stays = ⊤

-- ---- what crashes keep

held_such : (P : List Entry → Type 0) (old image : List ℕ) → payloads_of image ≡ payloads_of old → HoldsSuch P old → HoldsSuch P image
held_such P old image same held = (held.0, record { payloads = same ∙ held.1.payloads; in_format = held.1.in_format }, held.2)

-- Where each image that a crash might have left before is of entries with a property, which the one entry that begins the window has too, so is each that a crash inside of an opening may leave. Consistent entries are such, and no entry is consistent.
pub openings_leave_such : (P : List Entry → Type 0) (w : Window) (old new : Crash) → P (Begin w ∷ []) → ((image : List ℕ) → old.may_leave image → HoldsSuch P image) → CrashesLeave (HoldsOldOrFirst w old) old new → CrashesLeave (HoldsSuch P) old new
openings_leave_such P w old new first before =
    crashes_weaker (HoldsOldOrFirst w old) (HoldsSuch P) old new
    (λ image. ⊎_elim
    (λ (kept : HoldsAnOldImage old image). held_such P kept.0 image kept.2 (before kept.0 kept.1))
    (λ (begun : ((bytes : List ℕ) × old.may_leave bytes × HoldsEntries bytes []) × HoldsEntries image (Begin w ∷ [])). (Begin w ∷ [], begun.1, first)))
