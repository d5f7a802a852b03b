-- What a crash leaves of a journal. This project's own.
use Rattle.std.specs.Prelude.{◌≡◌, ◌⊎◌, ℕ, List, Option, IfSome}
use Rattle.std.specs.Io.KnownBytes.{Keeps}
use Rattle.cs_device.specs.Disk.{IsTornAt}
use Rattle.cs_device.specs.Crash.{Crash, CrashesLeave, IsShortened}
use Rattle.cs_journal.specs.Rows.{stored_of, payloads_of, with_payload}

-- the bytes hold the payloads of an image that a crash might have left before
abbrev pub HoldsAnOldImage : Crash → List ℕ → Type 0
HoldsAnOldImage before image = (old : List ℕ) × before.may_leave old × (payloads_of image ≡ payloads_of old)

-- the bytes hold the payloads from before a `put`, or these with the new one
abbrev pub IsBeforeOrAfter : List ℕ → List ℕ → List ℕ → Type 0
IsBeforeOrAfter bytes payload image = (payloads_of image ≡ payloads_of bytes) ⊎ (payloads_of image ≡ with_payload payload (payloads_of bytes))

-- an image from before, with a range of it torn
abbrev pub IsTornOf : Crash → ℕ → ℕ → List ℕ → Type 0
IsTornOf before at count image = (old : List ℕ) × before.may_leave old × IsTornAt at count old image

-- an image from before, cut short
abbrev pub IsCutOf : Crash → ℕ → List ℕ → Type 0
IsCutOf before to image = (old : List ℕ) × before.may_leave old × IsShortened to old image

-- the new bytes hold the payloads of the old, at the same places
abbrev pub HasSamePayloads : List ℕ → List ℕ → Type 0
HasSamePayloads old new = stored_of new ≡ stored_of old

-- where the bytes are told, a crash at any moment leaves their payloads
abbrev pub KeepsPayloads : Option (List ℕ) → Crash → Crash → Type 0
KeepsPayloads seen old new = IfSome seen (λ bytes. CrashesLeave (HasSamePayloads bytes) old new)

-- where the bytes are told, a crash at any moment leaves the payloads of an image that one might have left before
abbrev pub KeepsAnOldImage : Option (List ℕ) → Crash → Crash → Type 0
KeepsAnOldImage seen old new = IfSome seen (λ _. CrashesLeave (HoldsAnOldImage old) old new)

-- the bytes read as before, and a crash since leaves no image that one before could not leave
pub record IsUntouched (seen now : Option (List ℕ)) (old new : Crash) : Type 0 where
  pub kept : Keeps seen now
  pub quiet : CrashesLeave old.may_leave old new
