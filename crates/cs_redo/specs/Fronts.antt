-- A file beside a text, and what stays of it. This project's own.
use Rattle.std.specs.Prelude.{◌≡◌, ℕ, List, take, ⊤, Option, None, Some, IfSome}
use Rattle.std.specs.Io.KnownBytes.{Keeps}
use Rattle.cs_device.specs.Crash.{Crash, CrashesLeave}

-- where the bytes are told they are these
abbrev pub Holds : List ℕ → Option (List ℕ) → Type 0
Holds text seen = IfSome seen (λ bytes. bytes ≡ text)

-- the first bytes, so many, are the same in both
abbrev pub Agree : ℕ → List ℕ → List ℕ → Type 0
Agree count one other = take count other ≡ take count one

-- As far as the bytes of a file agree with a text, the new list is the old one. Where the file is the text, that
-- is the whole list.
abbrev pub KeepsFronts : List ℕ → List ℕ → List ℕ → List ℕ → Type 0
KeepsFronts text bytes old new = (count : ℕ) → Agree count text bytes → Agree count old new

-- the bytes of the file stay as far as they agree with the text
abbrev pub FrontsStay : List ℕ → List ℕ → List ℕ → Type 0
FrontsStay text old new = KeepsFronts text old old new

-- an image from before, which stayed as far as the bytes of the file agree with the text
abbrev pub KeepsFrontsOf : List ℕ → List ℕ → Crash → List ℕ → Type 0
KeepsFrontsOf text bytes before image = (old : List ℕ) × before.may_leave old × KeepsFronts text bytes old image

-- an image from before, whose first bytes, so many, stayed
abbrev pub KeepsFront : ℕ → Crash → List ℕ → Type 0
KeepsFront count before image = (old : List ℕ) × before.may_leave old × Agree count old image

-- where the bytes were told they are told still, and go with the old ones so
abbrev pub WhereTold : (List ℕ → List ℕ → Type 0) → Option (List ℕ) → Option (List ℕ) → Type 0
WhereTold P None new = ⊤
WhereTold P (Some old) None = ⊥
WhereTold P (Some old) (Some new) = P old new

-- the bytes read as before, and a crash since leaves no image that one before could not leave
pub record IsUntouched (seen now : Option (List ℕ)) (old new : Crash) : Type 0 where
  pub kept : Keeps seen now
  pub quiet : CrashesLeave old.may_leave old new
