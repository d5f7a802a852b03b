-- What a disk in memory keeps of its past, and what a crash may leave of it. This project's own.
use Rattle.std.specs.Prelude.{◌≡◌, ◌⊎◌, ℕ, ◌≤◌, List, [], ◌∷◌, length, take, Bool, true, false, cond, nat_le, refl}
use Rattle.std.specs.Coded.{Coded, code_by, coded×, coded⊎, coded_ℕ, coded_bool, coded_list}
use Rattle.std.proofs.Common.{arith, inl, inr}
use Rattle.cs_device.specs.Disk.{IsTornAt, overwrite}
use Rattle.cs_device.specs.Crash.{Crash, IsShortened}

-- a call that changed a disk, or was stopped on its way: the last of its values says whether it was done
pub data DiskCall : Type 0 where
  Wrote : ℕ → List ℕ → Bool → DiskCall
  CutTo : ℕ → Bool → DiskCall
  Synced : DiskCall

-- a call as its values
abbrev parts : DiskCall → (ℕ × (List ℕ × Bool)) ⊎ ((ℕ × Bool) ⊎ ℕ)
parts (Wrote at bytes done) = inl (at, (bytes, done))
parts (CutTo to done) = inr (inl (to, done))
parts Synced = inr (inr 0)

abbrev call : (ℕ × (List ℕ × Bool)) ⊎ ((ℕ × Bool) ⊎ ℕ) → DiskCall
call (inl p) = Wrote p.0 p.1.0 p.1.1
call (inr (inl p)) = CutTo p.0 p.1
call (inr (inr n)) = Synced

pub call_parts : (c : DiskCall) → call (parts c) ≡ c
call_parts (Wrote at bytes done) = refl
call_parts (CutTo to done) = refl
call_parts Synced = refl

-- a call is stored as its values
abbrev pub call_code : Coded DiskCall
call_code =
    code_by ((ℕ × (List ℕ × Bool)) ⊎ ((ℕ × Bool) ⊎ ℕ)) (coded⊎ (coded× coded_ℕ (coded× (coded_list coded_ℕ) coded_bool)) (coded⊎ (coded× coded_ℕ coded_bool) coded_ℕ)) parts call call_parts

-- bytes after a write, which is done where its place is at most their length
abbrev pub written_over : ℕ → List ℕ → List ℕ → List ℕ
written_over at piece bytes = cond (nat_le at (length bytes)) (overwrite at piece bytes) bytes

-- what a read gives, from the first bytes and the calls since, the latest first
abbrev pub content : List ℕ → List DiskCall → List ℕ
content first [] = first
content first (Wrote at bytes true ∷ past) = written_over at bytes (content first past)
content first (CutTo to true ∷ past) = take to (content first past)
content first (Wrote at bytes false ∷ past) = content first past
content first (CutTo to false ∷ past) = content first past
content first (Synced ∷ past) = content first past

-- What a crash may leave now: after a sync what a read gave then; after another call an image from before it, with
-- what that call may do to it.
abbrev pub MayLeave : List ℕ → List DiskCall → List ℕ → Type 0
MayLeave first [] image = image ≡ first
MayLeave first (Wrote at bytes done ∷ past) image = (before : List ℕ) × MayLeave first past before × IsTornAt at (length bytes) before image
MayLeave first (CutTo to done ∷ past) image = (before : List ℕ) × MayLeave first past before × IsShortened to before image
MayLeave first (Synced ∷ past) image = image ≡ content first past

-- what a crash might have left after this many of the calls, or after more of them
abbrev pub MightHaveLeft : List ℕ → List DiskCall → ℕ → List ℕ → Type 0
MightHaveLeft first [] since image = MayLeave first [] image
MightHaveLeft first (call ∷ past) since image = MayLeave first (call ∷ past) image ⊎ ((since ≤ length past) × MightHaveLeft first past since image)

pub might_now : (first : List ℕ) (past : List DiskCall) (since : ℕ) (image : List ℕ) → MayLeave first past image → MightHaveLeft first past since image
might_now first [] since image may = may
might_now first (call ∷ past) since image may = inl may

pub only_now : (first : List ℕ) (past : List DiskCall) (image : List ℕ) → MightHaveLeft first past (length past) image → MayLeave first past image
only_now first [] image might = might
only_now first (call ∷ past) image (inl may) = may
only_now first (call ∷ past) image (inr before) = absurd (omega (arith, before.0))

-- what a crash may leave of a disk with these first bytes and these calls since
abbrev pub crash_of : List ℕ → List DiskCall → Crash
crash_of first past =
    record {
      moment = length past;
      may_leave = MayLeave first past;
      might_have_left = MightHaveLeft first past;
      counts_now = λ since image _ may. might_now first past since image may;
      only_now = only_now first past;
    }
