-- A disk in memory that a call changed.
use Rattle.std.proofs.Common.{◌≡◌, ◌<◌, ◌≤◌, ◌+◌, ◌↔◌, inl, inr, ℕ, List, ◌∷◌, length, cond, nat_le, Bool, false, true, refl, sym, ◌∙◌, ap, subst, arith, IsTrue}
use Rattle.std.proofs.lemmas.Bool.{cases_lt, false≢true}
use Rattle.std.proofs.lemmas.Bool.Decides.{nat_tests}
use Rattle.cs_device.specs.Crash.{Leaves, IsUnchanged}
use Rattle.cs_device.specs.Disk.{overwrite}
use Rattle.cs_device.specs.Past.{DiskCall, Wrote, Synced, MayLeave, content, crash_of, written_over}
use Rattle.cs_device.specs.Images.{reads_image}
use Rattle.cs_device.specs.Memory.{DiskState, DiskFails, DiskWriteFails}

-- a call that does not fail is allowed
pub allowed_call : (d : DiskState) (fails : Bool) → (IsTrue fails ↔ DiskFails d) → fails ≡ false → d.calls.made < d.allowed
allowed_call d fails exact passes = elim (cases_lt d.calls.made d.allowed) [
  | inl below ↦ below
  | inr above ↦ absurd (false≢true (sym passes ∙ exact.1 (inr (inl above))))
]

-- and so is a write
pub allowed_write : (d : DiskState) (count : ℕ) (fails : Bool) → (IsTrue fails ↔ DiskWriteFails d count) → fails ≡ false → d.calls.made < d.allowed
allowed_write d count fails exact passes = elim (cases_lt d.calls.made d.allowed) [
  | inl below ↦ below
  | inr above ↦ absurd (false≢true (sym passes ∙ exact.1 (inl (inr (inl above)))))
]

-- a write that does not fail has room
pub room_for : (d : DiskState) (count : ℕ) (fails : Bool) → (IsTrue fails ↔ DiskWriteFails d count) → fails ≡ false → d.written + count ≤ d.room
room_for d count fails exact passes = elim (cases_lt d.room (d.written + count)) [
  | inl past ↦ absurd (false≢true (sym passes ∙ exact.1 (inr past)))
  | inr fits ↦ fits
]

-- bytes that are written over, as what a read gives
pub written_within : (first : List ℕ) (past : List DiskCall) (at : ℕ) (piece bytes bytes_now : List ℕ) → bytes ≡ content first past → at ≤ length bytes → bytes_now ≡ overwrite at piece bytes → bytes_now ≡ content first (Wrote at piece true ∷ past)
written_within first past at piece bytes bytes_now same within is =
    let le : nat_le at (length bytes) ≡ true = grind (arith, nat_tests) in
    is ∙ sym (ap (λ (b : Bool). cond b (overwrite at piece bytes) bytes) le) ∙ ap (λ (b : List ℕ). written_over at piece b) same

-- a sync leaves each image as it may be
pub synced : (first : List ℕ) (past past_now : List DiskCall) → past_now ≡ Synced ∷ past → Leaves IsUnchanged (crash_of first past) (crash_of first past_now)
synced first past past_now is = subst (λ p. Leaves IsUnchanged (crash_of first past) (crash_of first p)) (sym is) (record {
  later = omega arith;
  now = λ image same. (image, subst (MayLeave first past) (sym same) (reads_image first past), refl);
  nothing_else = λ t image le might. elim might [ inl now ↦ inr now | inr before ↦ inl before.1 ];
  kept = λ t image le might. inr (le, might);
})
