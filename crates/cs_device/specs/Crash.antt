-- What a crash may leave of a disk. This project's own, after what POSIX leaves open between two calls of fsync.
use Rattle.std.specs.Prelude.{◌≡◌, ◌⊎◌, ℕ, ◌≤◌, min, List, length, take, ⊤}
use Rattle.std.proofs.Common.{inl, inr, ⊎_elim, arith}

-- what a crash may leave at this moment, and what one at some moment since an earlier one might have left
pub record Crash : Type 1 where
  -- a number that does not fall
  pub moment : ℕ
  pub may_leave : List ℕ → Type 0
  pub might_have_left : ℕ → List ℕ → Type 0
  -- this moment is one of those since an earlier one
  pub counts_now : (t : ℕ) (image : List ℕ) → t ≤ moment → may_leave image → might_have_left t image
  -- since this moment there is no other
  pub only_now : (image : List ℕ) → might_have_left moment image → may_leave image

-- nothing is told: a crash may leave anything
abbrev pub anything : Crash
anything = record { moment = 0; may_leave = λ _. ⊤; might_have_left = λ _ _. ⊤; counts_now = λ _ _ _ _. tt; only_now = λ _ _. tt }

-- An image after a cut that is not synced: some first bytes of the one before, none of those that the cut left are gone.
pub record IsShortened (to : ℕ) (before after : List ℕ) : Type 0 where
  pub front : after ≡ take (length after) before
  pub as_long : min to (length before) ≤ length after

-- an image is as it was
abbrev pub IsUnchanged : List ℕ → List ℕ → Type 0
IsUnchanged before after = after ≡ before

-- A call that does no more than this to an image: each one that a crash may leave after it is one from before
-- it, with this done. A crash at a moment since an earlier one might have left what it might before, or what it may now.
pub record Leaves (does : List ℕ → List ℕ → Type 0) (old new : Crash) : Type 0 where
  pub later : old.moment ≤ new.moment
  pub now : (image : List ℕ) → new.may_leave image → (before : List ℕ) × old.may_leave before × does before image
  pub nothing_else : (t : ℕ) (image : List ℕ) → t ≤ old.moment → new.might_have_left t image → old.might_have_left t image ⊎ new.may_leave image
  pub kept : (t : ℕ) (image : List ℕ) → t ≤ old.moment → old.might_have_left t image → new.might_have_left t image

-- a crash leaves these bytes
abbrev pub LeavesOnly : Crash → List ℕ → Type 0
LeavesOnly crash bytes = (image : List ℕ) → crash.may_leave image → image ≡ bytes

-- From an earlier time on, a crash at any moment leaves bytes with this property.
pub record CrashesLeave (P : List ℕ → Type 0) (old new : Crash) : Type 0 where
  pub later : old.moment ≤ new.moment
  pub since : (image : List ℕ) → new.might_have_left old.moment image → P image
  -- for what began before that
  pub earlier : (t : ℕ) (image : List ℕ) → t ≤ old.moment → new.might_have_left t image → old.might_have_left t image ⊎ P image

-- it holds before the first call where each image has the property
pub crashes_now : (P : List ℕ → Type 0) (crash : Crash) → ((image : List ℕ) → crash.may_leave image → P image) → CrashesLeave P crash crash
crashes_now P crash holds = record { later = omega arith; since = λ image left. holds image (crash.only_now image left); earlier = λ t image le left. inl left }

-- and after one call more
pub crashes_then : (P : List ℕ → Type 0) (does : List ℕ → List ℕ → Type 0) (old mid new : Crash) → CrashesLeave P old mid → Leaves does mid new → ((image : List ℕ) → new.may_leave image → P image) → CrashesLeave P old new
crashes_then P does old mid new so_far call holds = record {
  later = omega (arith, so_far.later, call.later);
  since = λ image left. ⊎_elim (so_far.since image) (holds image) (call.nothing_else old.moment image so_far.later left);
  earlier = λ t image le left. ⊎_elim (so_far.earlier t image le) (λ may. inr (holds image may)) (call.nothing_else t image (omega (arith, le, so_far.later)) left);
}

-- one time after another
pub crashes_both : (P : List ℕ → Type 0) (old mid new : Crash) → CrashesLeave P old mid → CrashesLeave P mid new → CrashesLeave P old new
crashes_both P old mid new first second = record {
  later = omega (arith, first.later, second.later);
  since = λ image left. ⊎_elim (first.since image) (λ holds. holds) (second.earlier old.moment image first.later left);
  earlier = λ t image le left. ⊎_elim (first.earlier t image le) (λ holds. inr holds) (second.earlier t image (omega (arith, le, first.later)) left);
}

-- a weaker property
pub crashes_weaker : (P Q : List ℕ → Type 0) (old new : Crash) → ((image : List ℕ) → P image → Q image) → CrashesLeave P old new → CrashesLeave Q old new
crashes_weaker P Q old new weaker holds = record {
  later = holds.later;
  since = λ image left. weaker image (holds.since image left);
  earlier = λ t image le left. ⊎_elim (λ before. inl before) (λ has. inr (weaker image has)) (holds.earlier t image le left);
}

-- what a crash may leave now has the property
pub crashes_last : (P : List ℕ → Type 0) (old new : Crash) → CrashesLeave P old new → (image : List ℕ) → new.may_leave image → P image
crashes_last P old new holds image may = holds.since image (new.counts_now old.moment image holds.later may)
