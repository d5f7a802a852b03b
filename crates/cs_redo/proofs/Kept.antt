-- What stays of a disk over two calls.
use Rattle.std.proofs.Common.{◌≡◌, ℕ, List, length, take, inl, inr, Option, None, Some, IfSome, refl, sym, ◌∙◌, ap, subst, arith}
use Rattle.std.proofs.lemmas.Bool.{cases_lt}
use Rattle.std.proofs.lemmas.List.{take-take, take_all}
use Rattle.std.specs.Io.KnownBytes.{Keeps}
use Rattle.cs_device.specs.Crash.{Crash, Leaves, CrashesLeave, IsUnchanged, IsShortened, crashes_now, crashes_then, crashes_both, crashes_weaker, crashes_last}
use Rattle.cs_device.specs.Images.{tells}
use Rattle.cs_redo.specs.Fronts.{Agree, KeepsFront}

-- known bytes that are kept twice are kept
pub keeps_both : (a b c : Option (List ℕ)) → Keeps a b → Keeps b c → Keeps a c
keeps_both None b c first second = tt
keeps_both (Some x) None c first second = absurd first
keeps_both (Some x) (Some y) None first second = absurd second
keeps_both (Some x) (Some y) (Some z) first second = second ∙ first

-- the length of what is kept
pub told_still : (seen now : Option (List ℕ)) (len : ℕ) → IfSome seen (λ bytes. len ≡ length bytes) → Keeps seen now → (seen ≡ None → now ≡ None) → IfSome now (λ bytes. len ≡ length bytes)
told_still seen None len told keeps silent = tt
told_still None (Some now) len told keeps silent = absurd (tells now (silent refl))
told_still (Some bytes) (Some now) len told keeps silent = told ∙ sym (ap length keeps)

-- no image joins those that there were, one time after another
pub quiet_both : (old mid new : Crash) → CrashesLeave old.may_leave old mid → CrashesLeave mid.may_leave mid new → CrashesLeave old.may_leave old new
quiet_both old mid new first second = crashes_both old.may_leave old mid new first (crashes_weaker mid.may_leave old.may_leave mid new (crashes_last old.may_leave old mid first) second)

-- a call that leaves each image as it was
pub quiet_once : (old new : Crash) → Leaves IsUnchanged old new → CrashesLeave old.may_leave old new
quiet_once old new call =
    crashes_then old.may_leave IsUnchanged old old new (crashes_now old.may_leave old (λ image may. may)) call
    (λ image may. let from = call.now image may in subst old.may_leave (sym from.2) from.1)

-- what holds of what is kept held before
pub held_before : (P : List ℕ → Type 0) (a b : Option (List ℕ)) → Keeps a b → IfSome b P → IfSome a P
held_before P None b keeps holds = tt
held_before P (Some x) None keeps holds = absurd keeps
held_before P (Some x) (Some y) keeps holds = subst P keeps holds

-- an image as it was keeps all
pub quiet_keeps : (count : ℕ) (old new : Crash) → CrashesLeave old.may_leave old new → CrashesLeave (KeepsFront count old) old new
quiet_keeps count old new quiet = crashes_weaker old.may_leave (KeepsFront count old) old new (λ image may. (image, may, refl)) quiet

-- before the first call
pub front_now : (count : ℕ) (crash : Crash) → CrashesLeave (KeepsFront count crash) crash crash
front_now count crash = crashes_now (KeepsFront count crash) crash (λ image may. (image, may, refl))

-- an image that is cut keeps what the cut leaves
shortened_keeps : (count : ℕ) (old image : List ℕ) → IsShortened count old image → Agree count old image
shortened_keeps count old image cut = elim (cases_lt (length image) count) [
  | inl short ↦
      let whole : image ≡ old = cut.front ∙ take_all (length image) old (omega (arith, short, cut.as_long)) in
      ap (λ (l : List ℕ). take count l) whole
  | inr long ↦ ap (λ (l : List ℕ). take count l) cut.front ∙ take-take count (length image) old (omega (arith, long))
]

pub cut_once : (count : ℕ) (old new : Crash) → Leaves (IsShortened count) old new → CrashesLeave (KeepsFront count old) old new
cut_once count old new cut =
    crashes_then (KeepsFront count old) (IsShortened count) old old new (front_now count old) cut
    (λ image may. let from = cut.now image may in (from.0, from.1, shortened_keeps count from.0 image from.2))

-- one call after another
pub front_both : (count : ℕ) (old mid new : Crash) → CrashesLeave (KeepsFront count old) old mid → CrashesLeave (KeepsFront count mid) mid new → CrashesLeave (KeepsFront count old) old new
front_both count old mid new first second =
    let P = KeepsFront count old in
    crashes_both P old mid new first (crashes_weaker (KeepsFront count mid) P mid new (λ image kept. let from = crashes_last P old mid first kept.0 kept.1 in (from.0, from.1, kept.2 ∙ from.2)) second)
