-- Two calls of a disk, one behind the other.
use Rattle.std.proofs.Common.{◌≡◌, ℕ, List, None, Some, Ok, Err, Option, Result, refl, sym, ◌∙◌, subst, OnOk, IfSome}
use Rattle.std.specs.Io.KnownBytes.{Keeps}
use Rattle.cs_device.specs.Crash.{Crash, Leaves, LeavesOnly, CrashesLeave, IsUnchanged, IsShortened, crashes_now, crashes_then, crashes_both, crashes_weaker, crashes_last}
use Rattle.cs_device.specs.Images.{not_shortened, tells}
use Rattle.cs_journal.specs.Crashes.{IsCutOf}

-- what is durable is what is read after the sync too
pub durable_still : {T E : Type 0} (before now : Option (List ℕ)) (crash : Crash) (result : Result T E) → (before ≡ None → now ≡ None) → Keeps before now → OnOk result (IfSome before (LeavesOnly crash)) → OnOk result (IfSome now (LeavesOnly crash))
durable_still before None crash (Ok x) silent keeps durable = tt
durable_still None (Some now) crash (Ok x) silent keeps durable = absurd (tells now (silent refl))
durable_still (Some before) (Some now) crash (Ok x) silent keeps durable = subst (LeavesOnly crash) (sym keeps) durable
durable_still before now crash (Err e) silent keeps durable = tt

-- an image after a call that leaves each as it was is one from before it
pub unchanged : (old new : Crash) → Leaves IsUnchanged old new → (image : List ℕ) → new.may_leave image → old.may_leave image
unchanged old new call image may = let from = call.now image may in subst old.may_leave (sym from.2) from.1

-- a cut, and then a sync
pub cut_once : (to : ℕ) (old mid new : Crash) → Leaves (IsShortened to) old mid → Leaves IsUnchanged mid new → CrashesLeave (IsCutOf old to) old new
cut_once to old mid new cut sync =
    let P = IsCutOf old to in
    let begun = crashes_now P old (λ image may. (image, may, not_shortened to image)) in
    let shorter = crashes_then P (IsShortened to) old old mid begun cut (λ image may. cut.now image may) in
    crashes_then P IsUnchanged old mid new shorter sync (λ image may. cut.now image (unchanged mid new sync image may))

-- no image joins those that there were, one time after another
pub quiet_both : (old mid new : Crash) → CrashesLeave old.may_leave old mid → CrashesLeave mid.may_leave mid new → CrashesLeave old.may_leave old new
quiet_both old mid new first second = crashes_both old.may_leave old mid new first (crashes_weaker mid.may_leave old.may_leave mid new (crashes_last old.may_leave old mid first) second)

-- where a crash leaves one image and no other joins, it leaves this one
pub still_durable : (seen now : Option (List ℕ)) (old new : Crash) → (seen ≡ None → now ≡ None) → Keeps seen now → CrashesLeave old.may_leave old new → IfSome seen (LeavesOnly old) → IfSome now (LeavesOnly new)
still_durable seen None old new silent keeps quiet durable = tt
still_durable None (Some now) old new silent keeps quiet durable = absurd (tells now (silent refl))
still_durable (Some bytes) (Some now) old new silent keeps quiet durable = λ image may. durable image (crashes_last old.may_leave old new quiet image may) ∙ sym keeps
