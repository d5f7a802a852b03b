-- What a crash leaves while a journal is opened.
use Rattle.std.proofs.Common.{ℕ, List, Option, None, Some, IfSome, refl, ap}
use Rattle.std.specs.Io.KnownBytes.{Keeps}
use Rattle.cs_device.specs.Crash.{Crash, CrashesLeave, crashes_weaker, crashes_both, crashes_last}
use Rattle.cs_journal.specs.Crashes.{HoldsAnOldImage, HasSamePayloads, KeepsPayloads, KeepsAnOldImage}
use Rattle.cs_journal.specs.Rows.{payloads_in}

-- while it is read
pub read_only : (seen : Option (List ℕ)) (old new : Crash) → CrashesLeave old.may_leave old new → KeepsAnOldImage seen old new
read_only None old new quiet = tt
read_only (Some bytes) old new quiet = crashes_weaker old.may_leave (HoldsAnOldImage old) old new (λ image may. (image, may, refl)) quiet

-- and while its end is mended
pub mended : (seen mid : Option (List ℕ)) (old now new : Crash) → Keeps seen mid → IfSome mid now.may_leave → CrashesLeave old.may_leave old now → KeepsPayloads mid now new → KeepsAnOldImage seen old new
mended None mid old now new keeps image quiet mends = tt
mended (Some bytes) None old now new keeps image quiet mends = absurd keeps
mended (Some bytes) (Some found) old now new keeps image quiet mends =
    let here = crashes_last old.may_leave old now quiet found image in
    crashes_both (HoldsAnOldImage old) old now new (crashes_weaker old.may_leave (HoldsAnOldImage old) old now (λ image may. (image, may, refl)) quiet)
    (crashes_weaker (HasSamePayloads found) (HoldsAnOldImage old) now new (λ image same. (found, here, ap payloads_in same)) mends)
