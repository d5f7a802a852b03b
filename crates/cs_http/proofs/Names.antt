-- The name that a line tells, where its bytes are a text.
use Rattle.std.proofs.Common.{◌≡◌, refl, ℕ, List, Some, None, IsUtf8}
use Rattle.std.specs.Str.{is_utf8}
use Rattle.std.proofs.lemmas.Str.{is_utf8-from_IsUtf8}
use Rattle.cs_http.specs.RefusalLine.{text_of}
use Rattle.cs_http.proofs.Asking.{is_no_text}

pub told_text : (bytes : List ℕ) → IsUtf8 bytes → text_of bytes ≡ Some bytes
told_text bytes is = let e = is_utf8-from_IsUtf8 bytes is in rw e refl

pub told_no_text : (bytes : List ℕ) → ¬ (IsUtf8 bytes) → text_of bytes ≡ None
told_no_text bytes bad = let e = is_no_text bytes (is_utf8 bytes) refl bad in rw e refl
