-- The tree of a whole line.
use Rattle.std.proofs.Common.{◌≡◌, ℕ, List, Bool, true, false, None, refl, IsUtf8}
use Rattle.std.specs.Str.{is_utf8}
use Rattle.std.proofs.lemmas.Str.{IsUtf8-from_is_utf8, is_utf8-from_IsUtf8}
use Rattle.serde_json.specs.Read.{read}
use Rattle.cs_script.specs.Line.{tree_of, object_of}

is_no_text : (line : List ℕ) (b : Bool) → is_utf8 line ≡ b → ¬ (IsUtf8 line) → is_utf8 line ≡ false
is_no_text line true e bad = absurd (bad (IsUtf8-from_is_utf8 line e))
is_no_text line false e bad = e

pub no_text : (line : List ℕ) → ¬ (IsUtf8 line) → tree_of line ≡ None
unfolding tree_of
no_text line bad = let e = is_no_text line (is_utf8 line) refl bad in rw e refl

pub of_text : (line : List ℕ) → IsUtf8 line → tree_of line ≡ object_of (read line)
unfolding tree_of
of_text line is = let e = is_utf8-from_IsUtf8 line is in rw e refl
