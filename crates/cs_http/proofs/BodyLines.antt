-- The body of a refusal is one short line.
use Rattle.std.proofs.Common.{◌≡◌, ◌≢◌, ◌≤◌, ℕ, List, ◌++◌, length, length-append, codes, decimal, Option, IfSome, refl, sym, subst, true, nat_lt, arith}
use Rattle.std.specs.List.{list_all}
use Rattle.std.proofs.lemmas.List.Elements.{All-append}
use Rattle.cs_types.specs.Stamp.{IsStamp, stamp_text}
use Rattle.cs_types.specs.Texts.{HasNoEnd}
use Rattle.cs_link.specs.declared.refusal.ReadRefusal.{ReadRefusal}
use Rattle.cs_http.specs.RefusalLine.{body_text, body_room, IsKeptRefusal, IsOneLine}
use Rattle.cs_http.proofs.Closings.{word_no_end}
use Rattle.cs_http.proofs.NoEnds.{decimal_no_end}
use Rattle.cs_http.proofs.Rooms.{decimal_length, stamp_length}

abbrev pub StampsHaveNoEnd : Type 0
StampsHaveNoEnd = (us : ℕ) → IsStamp us → HasNoEnd (stamp_text us)

between_no_end : (front text back : List ℕ) → list_all (λ x. nat_lt 10 x) front ≡ true → HasNoEnd text → list_all (λ x. nat_lt 10 x) back ≡ true → HasNoEnd (front ++ text ++ back)
between_no_end front text back f h b = All-append (λ x. x ≢ 10) (front ++ text) back (All-append (λ x. x ≢ 10) front text (word_no_end front f) h) (word_no_end back b)

pub body_no_end : StampsHaveNoEnd → (r : ReadRefusal) → IsKeptRefusal r → IsOneLine r → IfSome (body_text r) HasNoEnd
body_no_end law ReadRefusal.UnknownFunction k h = word_no_end (codes "{\"refusal\":\"UnknownFunction\"}") refl
body_no_end law (ReadRefusal.ArgumentType name) k h = between_no_end (codes "{\"name\":\"") name (codes "\",\"refusal\":\"ArgumentType\"}") refl h refl
body_no_end law (ReadRefusal.ArgumentMissing name) k h = between_no_end (codes "{\"name\":\"") name (codes "\",\"refusal\":\"ArgumentMissing\"}") refl h refl
body_no_end law ReadRefusal.ReadOptions k h = word_no_end (codes "{\"refusal\":\"ReadOptions\"}") refl
body_no_end law ReadRefusal.Heartbeat k h = word_no_end (codes "{\"refusal\":\"Heartbeat\"}") refl
body_no_end law ReadRefusal.EndBeforeStart k h = word_no_end (codes "{\"refusal\":\"EndBeforeStart\"}") refl
body_no_end law ReadRefusal.StartBeforeCreation k h = word_no_end (codes "{\"refusal\":\"StartBeforeCreation\"}") refl
body_no_end law (ReadRefusal.StartTooOld at) k h = between_no_end (codes "{\"earliest\":\"") (stamp_text at) (codes "\",\"refusal\":\"StartTooOld\"}") refl (law at k) refl
body_no_end law (ReadRefusal.StartInFuture at) k h = between_no_end (codes "{\"moment\":\"") (stamp_text at) (codes "\",\"refusal\":\"StartInFuture\"}") refl (law at k) refl
body_no_end law ReadRefusal.UnknownToken k h = word_no_end (codes "{\"refusal\":\"UnknownToken\"}") refl
body_no_end law (ReadRefusal.StartBeforePartition at) k h = between_no_end (codes "{\"from\":\"") (stamp_text at) (codes "\",\"refusal\":\"StartBeforePartition\"}") refl (law at k) refl
body_no_end law (ReadRefusal.StartPastPartition at) k h = between_no_end (codes "{\"refusal\":\"StartPastPartition\",\"until\":\"") (stamp_text at) (codes "\"}") refl (law at k) refl
body_no_end law (ReadRefusal.Syntax place) k h = between_no_end (codes "{\"place\":") (decimal place) (codes ",\"refusal\":\"Syntax\"}") refl (decimal_no_end place) refl
body_no_end law (ReadRefusal.Wire status) k h = tt

pub body_length : (r : ReadRefusal) → IfSome (body_text r) (λ line. length line ≤ body_room r)
body_length ReadRefusal.UnknownFunction = omega arith
body_length (ReadRefusal.ArgumentType name) = simp length-append (omega arith)
body_length (ReadRefusal.ArgumentMissing name) = simp length-append (omega arith)
body_length ReadRefusal.ReadOptions = omega arith
body_length ReadRefusal.Heartbeat = omega arith
body_length ReadRefusal.EndBeforeStart = omega arith
body_length ReadRefusal.StartBeforeCreation = omega arith
body_length (ReadRefusal.StartTooOld at) = simp length-append (omega (arith, stamp_length at))
body_length (ReadRefusal.StartInFuture at) = simp length-append (omega (arith, stamp_length at))
body_length ReadRefusal.UnknownToken = omega arith
body_length (ReadRefusal.StartBeforePartition at) = simp length-append (omega (arith, stamp_length at))
body_length (ReadRefusal.StartPastPartition at) = simp length-append (omega (arith, stamp_length at))
body_length (ReadRefusal.Syntax place) = simp length-append (omega (arith, decimal_length place))
body_length (ReadRefusal.Wire status) = tt

pub one_line : StampsHaveNoEnd → (r : ReadRefusal) (o : Option (List ℕ)) → IsKeptRefusal r → o ≡ body_text r → IsOneLine r → IfSome o HasNoEnd
one_line law r o k is h = subst (λ (b : Option (List ℕ)). IfSome b HasNoEnd) (sym is) (body_no_end law r k h)

pub short_line : (r : ReadRefusal) (o : Option (List ℕ)) → o ≡ body_text r → IfSome o (λ line. length line ≤ body_room r)
short_line r o is = subst (λ (b : Option (List ℕ)). IfSome b (λ line. length line ≤ body_room r)) (sym is) (body_length r)
