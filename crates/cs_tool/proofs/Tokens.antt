-- A token is ASCII, and so UTF-8.
use Rattle.std.proofs.Common.{◌≡◌, ℕ, zero, suc, ◌<◌, List, [], ◌∷◌, get_or, Bool, true, false, ◌&&◌, refl, IsUtf8, arith}
use Rattle.std.proofs.lemmas.Str.{IsUtf8-from_ascii}
use Rattle.cs_types.specs.Token.{is_token, is_token_byte, are_token_bytes}

left_true : (a b : Bool) → (a && b) ≡ true → a ≡ true
left_true true b h = refl
left_true false b h = cc

right_true : (a b : Bool) → (a && b) ≡ true → b ≡ true
right_true true b h = h
right_true false b h = cc

byte_ascii : (b : ℕ) → is_token_byte b ≡ true → b < 128
byte_ascii b h = grind arith

ascii : (bytes : List ℕ) → are_token_bytes bytes ≡ true → (i : ℕ) → get_or bytes i 0 < 128
ascii [] h i = omega arith
ascii (b ∷ bytes) h zero = byte_ascii b (left_true (is_token_byte b) (are_token_bytes bytes) h)
ascii (b ∷ bytes) h (suc i) = ascii bytes (right_true (is_token_byte b) (are_token_bytes bytes) h) i

pub token_is_utf8 : (bytes : List ℕ) → is_token bytes ≡ true → IsUtf8 bytes
unfolding is_token
token_is_utf8 bytes h = IsUtf8-from_ascii bytes (ascii bytes (right_true _ (are_token_bytes bytes) h))
