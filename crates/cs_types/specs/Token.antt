-- Tokens, which Spanner's documentation calls partition tokens; which bytes one may have is this project's own.
use Rattle.std.specs.Prelude.{ℕ, List, [], ◌∷◌, Bool, true, not, ◌&&◌, nat_lt, nat_le, ◌==◌, length, if◌then◌else◌, Option, Some, None}

-- a visible byte of ASCII that is no double quote, quote or backslash
abbrev pub is_token_byte : ℕ → Bool
is_token_byte b = nat_le 33 b && nat_le b 126 && not (b == 34) && not (b == 39) && not (b == 92)

-- each byte is one
abbrev pub are_token_bytes : List ℕ → Bool
are_token_bytes [] = true
are_token_bytes (b ∷ bytes) = is_token_byte b && are_token_bytes bytes

-- 1 to 1,024 of them
unfoldable pub is_token : List ℕ → Bool
is_token bytes = nat_lt 0 (length bytes) && nat_le (length bytes) 1024 && are_token_bytes bytes

-- the token that the bytes are
abbrev pub token_reading : List ℕ → Option (List ℕ)
token_reading bytes = if is_token bytes then Some bytes else None
