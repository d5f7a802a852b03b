-- The tokens of a text, from left to right, each as long as it can be. This project's own, after the lexical structure of GoogleSQL.
use Rattle.std.specs.Prelude.{◌≡◌, ◌≤◌, ◌<◌, drop, ℕ, zero, suc, ◌+◌, Bool, not, ◌||◌, ◌&&◌, ◌==◌, List, [], ◌∷◌, length, take, Option, Some, None, unwrap_or, position, slice_index, nat_lt, if◌then◌else◌}
use Rattle.std.specs.Char.{is_ascii_alphanumeric, is_ascii_alphabetic, is_ascii_digit}
use Rattle.cs_ddl.specs.declared.token.Kind.{Kind}
use Rattle.cs_ddl.specs.declared.token.Kind.TheVariants as kinds
use Rattle.cs_ddl.specs.Token.{Lexeme}

-- space, tab, CR, LF
abbrev pub is_blank : ℕ → Bool
is_blank b = b == 32 || (b == 9 || (b == 13 || b == 10))

-- a letter, a digit or `_`
abbrev pub is_word_byte : ℕ → Bool
is_word_byte b = is_ascii_alphanumeric b || b == 95

-- how many bytes stand before the first that passes the test
abbrev pub count_before : (ℕ → Bool) → List ℕ → ℕ
count_before test bytes = unwrap_or (position test bytes) (length bytes)

abbrev pub word_len : List ℕ → ℕ
word_len bytes = count_before (λ b. not (is_word_byte b)) bytes

abbrev pub digits_len : List ℕ → ℕ
digits_len bytes = count_before (λ b. not (is_ascii_digit b)) bytes

-- in a text that ends with this quote
abbrev pub ends_text : ℕ → ℕ → Bool
ends_text quote b = b == quote || (b == 92 || (b == 13 || b == 10))

abbrev pub text_len : ℕ → List ℕ → ℕ
text_len quote bytes = count_before (ends_text quote) bytes

-- whether the byte stands at this place
abbrev pub has_at : ℕ → ℕ → List ℕ → Bool
has_at byte i bytes = nat_lt i (length bytes) && slice_index bytes i == byte

-- the token that begins with a byte, where these follow: its kind, and how many of them it has
unfoldable pub quoted : List ℕ → Option Kind × ℕ
quoted bytes = if is_ascii_alphabetic (slice_index bytes 0) && has_at 96 (word_len bytes) bytes then (Some kinds.Quoted, word_len bytes + 1) else (None, 0)

unfoldable pub quoted_text : ℕ → List ℕ → Option Kind × ℕ
quoted_text quote bytes = if has_at quote (text_len quote bytes) bytes then (Some kinds.Text, text_len quote bytes + 1) else (None, 0)

unfoldable pub negative : List ℕ → Option Kind × ℕ
negative bytes = if nat_lt 0 (digits_len bytes) then (Some kinds.Number, digits_len bytes) else (None, 0)

unfoldable pub equals : List ℕ → Option Kind × ℕ
equals bytes = if has_at 62 0 bytes then (Some kinds.Arrow, 1) else (Some kinds.Equals, 0)

unfoldable pub kind_and_len : ℕ → List ℕ → Option Kind × ℕ
kind_and_len b bytes =
    if is_ascii_alphabetic b then (Some kinds.Word, word_len bytes)
    else if is_ascii_digit b then (Some kinds.Number, digits_len bytes)
    else if b == 96 then quoted bytes
    else if b == 39 then quoted_text b bytes
    else if b == 34 then quoted_text b bytes
    else if b == 45 then negative bytes
    else if b == 61 then equals bytes
    else if b == 40 then (Some kinds.Open, 0)
    else if b == 41 then (Some kinds.Close, 0)
    else if b == 44 then (Some kinds.Comma, 0)
    else if b == 59 then (Some kinds.Semicolon, 0)
    else (None, 0)

-- the token at the front, which begins at a place of the whole text
abbrev pub token_of : ℕ → ℕ → List ℕ → Lexeme
token_of at b bytes = record { kind = (kind_and_len b bytes).0; text = b ∷ take (kind_and_len b bytes).1 bytes; at = at }

-- the tokens from a place on, behind so many bytes
unfoldable pub cut : ℕ → ℕ → List ℕ → List Lexeme
cut skip at [] = []
cut (suc skip) at (b ∷ bytes) = cut skip (at + 1) bytes
cut zero at (b ∷ bytes) = if is_blank b then cut zero (at + 1) bytes else token_of at b bytes ∷ cut (kind_and_len b bytes).1 (at + 1) bytes

-- the tokens of a text
abbrev pub tokens_of : List ℕ → List Lexeme
tokens_of bytes = cut 0 0 bytes

-- each token's text is its slice of the bytes, and each begins behind the one before
abbrev pub AreSpans : List ℕ → ℕ → List Lexeme → Type 0
AreSpans bytes from [] = Unit {0}
AreSpans bytes from (t ∷ ts) = (from ≤ t.at) × (0 < length t.text) × (take (length t.text) (drop t.at bytes) ≡ t.text) × AreSpans bytes (t.at + length t.text) ts
