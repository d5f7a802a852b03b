-- Texts of a fixed shape, told by patterns, and the place where a text leaves its shape; this project's own.
use Rattle.std.specs.Prelude.{◌≡◌, ℕ, suc, ◌+◌, ◌*◌, ◌-◌, ◌/◌, ◌%◌, ◌<◌, ◌≤◌, List, [], ◌∷◌, ◌++◌, length, take, slice_index, Bool, ◌&&◌, ◌==◌, nat_le, IsTrue, if◌then◌else◌, ⊤}

-- what a byte of a pattern allows: `d` any digit, and each other byte itself
abbrev pub allows : ℕ → ℕ → Bool
allows mark byte = if mark == 100 then nat_le 48 byte && nat_le byte 57 else byte == mark

-- the text fits the pattern, place by place
abbrev pub Fits : List ℕ → List ℕ → Type 0
Fits [] [] = ⊤
Fits [] (b ∷ bs) = ⊥
Fits (m ∷ ms) [] = ⊥
Fits (m ∷ ms) (b ∷ bs) = IsTrue (allows m b) × Fits ms bs

-- some text of the set begins so
abbrev pub Begins : (List ℕ → Type 0) → List ℕ → Type 0
Begins P front = (rest : List ℕ) × P (front ++ rest)

-- the text is none of the set, and the place is that of the first byte with which no text of the set goes on, or the length where the text ends early
pub record IsFaultPlace (P : List ℕ → Type 0) (text : List ℕ) (place : ℕ) : Type 0 where
  pub within : place ≤ length text
  pub begins : Begins P (take place text)
  pub stops : place < length text → ¬ Begins P (take (suc place) text)
  pub ends : place ≡ length text → ¬ P text

-- the digit that stands at a place
abbrev pub digit_at : List ℕ → ℕ → ℕ
digit_at text at = slice_index text at - 48

-- the number of the two digits from a place
abbrev pub two_at : List ℕ → ℕ → ℕ
two_at text at = digit_at text at * 10 + digit_at text (at + 1)

-- a number below 100 in two digits
abbrev pub two_digits : ℕ → List ℕ
two_digits n = (48 + n / 10) ∷ (48 + n % 10) ∷ []

-- a number below 10,000 in four digits
abbrev pub four_digits : ℕ → List ℕ
four_digits n = two_digits (n / 100) ++ two_digits (n % 100)
