-- Where a list of words leaves a set of allowed lists, this project's own.
use Rattle.std.specs.Prelude.{◌≤◌, ◌<◌, ℕ, ◌+◌, List, ◌++◌, length, take}

-- some allowed list begins with these words
abbrev pub Begins : (List (List ℕ) → Type 0) → List (List ℕ) → Type 0
Begins Allowed words = (rest : List (List ℕ)) × Allowed (words ++ rest)

-- the place, from 0, of the first word that stands in no allowed list behind the words before it, or the number of words where they end too early
pub record IsFirstWrong (Allowed : List (List ℕ) → Type 0) (words : List (List ℕ)) (place : ℕ) : Type 0 where
  pub within : place ≤ length words
  pub before : Begins Allowed (take place words)
  pub not_there : place < length words → Begins Allowed (take (place + 1) words) → ⊥
  pub refused : Allowed words → ⊥
