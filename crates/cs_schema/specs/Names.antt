-- Words of the grammar as names (the naming rules of Spanner's schema pages).
use Rattle.std.specs.Prelude.{ℕ, List, [], ◌∷◌}
use Rattle.std.specs.Str.Lossy.{utf8_lossy}

-- words as names; what is no UTF-8 in a word is read as U+FFFD, as std reads it
abbrev pub names_of : List (List ℕ) → List (List ℕ)
names_of [] = []
names_of (w ∷ ws) = utf8_lossy w ∷ names_of ws
