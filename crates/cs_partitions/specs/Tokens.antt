-- The tokens of a stream's parts: the stream's name and a number (this project's own; Spanner's are opaque).
use Rattle.std.specs.Prelude.{◌≡◌, ℕ, zero, suc, ◌+◌, ◌/◌, ◌%◌, ◌≤◌, List, [], ◌∷◌, ◌++◌, length, ⊤}
use Rattle.cs_place.specs.declared.part.Part.{Part}

-- the most parts of a stream
abbrev pub most_parts : ℕ
most_parts = 65536

-- the last k decimal digits of a number
abbrev pub last_digits : ℕ → ℕ → List ℕ
last_digits zero n = []
last_digits (suc k) n = last_digits k (n / 10) ++ (48 + n % 10) ∷ []

-- the token of a part: the stream's name, a dash, and the part's number in five digits
unfoldable pub token_of : List ℕ → ℕ → List ℕ
token_of stream n = stream ++ 45 ∷ last_digits 5 n

-- the parts have the tokens of the stream, numbered on from n in their order
abbrev pub AreNumbered : List ℕ → ℕ → List Part → Type 0
AreNumbered stream n [] = ⊤
AreNumbered stream n (p ∷ ps) = (p.token ≡ token_of stream n) × AreNumbered stream (suc n) ps

-- the parts of one stream, no more than a stream has
abbrev pub AreOfOneStream : List Part → Type 0
AreOfOneStream parts = (stream : List ℕ) × AreNumbered stream 0 parts × (length parts ≤ most_parts)
