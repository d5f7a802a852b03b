-- A stream's layout: its parts in the order in which they were made. Spanner's documentation has splits and merges of partitions; the rest is this project's own.
use Rattle.std.specs.Prelude.{◌≡◌, ℕ, ◌≤◌, List, [], ◌∷◌, length, None, true, AllPairs, Contains}
use Rattle.cs_types.specs.Token.{is_token}
use Rattle.cs_place.specs.declared.part.Range.{Range}
use Rattle.cs_place.specs.declared.part.Part.{Part}
use Rattle.cs_place.specs.Part.{is_below}
use Rattle.cs_place.specs.Layout.{IsSoundLayout}
use Rattle.cs_partitions.specs.Tokens.{token_of, AreNumbered, most_parts}

-- a stream's name, the moment of its creation, and its parts in the order in which they were made
pub record StreamParts : Type 0 where
  pub stream : List ℕ
  pub created : ℕ
  pub parts : List Part

-- the low of a part is below that of another
abbrev pub IsLower : Part → Part → Type 0
IsLower a b = is_below a.range.low b.range.low ≡ true

-- two parts with a parent in common: the first is the lower one
abbrev pub AreSiblingsByLow : Part → Part → Type 0
AreSiblingsByLow a b = (token : List ℕ) → Contains a.parents token → Contains b.parents token → IsLower a b

-- the tokens stand in order of the lows of their parts
abbrev pub AreNamedByLow : List Part → List (List ℕ) → Type 0
AreNamedByLow parts tokens = AllPairs (λ s t. (a b : Part) → Contains parts a → Contains parts b → a.token ≡ s → b.token ≡ t → IsLower a b) tokens

-- what holds of each layout
pub record IsLayout (l : StreamParts) : Type 0 where
  -- from the creation on, each place is in exactly one part at each moment, and parts follow those that gave them their places
  pub sound : IsSoundLayout l.created l.parts
  -- tokens are numbered in the order of the parts, from 00000
  pub tokens : AreNumbered l.stream 0 l.parts
  -- the children of a part stand in order of low
  pub children : AllPairs AreSiblingsByLow l.parts
  -- each part names its parents in order of low
  pub parents : (part : Part) → Contains l.parts part → AreNamedByLow l.parts part.parents
  pub count : length l.parts ≤ most_parts
  -- the stream's name makes tokens
  pub name : is_token (token_of l.stream 0) ≡ true

-- all places, from the lowest of all on
abbrev pub all_places : Range
all_places = record { low = record { bytes = [] }; high = None }

-- the one part of a stream at its creation
abbrev pub first_part : List ℕ → ℕ → Part
first_part stream created = record {
  token = token_of stream 0;
  parents = [];
  range = all_places;
  from = created;
  until = None;
}

-- the layout of a stream that was created at a moment
abbrev pub new_layout : List ℕ → ℕ → StreamParts
new_layout stream created = record { stream = stream; created = created; parts = first_part stream created ∷ [] }
