-- Texts of lines: what no line has within it, the word of a kind of write, and cells as members of a JSON object.
use Rattle.std.specs.Prelude.{◌≢◌, ◌≤◌, ℕ, List, [], ◌∷◌, codes, All}
use Rattle.serde_json.specs.Data.{Members, no_members, member}
use Rattle.cs_types.specs.declared.cells.Cell.{Cell}
use Rattle.cs_types.specs.declared.change.Kind.{Kind}
use Rattle.cs_types.specs.declared.change.Kind.TheVariants.{Insert, Update, Delete}
use Rattle.cs_types.specs.Value.{value_data}

-- no byte is a line feed
abbrev pub HasNoEnd : List ℕ → Type 0
HasNoEnd = All (λ x. x ≢ 10)

-- no byte is a quote
abbrev pub HasNoQuote : List ℕ → Type 0
HasNoQuote = All (λ x. x ≢ 34)

-- a byte from `-` to `Z`, among which are the digits and all marks of a moment's text, and neither a quote nor a line feed
abbrev pub IsMarkOrDigit : ℕ → Type 0
IsMarkOrDigit b = (45 ≤ b) × (b ≤ 90)

-- the word of a kind of write
abbrev pub kind_text : Kind → List ℕ
kind_text Insert = codes "INSERT"
kind_text Update = codes "UPDATE"
kind_text Delete = codes "DELETE"

-- cells as members, in their order
abbrev pub cells_members : List Cell → Members
cells_members [] = no_members
cells_members (c ∷ cs) = member c.column (value_data c.value) (cells_members cs)
