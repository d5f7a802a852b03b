-- The length of a row's object as JSON without spaces, from what each of its members takes.
use Rattle.std.specs.Prelude.{ℕ, zero, suc, List, [], ◌∷◌, ◌+◌, length, Some, None}
use Rattle.std.specs.declared.option.Option.{Option}
use Rattle.json.specs.Print.{quoted}
use Rattle.serde_json.specs.Data.{Data, Members, no_members, member}
use Rattle.serde_json.specs.Written.{compact_text}
use Rattle.cs_types.specs.Value.{value_data}
use Rattle.cs_types.specs.declared.value.Value.{Value}
use Rattle.cs_types.specs.declared.cells.Cell.{Cell}
use Rattle.cs_txn.specs.Left.{found_in}

-- what a member takes in an object: its name, a colon, its value, and a comma or the closing brace
abbrev pub member_length : List ℕ → Data → ℕ
member_length name d = length (quoted name) + (length (compact_text d) + 2)

abbrev pub members_length : Members → ℕ
members_length no_members = 0
members_length (member name d ms) = member_length name d + members_length ms

-- the length of an object whose members take so much: an opening brace before them, or two braces alone
abbrev pub object_length : ℕ → ℕ
object_length zero = 2
object_length (suc n) = suc (suc n)

abbrev pub cell_length : Cell → ℕ
cell_length c = member_length c.column (value_data c.value)

abbrev pub cells_length : List Cell → ℕ
cells_length [] = 0
cells_length (c ∷ cs) = cell_length c + cells_length cs

abbrev pub length_if : List ℕ → Option Value → ℕ
length_if name None = 0
length_if name (Some v) = member_length name (value_data v)

-- what the cells of a key would take whose columns have another cell
abbrev pub hidden_length : List Cell → List Cell → ℕ
hidden_length key [] = 0
hidden_length key (c ∷ cs) = length_if c.column (found_in c.column key) + hidden_length key cs
