-- The cells of a write and of a border: each member's JSON as the value of its column (types and columns are Spanner's; the form is this project's own).
use Rattle.std.specs.Prelude.{ℕ, List, [], ◌∷◌, codes, is_some, if◌then◌else◌, Option, Some, None, Result, Ok, Err}
use Rattle.serde_json.specs.Data.{Data, Members, no_members, member}
use Rattle.serde_json.specs.Find.{get_member, as_object}
use Rattle.cs_types.specs.declared.cells.Cell.{Cell}
use Rattle.cs_types.specs.declared.value.Value.{Value}
use Rattle.cs_types.specs.declared.value_fault.ValueFault.{ValueFault}
use Rattle.cs_types.specs.Names.{is_among}
use Rattle.cs_types.specs.Value.{value_reading}
use Rattle.cs_schema.specs.declared.types.Column.{Column}
use Rattle.cs_schema.specs.declared.types.Table.{Table}
use Rattle.cs_txn.specs.Columns.{column_named}
use Rattle.cs_script.specs.Readings.{Reading, both, and_more}
use Rattle.cs_script.specs.declared.fault.LineCause.TheVariants.{Member, NoColumn, Value as value_cause}

-- the cell of a column, where its value was read
abbrev pub cell_of_value : List ℕ → Result Value ValueFault → Reading Cell
cell_of_value name (Ok v) = Ok (record { column = name; value = v })
cell_of_value name (Err e) = Err (value_cause e)

-- the cell of a column, where the table has it
abbrev pub cell_of_column : List ℕ → Data → Option Column → Reading Cell
cell_of_column name d None = Err (NoColumn name)
cell_of_column name d (Some c) = cell_of_value name (value_reading c.ty d)

-- a cell of the table
abbrev pub cell_reading : Table → List ℕ → Data → Reading Cell
cell_reading t name d = cell_of_column name d (column_named name t.columns)

-- each member as a cell
abbrev pub each_cell : Table → Members → Reading (List Cell)
each_cell t no_members = Ok []
each_cell t (member name d ms) = and_more (cell_reading t name d) (each_cell t ms)

-- a cell of the table's key
abbrev pub key_cell_reading : Table → List ℕ → Data → Reading Cell
key_cell_reading t name d = if is_among name t.key then cell_reading t name d else Err (NoColumn name)

-- each member as a cell of the key
abbrev pub each_key_cell : Table → Members → Reading (List Cell)
each_key_cell t no_members = Ok []
each_key_cell t (member name d ms) = and_more (key_cell_reading t name d) (each_key_cell t ms)

-- each column of the key has a member
abbrev pub has_each : List (List ℕ) → Members → Reading (Unit {0})
has_each [] ms = Ok tt
has_each (name ∷ names) ms = if is_some (get_member name ms) then has_each names ms else Err (NoColumn name)

-- the first of two
abbrev pub first : {A : Type 0} → Reading (A × Unit {0}) → Reading A
first (Err e) = Err e
first (Ok p) = Ok p.0

-- the cells of a key: one for each of the key's columns and no other
unfoldable pub key_reading : Table → Members → Reading (List Cell)
key_reading t ms = first (both (each_key_cell t ms) (has_each t.key ms))

-- the cells of a key's object; of a table that is not there nothing is read
abbrev pub key_of_members : Option Table → Option Members → Reading (List Cell)
key_of_members t None = Err (Member (codes "key"))
key_of_members None (Some ms) = Ok []
key_of_members (Some t) (Some ms) = key_reading t ms

-- the cells of the member `key`
abbrev pub key_member : Option Table → Option Data → Reading (List Cell)
key_member t None = Err (Member (codes "key"))
key_member t (Some d) = key_of_members t (as_object d)

-- the like for cells that are set
abbrev pub set_of_members : Option Table → Option Members → Reading (List Cell)
set_of_members t None = Err (Member (codes "set"))
set_of_members None (Some ms) = Ok []
set_of_members (Some t) (Some ms) = each_cell t ms

-- the cells of the member `set`
abbrev pub set_member : Option Table → Option Data → Reading (List Cell)
set_member t None = Err (Member (codes "set"))
set_member t (Some d) = set_of_members t (as_object d)
