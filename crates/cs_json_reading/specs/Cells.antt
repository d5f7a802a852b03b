-- The mods of a data change record: cells by column (Spanner's page 'Change streams partitions, records, and queries').
use Rattle.std.specs.Prelude.{ℕ, List, [], codes, is_some, if◌then◌else◌, Option, Some, None, Result, Ok, Err}
use Rattle.serde_json.specs.Data.{Data, Items, no_items, item, Members, no_members, member}
use Rattle.serde_json.specs.Find.{get, as_null, as_array, as_object}
use Rattle.cs_types.specs.declared.cells.Cell.{Cell}
use Rattle.cs_types.specs.declared.column_type.ColumnType.{ColumnType}
use Rattle.cs_types.specs.declared.value.Value.{Value}
use Rattle.cs_types.specs.declared.value_fault.ValueFault.{ValueFault}
use Rattle.cs_types.specs.Value.{value_reading}
use Rattle.cs_records.specs.declared.captured.ColumnInfo.{ColumnInfo}
use Rattle.cs_records.specs.declared.faults.LineFault.TheVariants.{Member, BadValue}
use Rattle.cs_records.specs.declared.records.Mod.{Mod}
use Rattle.cs_json_reading.specs.Reading.{Reading, first_and, each, required}
use Rattle.cs_json_reading.specs.Members.{tree_or_text}
use Rattle.cs_json_reading.specs.Columns.{column_type}

-- the cell of a column, where its value was read
abbrev pub cell_of_value : List ℕ → Result Value ValueFault → Reading Cell
cell_of_value name (Ok v) = Ok (record { column = name; value = v })
cell_of_value name (Err e) = Err (BadValue name)

-- the cell of a column of a type; a column that is not listed has none
abbrev pub cell_of_type : List ℕ → Data → Option ColumnType → Reading Cell
cell_of_type name d None = Err (BadValue name)
cell_of_type name d (Some ty) = cell_of_value name (value_reading ty d)

-- a cell, of a column that is listed, with a value of the column's type
abbrev pub cell_reading : List ColumnInfo → List ℕ → Data → Reading Cell
cell_reading columns name d = cell_of_type name d (column_type name columns)

-- each member as a cell, up to the first that is at fault
abbrev pub each_cell : List ColumnInfo → Members → Reading (List Cell)
each_cell columns no_members = Ok []
each_cell columns (member name d ms) = first_and (cell_reading columns name d) (each_cell columns ms)

-- the cells of an object; anything else is bad
abbrev pub cells_of_members : List ColumnInfo → List ℕ → Option Members → Reading (List Cell)
cells_of_members columns name None = Err (BadValue name)
cells_of_members columns name (Some ms) = each_cell columns ms

-- the cells of a tree, where there is one
abbrev pub cells_of_tree : List ColumnInfo → List ℕ → Option Data → Reading (List Cell)
cells_of_tree columns name None = Err (BadValue name)
cells_of_tree columns name (Some d) = cells_of_members columns name (as_object d)

-- an object of cells, as a tree or as a text that holds it
abbrev pub cells_of : List ColumnInfo → List ℕ → Data → Reading (List Cell)
cells_of columns name d = cells_of_tree columns name (tree_or_text d)

-- the cells of a member that must be there
abbrev pub required_cells : List ColumnInfo → List ℕ → Option Data → Reading (List Cell)
required_cells columns name None = Err (Member name)
required_cells columns name (Some d) = cells_of columns name d

-- an absent member and null are no cells
abbrev pub optional_cells : List ColumnInfo → List ℕ → Option Data → Reading (List Cell)
optional_cells columns name None = Ok []
optional_cells columns name (Some d) = if is_some (as_null d) then Ok [] else cells_of columns name d

-- the mod of its three parts, or the first fault in their order
abbrev pub mod_from : Reading (List Cell) → Reading (List Cell) → Reading (List Cell) → Reading Mod
mod_from (Err e) new old = Err e
mod_from (Ok keys) (Err e) old = Err e
mod_from (Ok keys) (Ok new) (Err e) = Err e
mod_from (Ok keys) (Ok new) (Ok old) = Ok (record { keys = keys; new = new; old = old })

-- a mod: the cells of a row's key, and its cells after and before the write
unfoldable pub mod_reading : List ColumnInfo → Data → Reading Mod
mod_reading columns d = if is_some (as_object d)
    then mod_from (required_cells columns (codes "keys") (get (codes "keys") d))
    (optional_cells columns (codes "new_values") (get (codes "new_values") d))
    (optional_cells columns (codes "old_values") (get (codes "old_values") d))
    else Err (BadValue (codes "mods"))

-- one mod or more
abbrev pub some_mods : List ColumnInfo → Reading Items → Reading (List Mod)
some_mods columns (Err e) = Err e
some_mods columns (Ok no_items) = Err (BadValue (codes "mods"))
some_mods columns (Ok (item d ds)) = each (mod_reading columns) (item d ds)

-- the mods of a data change record, with its columns
unfoldable pub mods_reading : List ColumnInfo → Data → Reading (List Mod)
mods_reading columns d = some_mods columns (required as_array (codes "mods") d)
