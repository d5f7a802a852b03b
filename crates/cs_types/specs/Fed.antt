-- What a value, a cell and a key give to a hash, which finds rows: equal ones give the same.
use Rattle.std.specs.Prelude.{[], ◌∷◌, ◌++◌}
use Rattle.std.specs.Hash.{HashWrites, i128, slice, str}
use Rattle.cs_types.specs.declared.value.Value.{Value}
use Rattle.cs_types.specs.declared.cells.Cell.{Cell}
use Rattle.cs_types.specs.declared.change.RowName.{RowName}
use Rattle.cs_types.specs.Order.{value_number, value_bytes}

-- the number and the bytes; the type is left out, since a column has one
abbrev pub value_fed : Value → HashWrites
value_fed v = i128 (value_number v) ++ (value_bytes v ∷ [])

abbrev pub cell_fed : Cell → HashWrites
cell_fed c = str c.column ++ value_fed c.value

abbrev pub row_fed : RowName → HashWrites
row_fed r = str r.table ++ slice cell_fed r.key
