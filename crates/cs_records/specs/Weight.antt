-- The weight of a record, this project's own measure of what it holds.
use Rattle.std.specs.Prelude.{ℕ, ◌+◌, length}
use Rattle.std.specs.List.{sum_by}
use Rattle.cs_types.specs.declared.cells.Cell.{Cell}
use Rattle.cs_types.specs.Order.{value_bytes}
use Rattle.cs_records.specs.declared.records.Mod.{Mod}
use Rattle.cs_records.specs.declared.records.Record.{Record}
use Rattle.cs_records.specs.declared.records.Record.TheVariants.{Change, Heartbeat, Children}

-- the bytes of the column's name, 1, and the bytes of a text or of bytes
abbrev pub cell_weight : Cell → ℕ
cell_weight c = length c.column + 1 + length (value_bytes c.value)

-- that of all cells of a mod: of its key, new and old
abbrev pub mod_weight : Mod → ℕ
mod_weight m = sum_by cell_weight m.keys + sum_by cell_weight m.new + sum_by cell_weight m.old

-- that of all mods of a data record; other records weigh nothing
abbrev pub record_weight : Record → ℕ
record_weight (Change r) = sum_by mod_weight r.mods
record_weight (Heartbeat at) = 0
record_weight (Children r) = 0
