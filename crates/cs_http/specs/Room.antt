-- How many bytes the line of a step has at most, by what it tells (this project's own measure).
use Rattle.std.specs.Prelude.{ℕ, ◌+◌, List, [], ◌∷◌, length}
use Rattle.json.specs.Print.{quoted}
use Rattle.serde_json.specs.Data.{object}
use Rattle.serde_json.specs.Written.{compact_text}
use Rattle.cs_types.specs.declared.cells.Cell.{Cell}
use Rattle.cs_types.specs.Texts.{cells_members}
use Rattle.cs_records.specs.declared.captured.ColumnInfo.{ColumnInfo}
use Rattle.cs_records.specs.declared.records.Mod.{Mod}
use Rattle.cs_records.specs.declared.records.DataRecord.{DataRecord}
use Rattle.cs_records.specs.declared.records.Child.{Child}
use Rattle.cs_records.specs.declared.records.Record.{Record}
use Rattle.cs_records.specs.declared.records.Record.TheVariants.{Change, Heartbeat, Children}
use Rattle.cs_link.specs.declared.reading.Step.{Step}

-- the sum over a list
abbrev pub total : {X : Type 0} → (X → ℕ) → List X → ℕ
total f [] = 0
total f (x ∷ xs) = f x + total f xs

-- the bytes of a text as JSON, with its quotes
abbrev pub text_room : List ℕ → ℕ
text_room text = length (quoted text)

-- the bytes of cells as a JSON object
abbrev pub cells_room : List Cell → ℕ
cells_room cells = length (compact_text (object (cells_members cells)))

-- at most those of a mod, and of a comma
abbrev pub mod_room : Mod → ℕ
mod_room m = 40 + cells_room m.keys + cells_room m.new + cells_room m.old

-- of a column
abbrev pub column_room : ColumnInfo → ℕ
column_room c = 256 + text_room c.name

-- of a token among others
abbrev pub token_room : List ℕ → ℕ
token_room token = 1 + text_room token

-- of a child
abbrev pub child_room : Child → ℕ
child_room c = 64 + text_room c.token + total token_room c.parents

-- of a data change record
abbrev pub change_room : DataRecord → ℕ
change_room r = 1024 + text_room r.tx + text_room r.table + text_room r.tag + total column_room r.columns + total mod_room r.mods

-- of a record
abbrev pub record_room : Record → ℕ
record_room (Change r) = change_room r
record_room (Heartbeat at) = 512
record_room (Children c) = 512 + total child_room c.children

-- of a step
abbrev pub step_room : Step → ℕ
step_room (Step.Record item) = record_room item
step_room (Step.Closing closing) = 64
