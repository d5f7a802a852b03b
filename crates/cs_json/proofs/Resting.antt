-- The laws of the crates below on which it rests that what is written is read again.
use Rattle.std.proofs.Common.{◌≡◌, ◌↔◌, ℕ, List, Some, Ok}
use Rattle.cs_types.specs.declared.column_type.ColumnType.{ColumnType}
use Rattle.cs_types.specs.declared.value.Value.{Value}
use Rattle.cs_types.specs.Stamp.{IsStamp, stamp_text, stamp_reading}
use Rattle.cs_types.specs.Value.{IsInRange, IsOfType, Spells as SpellsValue, value_data}
use Rattle.cs_records.specs.declared.records.Record.{Record}
use Rattle.cs_json_reading.specs.Line.{Spells, bytes_reading}

pub record Laws : Type 0 where
  pub values : (ty : ColumnType) (v : Value) → IsOfType ty v → IsInRange v → SpellsValue ty (value_data v) v
  pub stamps : (us : ℕ) → IsStamp us → stamp_reading (stamp_text us) ≡ Some us
  pub lines : (line : List ℕ) (r : Record) → (bytes_reading line ≡ Ok r) ↔ Spells r line
