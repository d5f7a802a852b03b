-- The written tree of a record is shallow and has no float.
use Rattle.std.proofs.Common.{◌≡◌, ◌≤◌, ℕ, List, [], ◌∷◌, map, false, refl, arith}
use Rattle.serde_json.specs.Data.{Data, string, depth, items_depth, members_depth}
use Rattle.serde_json.specs.View.{items_of}
use Rattle.serde_json.specs.Written.{has_float, items_have_float, members_have_float}
use Rattle.cs_types.specs.declared.cells.Cell.{Cell}
use Rattle.cs_types.specs.declared.value.Value.{Value}
use Rattle.cs_types.specs.declared.value.Value.TheVariants.{Null, Bool as Boolean, Int64, Numeric, Text, Bytes, Date, Timestamp}
use Rattle.cs_types.specs.Value.{value_data}
use Rattle.cs_records.specs.declared.captured.ColumnInfo.{ColumnInfo}
use Rattle.cs_records.specs.declared.records.Mod.{Mod}
use Rattle.cs_records.specs.declared.records.Child.{Child}
use Rattle.cs_records.specs.declared.records.Record.{Record}
use Rattle.cs_records.specs.declared.records.Record.TheVariants.{Change, Heartbeat, Children}
use Rattle.cs_json.specs.Written.{child_data, column_data, mod_data, record_data}
use Rattle.cs_types.specs.Texts.{cells_members}

value_depth : (v : Value) → depth (value_data v) ≡ 0
value_depth Null = refl
value_depth (Boolean b) = refl
value_depth (Int64 n) = refl
value_depth (Numeric n) = refl
value_depth (Text t) = refl
value_depth (Bytes b) = refl
value_depth (Date d) = refl
value_depth (Timestamp t) = refl

cells_depth : (cells : List Cell) → members_depth (cells_members cells) ≤ 0
cells_depth [] = omega arith
cells_depth (c ∷ cells) = omega (arith, value_depth c.value, cells_depth cells)

tokens_depth : (ts : List (List ℕ)) → items_depth (items_of (map string ts)) ≤ 0
tokens_depth [] = omega arith
tokens_depth (t ∷ ts) = omega (arith, tokens_depth ts)

children_depth : (cs : List Child) → items_depth (items_of (map child_data cs)) ≤ 2
children_depth [] = omega arith
children_depth (c ∷ cs) = omega (arith, tokens_depth c.parents, children_depth cs)

columns_depth : (cs : List ColumnInfo) → items_depth (items_of (map column_data cs)) ≤ 2
columns_depth [] = omega arith
columns_depth (c ∷ cs) = omega (arith, columns_depth cs)

mods_depth : (ms : List Mod) → items_depth (items_of (map mod_data ms)) ≤ 2
mods_depth [] = omega arith
mods_depth (m ∷ ms) = omega (arith, cells_depth m.keys, cells_depth m.new, cells_depth m.old, mods_depth ms)

pub depth_of : (d : Data) (r : Record) → d ≡ record_data r → depth d ≤ 127
depth_of d (Heartbeat at) e = rw e (omega arith)
depth_of d (Children c) e = rw e (omega (arith, children_depth c.children))
depth_of d (Change r) e = rw e (omega (arith, columns_depth r.columns, mods_depth r.mods))

value_float : (v : Value) → has_float (value_data v) ≡ false
value_float Null = refl
value_float (Boolean b) = refl
value_float (Int64 n) = refl
value_float (Numeric n) = refl
value_float (Text t) = refl
value_float (Bytes b) = refl
value_float (Date d) = refl
value_float (Timestamp t) = refl

cells_float : (cells : List Cell) → members_have_float (cells_members cells) ≡ false
cells_float [] = refl
cells_float (c ∷ cells) = rw (value_float c.value, cells_float cells) refl

tokens_float : (ts : List (List ℕ)) → items_have_float (items_of (map string ts)) ≡ false
tokens_float [] = refl
tokens_float (t ∷ ts) = tokens_float ts

children_float : (cs : List Child) → items_have_float (items_of (map child_data cs)) ≡ false
children_float [] = refl
children_float (c ∷ cs) = rw (tokens_float c.parents, children_float cs) refl

columns_float : (cs : List ColumnInfo) → items_have_float (items_of (map column_data cs)) ≡ false
columns_float [] = refl
columns_float (c ∷ cs) = columns_float cs

mods_float : (ms : List Mod) → items_have_float (items_of (map mod_data ms)) ≡ false
mods_float [] = refl
mods_float (m ∷ ms) = rw (cells_float m.keys, cells_float m.new, cells_float m.old, mods_float ms) refl

pub no_float : (d : Data) (r : Record) → d ≡ record_data r → has_float d ≡ false
no_float d (Heartbeat at) e = rw e refl
no_float d (Children c) e = rw (e, children_float c.children) refl
no_float d (Change r) e = rw (e, columns_float r.columns, mods_float r.mods) refl
