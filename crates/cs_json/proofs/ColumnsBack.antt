-- The trees that are written for columns and mods read as these.
use Rattle.std.proofs.Common.{◌≡◌, ◌<◌, ◌^◌, List, [], ◌∷◌, map, All, codes, nat_lt, true, Option, None, Some, Ok, refl, ap, rules}
use Rattle.serde_json.specs.View.{items_of}
use Rattle.cs_types.specs.declared.cells.Cell.{Cell}
use Rattle.cs_types.specs.declared.column_type.ColumnType.{ColumnType}
use Rattle.cs_types.specs.declared.column_type.ColumnType.TheVariants.{Bool, Int64, Numeric, Text, Bytes, Date, Timestamp}
use Rattle.cs_types.specs.Cells.{AreCells}
use Rattle.cs_types.specs.Value.{IsInRange, value_data}
use Rattle.cs_records.specs.declared.captured.ColumnInfo.{ColumnInfo}
use Rattle.cs_records.specs.declared.records.Mod.{Mod}
use Rattle.cs_json_reading.specs.Reading.{each}
use Rattle.cs_json_reading.specs.Texts.{code_reading, code_text}
use Rattle.cs_json_reading.specs.Missing.{missing_in, first_in, column_members}
use Rattle.cs_json_reading.specs.Columns.{column_type, column_reading}
use Rattle.cs_json_reading.specs.Cells.{cell_of_value, cell_of_type, cell_reading, each_cell, mod_reading}
use Rattle.cs_json_reading.specs.Standing.{OfColumn, IsListed, IsListedMod}
use Rattle.cs_json.specs.Written.{column_data, mod_data, IsKeptMod}
use Rattle.cs_types.specs.Texts.{cells_members}
use Rattle.cs_json.proofs.Resting.{Laws}
use Rattle.cs_json.proofs.Lists.{All-first, All-others}

code_back : (ty : ColumnType) → code_reading (code_text ty) ≡ Some ty
code_back Bool = refl
code_back Int64 = refl
code_back Numeric = refl
code_back Text = refl
code_back Bytes = refl
code_back Date = refl
code_back Timestamp = refl

column_back : (c : ColumnInfo) → c.ordinal < 2 ^ 32 → column_reading (column_data c) ≡ Ok c
unfolding column_reading
column_back c small =
    let below : nat_lt c.ordinal (2 ^ 63) ≡ true = search (rules, small) in
    let here : nat_lt c.ordinal (2 ^ 32) ≡ true = search (rules, small) in
    rw (code_back c.ty, below, here) refl

pub columns_back : (cs : List ColumnInfo) → All (λ c. c.ordinal < 2 ^ 32) cs → each column_reading (items_of (map column_data cs)) ≡ Ok cs
columns_back [] h = refl
columns_back (c ∷ cs) h = rw (column_back c (All-first (λ c. c.ordinal < 2 ^ 32) c cs h), columns_back cs (All-others (λ c. c.ordinal < 2 ^ 32) c cs h)) refl

pub no_column_lacks : (cs : List ColumnInfo) → first_in (missing_in column_members) (items_of (map column_data cs)) ≡ None
no_column_lacks [] = refl
no_column_lacks (c ∷ cs) = no_column_lacks cs

cell_back : Laws → (columns : List ColumnInfo) (c : Cell) → IsListed columns c → IsInRange c.value → cell_reading columns c.column (value_data c.value) ≡ Ok c
cell_back laws columns c listed range = at (column_type c.column columns) listed
  where
    at : (o : Option ColumnType) → OfColumn o c.value → cell_of_type c.column (value_data c.value) o ≡ Ok c
    at None of = absurd of
    at (Some ty) of = ap (cell_of_value c.column) (laws.values ty c.value of range)

each_back : Laws → (columns : List ColumnInfo) (cells : List Cell) → All (IsListed columns) cells → All (λ c. IsInRange c.value) cells
    → each_cell columns (cells_members cells) ≡ Ok cells
each_back laws columns [] listed range = refl
each_back laws columns (c ∷ cells) listed range =
    let here = cell_back laws columns c (All-first (IsListed columns) c cells listed) (All-first (λ c. IsInRange c.value) c cells range) in
    let rest = each_back laws columns cells (All-others (IsListed columns) c cells listed) (All-others (λ c. IsInRange c.value) c cells range) in
    rw (here, rest) refl

cells_back : Laws → (columns : List ColumnInfo) (cells : List Cell) → All (IsListed columns) cells → AreCells cells → each_cell columns (cells_members cells) ≡ Ok cells
cells_back laws columns cells listed kept = each_back laws columns cells listed kept.in_range

mod_back : Laws → (columns : List ColumnInfo) (m : Mod) → IsListedMod columns m → IsKeptMod m → mod_reading columns (mod_data m) ≡ Ok m
unfolding mod_reading
mod_back laws columns m listed kept =
    rw (cells_back laws columns m.keys listed.keys kept.keys, cells_back laws columns m.new listed.new kept.new, cells_back laws columns m.old listed.old kept.old) refl

pub mods_back : Laws → (columns : List ColumnInfo) (ms : List Mod) → All (IsListedMod columns) ms → All IsKeptMod ms → each (mod_reading columns) (items_of (map mod_data ms)) ≡ Ok ms
mods_back laws columns [] listed kept = refl
mods_back laws columns (m ∷ ms) listed kept =
    let here = mod_back laws columns m (All-first (IsListedMod columns) m ms listed) (All-first IsKeptMod m ms kept) in
    let rest = mods_back laws columns ms (All-others (IsListedMod columns) m ms listed) (All-others IsKeptMod m ms kept) in
    rw (here, rest) refl

pub no_mod_lacks : (ms : List Mod) → first_in (missing_in (codes "keys" ∷ [])) (items_of (map mod_data ms)) ≡ None
no_mod_lacks [] = refl
no_mod_lacks (m ∷ ms) = no_mod_lacks ms
