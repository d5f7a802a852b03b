-- Columns and mods are read as what their trees tell.
use Rattle.std.proofs.Common.{◌≡◌, inl, inr, ℕ, List, [], ◌∷◌, codes, Bool, is_some, Option, Some, None, option_and_then, Result, Ok, Err, refl, ap, sym, ◌∙◌}
use Rattle.serde_json.specs.Data.{Data, null, boolean, number, string, array, object, Members, no_members, member}
use Rattle.serde_json.specs.Find.{get, as_bool, as_str, as_object}
use Rattle.cs_types.specs.declared.cells.Cell.{Cell}
use Rattle.cs_types.specs.declared.column_type.ColumnType.{ColumnType}
use Rattle.cs_types.specs.declared.value.Value.{Value}
use Rattle.cs_types.specs.declared.value_fault.ValueFault.{ValueFault}
use Rattle.cs_types.specs.Value.{value_reading}
use Rattle.cs_records.specs.declared.captured.ColumnInfo.{ColumnInfo}
use Rattle.cs_records.specs.declared.records.Mod.{Mod}
use Rattle.cs_json_reading.specs.Reading.{Reading, required, first_and}
use Rattle.cs_json_reading.specs.Members.{ordinal_value, tree_or_text}
use Rattle.cs_json_reading.specs.Missing.{missing_in, column_members}
use Rattle.cs_json_reading.specs.Columns.{type_value, column_from, column_reading, column_type}
use Rattle.cs_json_reading.specs.Cells.{cell_of_value, cell_of_type, cell_reading, each_cell, cells_of_members, cells_of_tree, cells_of, required_cells, optional_cells, mod_from, mod_reading}
use Rattle.cs_json_reading.specs.Telling.{TellsColumn, TellsCell, EachCell, TellsCells, HasCells, MayHaveCells, TellsMod}
use Rattle.cs_json_reading.proofs.Told.{never, in_reading, guarded, has_if_read, read_if_has, is_there, is_object, object_with}

-- ---- columns

column_parts : (name : Reading (List ℕ)) (ty : Reading ColumnType) (key : Reading Bool) (ordinal : Reading ℕ) (c : ColumnInfo) → column_from name ty key ordinal ≡ Ok c
    → (name ≡ Ok c.name) × (ty ≡ Ok c.ty) × (key ≡ Ok c.is_key) × (ordinal ≡ Ok c.ordinal)
column_parts (Err e) ty key ordinal c h = absurd (never e c h)
column_parts (Ok n) (Err e) key ordinal c h = absurd (never e c h)
column_parts (Ok n) (Ok t) (Err e) ordinal c h = absurd (never e c h)
column_parts (Ok n) (Ok t) (Ok k) (Err e) c h = absurd (never e c h)
column_parts (Ok n) (Ok t) (Ok k) (Ok o) c h =
    (ap (in_reading (λ (c : ColumnInfo). c.name)) h, ap (in_reading (λ (c : ColumnInfo). c.ty)) h, ap (in_reading (λ (c : ColumnInfo). c.is_key)) h, ap (in_reading (λ (c : ColumnInfo). c.ordinal)) h)

pub column_told : (d : Data) (c : ColumnInfo) → column_reading d ≡ Ok c → TellsColumn c d
unfolding column_reading
column_told d c h =
    let name = required as_str (codes "name") d in
    let ty = required type_value (codes "type") d in
    let key = required as_bool (codes "is_primary_key") d in
    let ordinal = required ordinal_value (codes "ordinal_position") d in
    let parts = column_parts name ty key ordinal c (guarded (is_some (as_object d)) (column_from name ty key ordinal) _ c h) in
    record {
      name = has_if_read as_str (codes "name") d c.name parts.0;
      type = has_if_read type_value (codes "type") d c.ty parts.1;
      is_primary_key = has_if_read as_bool (codes "is_primary_key") d c.is_key parts.2;
      ordinal_position = has_if_read ordinal_value (codes "ordinal_position") d c.ordinal parts.3;
    }

pub column_read : (d : Data) (c : ColumnInfo) → TellsColumn c d → column_reading d ≡ Ok c
unfolding column_reading
column_read d c h =
    rw (
      is_object as_str (codes "name") d c.name h.name,
      read_if_has as_str (codes "name") d c.name h.name,
      read_if_has type_value (codes "type") d c.ty h.type,
      read_if_has as_bool (codes "is_primary_key") d c.is_key h.is_primary_key,
      read_if_has ordinal_value (codes "ordinal_position") d c.ordinal h.ordinal_position,
    ) refl

pub column_lacks_nothing : (c : ColumnInfo) (d : Data) → TellsColumn c d → missing_in column_members d ≡ None
column_lacks_nothing c d h =
    rw (
      is_object as_str (codes "name") d c.name h.name,
      is_there as_str (codes "name") d c.name h.name,
      is_there type_value (codes "type") d c.ty h.type,
      is_there as_bool (codes "is_primary_key") d c.is_key h.is_primary_key,
      is_there ordinal_value (codes "ordinal_position") d c.ordinal h.ordinal_position,
    ) refl

-- ---- cells

cell_told : (columns : List ColumnInfo) (name : List ℕ) (d : Data) (c : Cell) → cell_reading columns name d ≡ Ok c → TellsCell columns c name d
cell_told columns name d c h = at (column_type name columns) refl h
  where
    of : (ty : ColumnType) → column_type name columns ≡ Some ty → (x : Result Value ValueFault) → value_reading ty d ≡ x → cell_of_value name x ≡ Ok c → TellsCell columns c name d
    of ty listed (Err e) p h = absurd (never _ c h)
    of ty listed (Ok v) p h = record {
      type = ty;
      column = (let same : Ok name ≡ Ok c.column = ap (in_reading (λ (c : Cell). c.column)) h in let back : name ≡ c.column = cc in sym back);
      listed = listed;
      value = p ∙ (let same : v ≡ c.value = (let made : Ok v ≡ Ok c.value = ap (in_reading (λ (c : Cell). c.value)) h in cc) in ap Ok same);
    }

    at : (o : Option ColumnType) → column_type name columns ≡ o → cell_of_type name d o ≡ Ok c → TellsCell columns c name d
    at None e h = absurd (never _ c h)
    at (Some ty) e h = of ty e (value_reading ty d) refl h

cell_read : (columns : List ColumnInfo) (name : List ℕ) (d : Data) (c : Cell) → TellsCell columns c name d → cell_reading columns name d ≡ Ok c
cell_read columns name d c h = rw (h.listed, h.value, ← h.column) refl

cells_told : (columns : List ColumnInfo) (ms : Members) (cs : List Cell) → each_cell columns ms ≡ Ok cs → EachCell columns cs ms
cells_told columns no_members [] h = tt
cells_told columns no_members (c ∷ cs) h = absurd cc
cells_told columns (member name d ms) cs h = at (cells_told columns ms) (cell_reading columns name d) refl (each_cell columns ms) refl cs h
  where
    at : ((ys : List Cell) → each_cell columns ms ≡ Ok ys → EachCell columns ys ms) → (r : Reading Cell) → cell_reading columns name d ≡ r → (rs : Reading (List Cell)) → each_cell columns ms ≡ rs → (ys : List Cell) → first_and r rs ≡ Ok ys → EachCell columns ys (member name d ms)
    at ih (Err e) p rs q ys h = absurd (never e ys h)
    at ih (Ok a) p (Err e) q ys h = absurd (never e ys h)
    at ih (Ok a) p (Ok zs) q [] h = absurd cc
    at ih (Ok a) p (Ok zs) q (y ∷ ys) h = (cell_told columns name d y (p ∙ (let same : a ≡ y = cc in ap Ok same)), ih ys (q ∙ (let same : zs ≡ ys = cc in ap Ok same)))

cells_read : (columns : List ColumnInfo) (ms : Members) (cs : List Cell) → EachCell columns cs ms → each_cell columns ms ≡ Ok cs
cells_read columns no_members [] h = refl
cells_read columns no_members (c ∷ cs) h = absurd h
cells_read columns (member name d ms) [] h = absurd h
cells_read columns (member name d ms) (c ∷ cs) h = rw (cell_read columns name d c h.0, cells_read columns ms cs h.1) refl

tree_told : (columns : List ColumnInfo) (name : List ℕ) (d : Data) (cs : List Cell) → cells_of columns name d ≡ Ok cs → TellsCells columns cs d
tree_told columns name d cs h = at (tree_or_text d) refl h
  where
    of : (e : Data) → tree_or_text d ≡ Some e → (o : Option Members) → as_object e ≡ o → cells_of_members columns name o ≡ Ok cs → TellsCells columns cs d
    of e p None q h = absurd (never _ cs h)
    of e p (Some ms) q h = record { members = ms; object = ap (option_and_then as_object) p ∙ q; each = cells_told columns ms cs h }

    at : (o : Option Data) → tree_or_text d ≡ o → cells_of_tree columns name o ≡ Ok cs → TellsCells columns cs d
    at None e h = absurd (never _ cs h)
    at (Some e) p h = of e p (as_object e) refl h

tree_read : (columns : List ColumnInfo) (name : List ℕ) (d : Data) (cs : List Cell) → TellsCells columns cs d → cells_of columns name d ≡ Ok cs
tree_read columns name d cs h = at (tree_or_text d) h.object
  where
    at : (o : Option Data) → option_and_then as_object o ≡ Some h.members → cells_of_tree columns name o ≡ Ok cs
    at None e = absurd cc
    at (Some e) p = ap (cells_of_members columns name) p ∙ cells_read columns h.members cs h.each

has_cells_if_read : (columns : List ColumnInfo) (name : List ℕ) (d : Data) (cs : List Cell) → required_cells columns name (get name d) ≡ Ok cs → HasCells columns name d cs
has_cells_if_read columns name d cs h = at (get name d) refl h
  where
    at : (o : Option Data) → get name d ≡ o → required_cells columns name o ≡ Ok cs → HasCells columns name d cs
    at None e h = absurd (never _ cs h)
    at (Some e) p h = record { tree = e; there = p; tells = tree_told columns name e cs h }

read_if_has_cells : (columns : List ColumnInfo) (name : List ℕ) (d : Data) (cs : List Cell) → HasCells columns name d cs → required_cells columns name (get name d) ≡ Ok cs
read_if_has_cells columns name d cs h = ap (required_cells columns name) h.there ∙ tree_read columns name h.tree cs h.tells

may_have_if_read : (columns : List ColumnInfo) (name : List ℕ) (d : Data) (cs : List Cell) → optional_cells columns name (get name d) ≡ Ok cs → MayHaveCells columns name d cs
may_have_if_read columns name d cs h = at (get name d) refl h
  where
    has : (e : Data) → get name d ≡ Some e → cells_of columns name e ≡ Ok cs → MayHaveCells columns name d cs
    has e p h = inr (inr (record { tree = e; there = p; tells = tree_told columns name e cs h }))

    at : (o : Option Data) → get name d ≡ o → optional_cells columns name o ≡ Ok cs → MayHaveCells columns name d cs
    at None e h = inl (e, (let same : [] ≡ cs = cc in sym same))
    at (Some null) e h = inr (inl (e, (let same : [] ≡ cs = cc in sym same)))
    at (Some (boolean b)) e h = has (boolean b) e h
    at (Some (number n)) e h = has (number n) e h
    at (Some (string s)) e h = has (string s) e h
    at (Some (array ds)) e h = has (array ds) e h
    at (Some (object ms)) e h = has (object ms) e h

read_if_may_have : (columns : List ColumnInfo) (name : List ℕ) (d : Data) (cs : List Cell) → MayHaveCells columns name d cs → optional_cells columns name (get name d) ≡ Ok cs
read_if_may_have columns name d cs (inl h) = ap (optional_cells columns name) h.0 ∙ ap Ok (sym h.1)
read_if_may_have columns name d cs (inr (inl h)) = ap (optional_cells columns name) h.0 ∙ ap Ok (sym h.1)
read_if_may_have columns name d cs (inr (inr h)) = ap (optional_cells columns name) h.there ∙ at h.tree h.tells
  where
    at : (e : Data) → TellsCells columns cs e → optional_cells columns name (Some e) ≡ Ok cs
    at null t = absurd (let none = t.object in cc)
    at (boolean b) t = tree_read columns name (boolean b) cs t
    at (number n) t = tree_read columns name (number n) cs t
    at (string s) t = tree_read columns name (string s) cs t
    at (array ds) t = tree_read columns name (array ds) cs t
    at (object ms) t = tree_read columns name (object ms) cs t

-- ---- mods

mod_parts : (keys new old : Reading (List Cell)) (m : Mod) → mod_from keys new old ≡ Ok m → (keys ≡ Ok m.keys) × (new ≡ Ok m.new) × (old ≡ Ok m.old)
mod_parts (Err e) new old m h = absurd (never e m h)
mod_parts (Ok k) (Err e) old m h = absurd (never e m h)
mod_parts (Ok k) (Ok n) (Err e) m h = absurd (never e m h)
mod_parts (Ok k) (Ok n) (Ok o) m h = (ap (in_reading (λ (m : Mod). m.keys)) h, ap (in_reading (λ (m : Mod). m.new)) h, ap (in_reading (λ (m : Mod). m.old)) h)

pub mod_told : (columns : List ColumnInfo) (d : Data) (m : Mod) → mod_reading columns d ≡ Ok m → TellsMod columns m d
unfolding mod_reading
mod_told columns d m h =
    let keys = required_cells columns (codes "keys") (get (codes "keys") d) in
    let new = optional_cells columns (codes "new_values") (get (codes "new_values") d) in
    let old = optional_cells columns (codes "old_values") (get (codes "old_values") d) in
    let parts = mod_parts keys new old m (guarded (is_some (as_object d)) (mod_from keys new old) _ m h) in
    record {
      keys = has_cells_if_read columns (codes "keys") d m.keys parts.0;
      new_values = may_have_if_read columns (codes "new_values") d m.new parts.1;
      old_values = may_have_if_read columns (codes "old_values") d m.old parts.2;
    }

pub mod_read : (columns : List ColumnInfo) (d : Data) (m : Mod) → TellsMod columns m d → mod_reading columns d ≡ Ok m
unfolding mod_reading
mod_read columns d m h =
    rw (
      object_with (codes "keys") d h.keys.tree h.keys.there,
      read_if_has_cells columns (codes "keys") d m.keys h.keys,
      read_if_may_have columns (codes "new_values") d m.new h.new_values,
      read_if_may_have columns (codes "old_values") d m.old h.old_values,
    ) refl

pub mod_lacks_nothing : (columns : List ColumnInfo) (m : Mod) (d : Data) → TellsMod columns m d → missing_in (codes "keys" ∷ []) d ≡ None
mod_lacks_nothing columns m d h = rw (object_with (codes "keys") d h.keys.tree h.keys.there, h.keys.there) refl
