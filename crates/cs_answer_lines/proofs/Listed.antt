-- A line can stand for the record of captured changes that are alike.
use Rattle.std.proofs.Common.{◌≡◌, ◌≢◌, ◌<◌, ◌^◌, ◌||◌, ℕ, Bool, true, false, List, [], ◌∷◌, map, ⊎_elim, refl, sym, ap, ◌∙◌, subst, Contains, All}
use Rattle.std.proofs.lemmas.List.Elements.{All-contains, All-map}
use Rattle.cs_types.specs.declared.cells.Cell.{Cell}
use Rattle.cs_types.specs.Names.{is_among, columns_of}
use Rattle.cs_types.specs.Value.{IsOfType}
use Rattle.cs_types.specs.Members.{in_head, in_cons, all_in}
use Rattle.cs_records.specs.declared.captured.Captured.{Captured}
use Rattle.cs_records.specs.declared.captured.ColumnInfo.{ColumnInfo}
use Rattle.cs_records.specs.declared.records.Mod.{Mod}
use Rattle.cs_records.specs.Group.{Agree, HasItsColumns, IsAlike, mod_of}
use Rattle.cs_capture.specs.Types.{HasItsType, AreOfTheirTypes}
use Rattle.cs_json_reading.specs.Columns.{names_of}
use Rattle.cs_json_reading.specs.Standing.{OfColumn, IsListed, IsListedMod, CanStandFor}
use Rattle.cs_json_reading.specs.Texts.{is_transaction, is_name}
use Rattle.cs_steps.specs.Records.{Count, record_of}
use Rattle.cs_answer_lines.proofs.Columns.{found, has_column, apart}
use Rattle.cs_answer_lines.proofs.Runs.{alike_itself}

-- a captured change whose names a line can have, with the columns of its cells and their types
pub record IsGood (c : Captured) : Type 0 where
  pub transaction : is_transaction c.change.tx ≡ true
  pub table : is_name c.change.row.table ≡ true
  pub columns : HasItsColumns c
  pub types : AreOfTheirTypes c

or_first : (a b : Bool) → a ≡ true → (a || b) ≡ true
or_first a b h = rw h refl

or_second : (a b : Bool) → b ≡ true → (a || b) ≡ true
or_second true b h = refl
or_second false b h = h

-- a change that is like another and agrees with it
module _ (first c : Captured) (agree : Agree first c) (same : IsAlike first c) (one : IsGood first) (other : IsGood c) where
  -- a cell of a column that both tell of
  listed_if : (cell : Cell) → is_among cell.column (names_of first.columns) ≡ true → is_among cell.column (names_of c.columns) ≡ true → HasItsType c.columns cell → IsListed first.columns cell
  listed_if cell h k t =
      let x = found cell.column first.columns h in
      let y = found cell.column c.columns k in
      let each : All (λ (z : ColumnInfo). x.column.name ≡ z.name → x.column ≡ z) c.columns =
      All-contains (λ (x : ColumnInfo). All (λ (z : ColumnInfo). x.name ≡ z.name → x ≡ z) c.columns) first.columns x.column (agree.columns same.table) x.there in
      let is : x.column ≡ y.column = All-contains (λ (z : ColumnInfo). x.column.name ≡ z.name → x.column ≡ z) c.columns y.column each y.there (x.name_is ∙ sym y.name_is) in
      let of : IsOfType y.column.ty cell.value = All-contains (λ (z : ColumnInfo). z.name ≡ cell.column → IsOfType z.ty cell.value) c.columns y.column t y.there y.name_is in
      subst (λ o. OfColumn o cell.value) (sym x.type_is) (subst (λ (z : ColumnInfo). IsOfType z.ty cell.value) (sym is) of)

  abbrev key_part : Captured → List ℕ → Bool
  key_part d name = is_among name (columns_of d.change.row.key)

  abbrev new_part : Captured → List ℕ → Bool
  new_part d name = is_among name (columns_of d.change.new)

  abbrev old_part : Captured → List ℕ → Bool
  old_part d name = is_among name (columns_of d.change.old)

  by_key : (d : Captured) → HasItsColumns d → (name : List ℕ) → key_part d name ≡ true → is_among name (names_of d.columns) ≡ true
  by_key d h name e = h.each name ∙ or_first (key_part d name) (new_part d name || old_part d name) e

  by_new : (d : Captured) → HasItsColumns d → (name : List ℕ) → new_part d name ≡ true → is_among name (names_of d.columns) ≡ true
  by_new d h name e = h.each name ∙ or_second (key_part d name) (new_part d name || old_part d name) (or_first (new_part d name) (old_part d name) e)

  by_old : (d : Captured) → HasItsColumns d → (name : List ℕ) → old_part d name ≡ true → is_among name (names_of d.columns) ≡ true
  by_old d h name e = h.each name ∙ or_second (key_part d name) (new_part d name || old_part d name) (or_second (new_part d name) (old_part d name) e)

  key_cell : (cell : Cell) → Contains c.change.row.key cell → IsListed first.columns cell
  key_cell cell i =
      let own : key_part c cell.column ≡ true = has_column c.change.row.key cell i in
      let there : key_part first cell.column ≡ true = ap (is_among cell.column) (agree.key same.table) ∙ own in
      listed_if cell (by_key first one.columns cell.column there) (by_key c other.columns cell.column own) (All-contains (HasItsType c.columns) c.change.row.key cell other.types.key i)

  new_cell : (cell : Cell) → Contains c.change.new cell → IsListed first.columns cell
  new_cell cell i =
      let own : new_part c cell.column ≡ true = has_column c.change.new cell i in
      let there : new_part first cell.column ≡ true = ap (is_among cell.column) same.new ∙ own in
      listed_if cell (by_new first one.columns cell.column there) (by_new c other.columns cell.column own) (All-contains (HasItsType c.columns) c.change.new cell other.types.new i)

  old_cell : (cell : Cell) → Contains c.change.old cell → IsListed first.columns cell
  old_cell cell i =
      let own : old_part c cell.column ≡ true = has_column c.change.old cell i in
      let there : old_part first cell.column ≡ true = ap (is_among cell.column) same.old ∙ own in
      listed_if cell (by_old first one.columns cell.column there) (by_old c other.columns cell.column own) (All-contains (HasItsType c.columns) c.change.old cell other.types.old i)

  pub listed : IsListedMod first.columns (mod_of c)
  listed = record {
    keys = all_in (IsListed first.columns) c.change.row.key key_cell;
    new = all_in (IsListed first.columns) c.change.new new_cell;
    old = all_in (IsListed first.columns) c.change.old old_cell;
  }

some_mod : (m : Mod) (ms : List Mod) → m ∷ ms ≢ []
some_mod m ms e = cc

-- the record of changes of one transaction that are like the first
pub stands : (count : Count) (n : ℕ) (last : Bool) (first : Captured) (more : List Captured) → count.records < 2 ^ 63 → count.parts < 2 ^ 63 → n < 100000000 → All (IsAlike first) more
    → ((c : Captured) → Contains (first ∷ more) c → IsGood c) → ((c : Captured) → Contains (first ∷ more) c → Agree first c) → CanStandFor (record_of count n last first (first ∷ more))
stands count n last first more records parts small same good agree =
    let one : IsGood first = good first (in_head first more) in
    record {
      sequence = small;
      transaction = one.transaction;
      table = one.table;
      apart = apart first.columns one.types.apart;
      mods = some_mod (mod_of first) (map mod_of more);
      cells = All-map (IsListedMod first.columns) mod_of (first ∷ more) (all_in (λ (c : Captured). IsListedMod first.columns (mod_of c)) (first ∷ more) (λ c i. listed first c (agree c i) (like c i) one (good c i)));
      records_in_tx = records;
      parts_in_tx = parts;
    }
  where
    like : (c : Captured) → Contains (first ∷ more) c → IsAlike first c
    like c i = ⊎_elim (λ (s : c ≡ first). subst (IsAlike first) (sym s) (alike_itself first)) (λ (j : Contains more c). All-contains (IsAlike first) more c same j) (in_cons first c more i)
