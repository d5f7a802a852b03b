-- A column list has the told columns of its table.
use Rattle.std.proofs.Common.{◌≡◌, ◌∙◌, sym, ap, refl, ℕ, ◌+◌, List, [], ◌∷◌, Some, cond, Bool, true, false, ◌&&◌, map, nat_cmp}
use Rattle.std.specs.Cmp.{Equal-is}
use Rattle.std.specs.Cmp.Lexicographic.{slice_cmp}
use Rattle.std.proofs.lemmas.Map.Lookups.{exact_bytes}
use Rattle.cs_records.specs.declared.captured.ColumnInfo.{ColumnInfo}
use Rattle.cs_records.specs.declared.captured.Captured.{Captured}
use Rattle.cs_types.specs.Names.{is_same, is_among}
use Rattle.cs_schema.specs.Tables.{table_named}
use Rattle.cs_schema.specs.Watching.{key_of}
use Rattle.cs_schema.specs.declared.types.Column.{Column}
use Rattle.cs_schema.specs.declared.types.Table.{Table}
use Rattle.cs_schema.specs.declared.types.Stream.{Stream}
use Rattle.cs_txn.specs.declared.txn.Modification.{Modification}
use Rattle.cs_capture.specs.Captured.{told_columns, column_info, columns_in, infos_from, captured_change, captured}
use Rattle.cs_capture.proofs.Ordinals.{columns_are}

abbrev info_names : List ColumnInfo → List (List ℕ)
info_names infos = map (λ (i : ColumnInfo). i.name) infos

abbrev column_names : List Column → List (List ℕ)
column_names columns = map (λ (c : Column). c.name) columns

and_false : (a : Bool) → (a && false) ≡ false
and_false true = refl
and_false false = refl

and_true : (a : Bool) → (a && true) ≡ a
and_true true = refl
and_true false = refl

same : (a b : List ℕ) (names : List (List ℕ)) → is_same a b ≡ true → is_among a names ≡ is_among b names
same a b names e = ap (λ n. is_among n names) (exact_bytes a b ((Equal-is (slice_cmp nat_cmp a b)).0 e))

-- whether one column more is among those that are told, from whether it is told and whether it is the one
more : (told first is_it rest names : Bool) → (is_it ≡ true → first ≡ told) → rest ≡ (told && names) → cond first (cond is_it true rest) rest ≡ (told && cond is_it true names)
more told true true rest names h e = h refl ∙ sym (and_true told)
more told false true rest names h e = e ∙ ap (λ t. t && names) (sym (h refl)) ∙ h refl ∙ sym (and_true told)
more told true false rest names h e = e
more told false false rest names h e = e

listed : (n : ℕ) (key names : List (List ℕ)) (cs : List Column) (name : List ℕ) → is_among name (info_names (infos_from n key names cs)) ≡ (is_among name names && is_among name (column_names cs))
listed n key names [] name = sym (and_false (is_among name names))
listed n key names (c ∷ cs) name =
    pick (is_among c.name names)
    ∙ more (is_among name names) (is_among c.name names) (is_same c.name name) (is_among name (info_names (infos_from (n + 1) key names cs))) (is_among name (column_names cs)) (same c.name name names) (listed (n + 1) key names cs name)
  where
    pick : (b : Bool) → is_among name (info_names (cond b (column_info key n c ∷ infos_from (n + 1) key names cs) (infos_from (n + 1) key names cs))) ≡ cond b (cond (is_same c.name name) true (is_among name (info_names (infos_from (n + 1) key names cs)))) (is_among name (info_names (infos_from (n + 1) key names cs)))
    pick true = refl
    pick false = refl

pub told : (tables : List Table) (stream : Stream) (m : Modification) (c : Captured) (name : List ℕ) → captured tables stream m ≡ Some c → is_among name (map (λ (i : ColumnInfo). i.name) c.columns) ≡ (is_among name (told_columns (key_of (table_named m.row.table tables)) c.change) && is_among name (map (λ (d : Column). d.name) (columns_in (table_named m.row.table tables))))
told tables s m c name e =
    ap (λ infos. is_among name (info_names infos)) (columns_are (table_named m.row.table tables) s m (captured_change tables s m) c e)
    ∙ listed 1 (key_of (table_named m.row.table tables)) (told_columns (key_of (table_named m.row.table tables)) c.change) (columns_in (table_named m.row.table tables)) name
