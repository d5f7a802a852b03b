-- The ordinals of a column list rise.
use Rattle.std.proofs.Common.{◌≡◌, sym, subst, ℕ, ◌+◌, ◌<◌, List, [], ◌∷◌, Some, None, cond, Bool, true, false, map, arith, nat_cmp}
use Rattle.std.specs.List.{AllByRecursion}
use Rattle.std.specs.List.Sorted.{IsStrictlySortedBy, IsStrictlyIncreasing}
use Rattle.std.specs.Cmp.{nat_cmp_is}
use Rattle.std.specs.declared.cmp.Ordering.TheVariants.{Less}
use Rattle.std.specs.declared.option.Option.{Option}
use Rattle.std.proofs.lemmas.Map.Keys.{IsStrictlyIncreasing-from_sorted}
use Rattle.cs_types.specs.declared.change.Change.{Change}
use Rattle.cs_records.specs.declared.captured.ColumnInfo.{ColumnInfo}
use Rattle.cs_records.specs.declared.captured.Captured.{Captured}
use Rattle.cs_types.specs.Names.{is_among}
use Rattle.cs_schema.specs.Tables.{table_named}
use Rattle.cs_schema.specs.Watching.{key_of}
use Rattle.cs_schema.specs.declared.types.Column.{Column}
use Rattle.cs_schema.specs.declared.types.Table.{Table}
use Rattle.cs_schema.specs.declared.types.Stream.{Stream}
use Rattle.cs_txn.specs.declared.txn.Modification.{Modification}
use Rattle.cs_capture.specs.Captured.{told_columns, column_info, infos_from, infos_of, columns_in, with_columns, captured_change, captured}

abbrev ordinals : List ColumnInfo → List ℕ
ordinals infos = map (λ (i : ColumnInfo). i.ordinal) infos

above : (k n : ℕ) (key names : List (List ℕ)) (cs : List Column) → k < n → AllByRecursion (λ m. nat_cmp k m ≡ Less) (ordinals (infos_from n key names cs))
above k n key names [] h = tt
above k n key names (c ∷ cs) h = at (is_among c.name names) (above k (n + 1) key names cs (omega (arith, h)))
  where
    at : (b : Bool) → AllByRecursion (λ m. nat_cmp k m ≡ Less) (ordinals (infos_from (n + 1) key names cs)) → AllByRecursion (λ m. nat_cmp k m ≡ Less) (ordinals (cond b (column_info key n c ∷ infos_from (n + 1) key names cs) (infos_from (n + 1) key names cs)))
    at true rest = (sym (nat_cmp_is k n Less h), rest)
    at false rest = rest

sorted : (n : ℕ) (key names : List (List ℕ)) (cs : List Column) → IsStrictlySortedBy nat_cmp (ordinals (infos_from n key names cs))
unfolding IsStrictlySortedBy
sorted n key names [] = tt
sorted n key names (c ∷ cs) = at (is_among c.name names) (sorted (n + 1) key names cs)
  where
    at : (b : Bool) → IsStrictlySortedBy nat_cmp (ordinals (infos_from (n + 1) key names cs)) → IsStrictlySortedBy nat_cmp (ordinals (cond b (column_info key n c ∷ infos_from (n + 1) key names cs) (infos_from (n + 1) key names cs)))
    at true rest = (above n (n + 1) key names cs (omega arith), rest)
    at false rest = rest

of_table : (table : Option Table) (names : List (List ℕ)) → IsStrictlyIncreasing (ordinals (infos_of table names))
of_table table names = IsStrictlyIncreasing-from_sorted (ordinals (infos_of table names)) (sorted 1 (key_of table) names (columns_in table))

pub columns_are : (table : Option Table) (s : Stream) (m : Modification) (change : Option Change) (c : Captured) → with_columns table s m change ≡ Some c → c.columns ≡ infos_of table (told_columns (key_of table) c.change)
columns_are table s m None c e = absurd cc
columns_are table s m (Some change) c e = cc

pub rising : (tables : List Table) (stream : Stream) (m : Modification) (c : Captured) → captured tables stream m ≡ Some c → IsStrictlyIncreasing (map (λ (i : ColumnInfo). i.ordinal) c.columns)
rising tables s m c e =
    subst (λ infos. IsStrictlyIncreasing (ordinals infos)) (sym (columns_are (table_named m.row.table tables) s m (captured_change tables s m) c e)) (of_table (table_named m.row.table tables) (told_columns (key_of (table_named m.row.table tables)) c.change))
