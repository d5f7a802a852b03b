-- What is captured of each modification from a start to an end are the wanted ones of the captured changes.
use Rattle.std.proofs.Common.{◌≡◌, ◌∙◌, ap, sym, refl, ℕ, List, [], ◌∷◌, None, Bool, true, false, cond, ◌++◌, ◌||◌}
use Rattle.std.specs.Prelude.{filter_map}
use Rattle.std.specs.List.{list_any}
use Rattle.std.proofs.lemmas.List.Folds.{list_any-append}
use Rattle.std.specs.Int.{is_in_range}
use Rattle.std.specs.List.{cons_option}
use Rattle.cs_types.specs.declared.cells.Cell.{Cell}
use Rattle.cs_types.specs.Change.{wanted_changes}
use Rattle.cs_schema.specs.declared.types.Table.{Table}
use Rattle.cs_schema.specs.declared.types.Stream.{Stream}
use Rattle.cs_schema.specs.Tables.{table_named}
use Rattle.cs_schema.specs.Watching.{key_of}
use Rattle.cs_txn.specs.declared.txn.Modification.{Modification}
use Rattle.cs_capture.specs.Captured.{is_captured, change_of, change_if}
use Rattle.cs_capture.specs.Wanted.{captured_changes, change_between}

pub between : (tables : List Table) (stream : Stream) (start end : ℕ) (ms : List Modification) → filter_map (change_between tables stream start end) ms ≡ wanted_changes start end (captured_changes tables stream ms)
between tables stream start end [] = refl
between tables stream start end (m ∷ ms) =
    ap (λ cs. cons_option (change_between tables stream start end m) cs) (between tables stream start end ms)
    ∙ by (is_captured stream (key_of (table_named m.row.table tables)) m) (is_in_range start end m.stamp) refl
  where
    by : (captured within : Bool) → is_in_range start end m.stamp ≡ within → cons_option (cond within (change_if captured stream (key_of (table_named m.row.table tables)) m) None) (wanted_changes start end (captured_changes tables stream ms)) ≡ wanted_changes start end (cons_option (change_if captured stream (key_of (table_named m.row.table tables)) m) (captured_changes tables stream ms))
    by false true e = refl
    by false false e = refl
    by true true e = ap (λ b. cond b (change_of stream (key_of (table_named m.row.table tables)) m ∷ wanted_changes start end (captured_changes tables stream ms)) (wanted_changes start end (captured_changes tables stream ms))) (sym e)
    by true false e = ap (λ b. cond b (change_of stream (key_of (table_named m.row.table tables)) m ∷ wanted_changes start end (captured_changes tables stream ms)) (wanted_changes start end (captured_changes tables stream ms))) (sym e)

pub any_both : (p : Cell → Bool) (one other : List Cell) → list_any p (one ++ other) ≡ (list_any p one || list_any p other)
any_both p one other = list_any-append p one other
