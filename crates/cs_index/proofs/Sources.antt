-- What a stream captures of a modification, and of one more.
use Rattle.std.proofs.Common.{◌≡◌, ◌≤◌, Bool, true, false, cond, nat_le, List, [], ◌∷◌, ◌++◌, None, Some, refl, sym, ap, ◌∙◌, append-nil}
use Rattle.std.specs.List.{cons_option}
use Rattle.std.proofs.lemmas.Bool.{leb-true}
use Rattle.std.proofs.lemmas.List.Elements.{filter_map-append}
use Rattle.cs_records.specs.declared.captured.Captured.{Captured}
use Rattle.cs_schema.specs.declared.types.Table.{Table}
use Rattle.cs_schema.specs.declared.types.Stream.{Stream}
use Rattle.cs_schema.specs.Tables.{table_named}
use Rattle.cs_schema.specs.Watching.{key_of}
use Rattle.cs_txn.specs.declared.txn.Modification.{Modification}
use Rattle.cs_capture.specs.Captured.{is_captured, change_if, with_columns, captured}
use Rattle.cs_steps.specs.Captures.{captured_since, captured_items}
use Rattle.cs_index.specs.Walk.{IsOf}

module _ (tables : List Table) (s : Stream) where
  captured_of : (m : Modification) (c : Captured) → captured tables s m ≡ Some c → IsOf m c
  captured_of m c e = by (is_captured s (key_of (table_named m.row.table tables)) m) e
    where
      some_same : (a b : Captured) → Some a ≡ Some b → a ≡ b
      some_same a b h = cc

      by : (b : Bool) → with_columns (table_named m.row.table tables) s m (change_if b s (key_of (table_named m.row.table tables)) m) ≡ Some c → IsOf m c
      by false h = cc
      by true h =
          let k = some_same _ c h in
          record {
            stamp = ap (λ (x : Captured). x.change.stamp) (sym k);
            tx = ap (λ (x : Captured). x.change.tx) (sym k);
            row = ap (λ (x : Captured). x.change.row) (sym k);
          }

  pub since_of : (m : Modification) (c : Captured) → captured_since tables s m ≡ Some c → IsOf m c × (s.created ≤ m.stamp)
  since_of m c e = by (nat_le s.created m.stamp) refl e
    where
      by : (b : Bool) → nat_le s.created m.stamp ≡ b → cond b (captured tables s m) None ≡ Some c → IsOf m c × (s.created ≤ m.stamp)
      by true t h = (captured_of m c h, leb-true s.created m.stamp t)
      by false t h = cc

  pub one_more : (ms : List Modification) (m : Modification) (c : Captured) → captured_since tables s m ≡ Some c → captured_items tables s (ms ++ m ∷ []) ≡ captured_items tables s ms ++ c ∷ []
  one_more ms m c e = filter_map-append (captured_since tables s) ms (m ∷ []) ∙ ap (λ o. captured_items tables s ms ++ cons_option o []) e

  pub none_more : (ms : List Modification) (m : Modification) → captured_since tables s m ≡ None → captured_items tables s (ms ++ m ∷ []) ≡ captured_items tables s ms
  none_more ms m e = filter_map-append (captured_since tables s) ms (m ∷ []) ∙ ap (λ o. captured_items tables s ms ++ cons_option o []) e ∙ append-nil (captured_items tables s ms)
