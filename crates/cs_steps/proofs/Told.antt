-- What is captured of a modification has its stamp, its transaction and its row.
use Rattle.std.proofs.Common.{◌≡◌, Bool, true, false, Some, ap, sym, List}
use Rattle.cs_records.specs.declared.captured.Captured.{Captured}
use Rattle.cs_schema.specs.declared.types.Table.{Table}
use Rattle.cs_schema.specs.declared.types.Stream.{Stream}
use Rattle.cs_schema.specs.Tables.{table_named}
use Rattle.cs_schema.specs.Watching.{key_of}
use Rattle.cs_txn.specs.declared.txn.Modification.{Modification}
use Rattle.cs_capture.specs.Captured.{is_captured, change_if, with_columns, captured}

pub record IsOf (m : Modification) (c : Captured) : Type 0 where
  pub stamp : c.change.stamp ≡ m.stamp
  pub tx : c.change.tx ≡ m.tx
  pub row : c.change.row ≡ m.row

pub is_of : (tables : List Table) (s : Stream) (m : Modification) (c : Captured) → captured tables s m ≡ Some c → IsOf m c
is_of tables s m c e = by (is_captured s (key_of (table_named m.row.table tables)) m) e
  where
    some_same : (a b : Captured) → Some a ≡ Some b → a ≡ b
    some_same a b h = cc

    by : (b : Bool) → with_columns (table_named m.row.table tables) s m (change_if b s (key_of (table_named m.row.table tables)) m) ≡ Some c → IsOf m c
    by false h = cc
    by true h =
        let k = some_same _ c h in
        record {
          stamp = ap (λ (x : Captured). x.change.stamp) (sym k);
          tx = ap (λ (x : Captured). x.change.tx) (sym k);
          row = ap (λ (x : Captured). x.change.row) (sym k);
        }
