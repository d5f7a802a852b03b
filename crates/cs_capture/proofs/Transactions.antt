-- What is captured over a history: each modification fits the catalog, and the captured changes of one transaction agree.
use Rattle.std.proofs.Common.{◌≡◌, List, [], ◌∷◌, ◌++◌, Some, ⊎_elim, sym, subst, Contains, All}
use Rattle.cs_types.specs.Members.{in_nil, in_cons, all_in}
use Rattle.cs_records.specs.declared.captured.Captured.{Captured}
use Rattle.cs_records.specs.Group.{Agree}
use Rattle.cs_schema.specs.declared.types.Table.{Table}
use Rattle.cs_schema.specs.declared.types.Stream.{Stream}
use Rattle.cs_schema.specs.Sound.{IsSoundCatalog}
use Rattle.cs_txn.specs.declared.txn.Modification.{Modification}
use Rattle.cs_txn.specs.Fits.{FitsCatalog, EachFits, IsHistoryOf}
use Rattle.cs_txn.specs.History.{IsHistory}
use Rattle.cs_capture.specs.Captured.{captured}
use Rattle.cs_capture.proofs.Grouped.{agree}
use Rattle.cs_capture.proofs.Order.{in_order}

each_fits : (tables : List Table) (earlier ms : List Modification) → EachFits tables earlier ms → (m : Modification) → Contains ms m → FitsCatalog tables m
each_fits tables earlier [] h m i = absurd (in_nil m i)
each_fits tables earlier (x ∷ ms) h m i = ⊎_elim
    (λ (s : m ≡ x). subst (FitsCatalog tables) (sym s) h.0.fits)
    (λ (j : Contains ms m). each_fits tables (earlier ++ x ∷ []) ms h.1 m j)
    (in_cons x m ms i)

pub all_fit : (tables : List Table) (ms : List Modification) → IsHistoryOf tables ms → All (FitsCatalog tables) ms
all_fit tables ms h = all_in (FitsCatalog tables) ms (each_fits tables [] ms h)

pub agree_in_history : (tables : List Table) (streams : List Stream) (s : Stream) (ms : List Modification) (m n : Modification) (c d : Captured) → IsSoundCatalog tables streams → IsHistoryOf tables ms → IsHistory ms → Contains ms m → Contains ms n → m.tx ≡ n.tx
    → captured tables s m ≡ Some c → captured tables s n ≡ Some d → Agree c d
agree_in_history tables streams s ms m n c d S F H i j tx e f =
    let one = (in_order ms H).one m n i j tx in
    agree tables streams s m n c d S (each_fits tables [] ms F m i) (each_fits tables [] ms F n j) one.0 tx one.1 e f
