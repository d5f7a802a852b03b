-- When a transaction is refused, and which refusal is answered: the first of them in their order, at its first write (this project's own rules for scripted transactions).
use Rattle.std.specs.Prelude.{◌≡◌, ℕ, List, [], ◌∷◌, ◌++◌, Some, None, cond, Bool, true, false, is_some, ◌==◌, nat_lt}
use Rattle.std.specs.declared.option.Option.{Option}
use Rattle.std.specs.HashMap.{HashMap, get}
use Rattle.cs_types.specs.Row.{same_row}
use Rattle.cs_types.specs.declared.change.RowName.{RowName}
use Rattle.cs_types.specs.declared.change.Kind.{Kind}
use Rattle.cs_types.specs.declared.change.Kind.TheVariants.{Insert, Update, Delete}
use Rattle.std.specs.Option.{option_or}
use Rattle.cs_schema.specs.declared.types.Table.{Table}
use Rattle.cs_txn.specs.declared.txn.Write.{Write}
use Rattle.cs_txn.specs.declared.txn.Txn.{Txn}
use Rattle.cs_txn.specs.declared.txn.Modification.{Modification}
use Rattle.cs_txn.specs.declared.fault.TxnFault.{TxnFault}
use Rattle.cs_txn.specs.declared.fault.TxnFault.TheVariants.{IdUsed, StampBack, RowTwice, RowThere, NoRow, SharedStampRow, Memory}
use Rattle.cs_txn.specs.declared.test.Test.TheVariants.{Values, Set, Tables, Columns}
use Rattle.cs_txn.specs.Columns.{fault_by}
use Rattle.cs_txn.specs.History.{last_of, state_before, is_used, last_stamp}
use Rattle.cs_types.specs.Firsts.{first_of}

-- any fault but want of memory
abbrev pub not_memory : TxnFault → Type 0
not_memory Memory = ⊥
not_memory _ = Unit {0}

-- whether one of these writes names the row
abbrev pub is_named : RowName → List Write → Bool
is_named row [] = false
is_named row (w ∷ ws) = cond (same_row w.row row) true (is_named row ws)

-- the first write whose row an earlier one of these names
abbrev pub twice_behind : List Write → List Write → Option TxnFault
twice_behind earlier [] = None
twice_behind earlier (w ∷ ws) = cond (is_named w.row earlier) (Some (RowTwice w.row)) (twice_behind (earlier ++ w ∷ []) ws)

-- the map has the rows that these writes name, by keys that are of rows
abbrev pub NamesOf : {K S : Type 0} → (K → RowName) → List Write → HashMap K (Unit {0}) S → Type 0
NamesOf {K = K} row ws seen = (key : K) → is_some (get (λ a b. same_row (row a) (row b)) seen key) ≡ is_named (row key) ws

-- an INSERT of a row that is there
abbrev pub there_if : Kind → RowName → Bool → Option TxnFault
there_if Insert row present = cond present (Some (RowThere row)) None
there_if Update row present = None
there_if Delete row present = None

-- an UPDATE or DELETE of a row that is not there
abbrev pub absent_if : Kind → RowName → Bool → Option TxnFault
absent_if Insert row present = None
absent_if Update row present = cond present None (Some (NoRow row))
absent_if Delete row present = cond present None (Some (NoRow row))

abbrev pub there_fault : List Modification → Write → Option TxnFault
there_fault ms w = there_if w.kind w.row (is_some (state_before ms w.row))

abbrev pub absent_fault : List Modification → Write → Option TxnFault
absent_fault ms w = absent_if w.kind w.row (is_some (state_before ms w.row))

-- a row that an earlier transaction of this stamp wrote
abbrev pub shared_if : ℕ → Option Modification → Option TxnFault
shared_if stamp None = None
shared_if stamp (Some m) = cond (m.stamp == stamp) (Some (SharedStampRow m.tx)) None

abbrev pub shared_fault : List Modification → ℕ → Write → Option TxnFault
shared_fault ms stamp w = shared_if stamp (last_of w.row ms)

abbrev pub id_fault : List Modification → List ℕ → Option TxnFault
id_fault ms id = cond (is_used id ms) (Some IdUsed) None

abbrev pub back_fault : List Modification → ℕ → Option TxnFault
back_fault ms stamp = cond (nat_lt stamp (last_stamp ms)) (Some StampBack) None

-- the refusals of ids, stamps and rows, in their order
abbrev pub row_fault : List Modification → Txn → Option TxnFault
row_fault ms txn =
    option_or (id_fault ms txn.tx)
    (option_or (back_fault ms txn.stamp)
    (option_or (twice_behind [] txn.writes)
    (option_or (first_of (there_fault ms) txn.writes)
    (first_of (absent_fault ms) txn.writes))))

-- the refusals up to those of sizes, in their order
abbrev pub write_fault : List Table → List Modification → Txn → Option TxnFault
write_fault tables ms txn =
    option_or (row_fault ms txn)
    (option_or (first_of (fault_by Values tables) txn.writes)
    (option_or (first_of (fault_by Set tables) txn.writes)
    (option_or (first_of (shared_fault ms txn.stamp) txn.writes)
    (option_or (first_of (fault_by Tables tables) txn.writes)
    (first_of (fault_by Columns tables) txn.writes)))))
