-- How large a row and a history are, in bytes of JSON, and what is too large (the limits are this project's own).
use Rattle.std.specs.Prelude.{ℕ, List, [], ◌∷◌, Some, None, cond, nat_lt, ◌+◌, length, max}
use Rattle.std.specs.declared.option.Option.{Option}
use Rattle.serde_json.specs.Data.{Data, object, Members, no_members, put}
use Rattle.serde_json.specs.Written.{compact_text}
use Rattle.cs_types.specs.Value.{value_data}
use Rattle.cs_types.specs.declared.cells.Cell.{Cell}
use Rattle.cs_types.specs.declared.change.Kind.{Kind}
use Rattle.cs_types.specs.declared.change.Kind.TheVariants.{Insert, Update, Delete}
use Rattle.std.specs.Option.{option_or}
use Rattle.cs_types.specs.Firsts.{first_of}
use Rattle.cs_schema.specs.declared.types.Table.{Table}
use Rattle.cs_txn.specs.declared.txn.Txn.{Txn}
use Rattle.cs_txn.specs.declared.txn.Modification.{Modification}
use Rattle.cs_txn.specs.declared.fault.TxnFault.{TxnFault}
use Rattle.cs_txn.specs.declared.fault.TxnFault.TheVariants.{RowTooLarge, HistoryFull}
use Rattle.cs_txn.specs.History.{modifications_of}
use Rattle.cs_txn.specs.Faults.{write_fault}

-- these members and one for each cell, in byte order of their names
abbrev pub members_with : Members → List Cell → Members
members_with ms [] = ms
members_with ms (c ∷ cs) = members_with (put c.column (value_data c.value) ms) cs

-- the object of all cells of a row: those of its key and the others
abbrev pub row_data : List Cell → List Cell → Data
row_data key cells = object (members_with (members_with no_members key) cells)

-- the length of a row's object as JSON without spaces
abbrev pub row_size : List Cell → List Cell → ℕ
row_size key cells = length (compact_text (row_data key cells))

-- the size of the row before a modification; an absent row has none
abbrev pub size_before : Kind → List Cell → List Cell → ℕ
size_before Insert key before = 0
size_before Update key before = row_size key before
size_before Delete key before = row_size key before

-- the like after it
abbrev pub size_after : Kind → List Cell → List Cell → ℕ
size_after Insert key after = row_size key after
size_after Update key after = row_size key after
size_after Delete key after = 0

-- the greatest size of a row
abbrev pub row_limit : ℕ
row_limit = 65536

-- the greatest sum over a history
abbrev pub history_limit : ℕ
history_limit = 134217728

-- a row that a modification leaves too large
abbrev pub large_fault : Modification → Option TxnFault
large_fault m = cond (nat_lt row_limit (size_after m.kind m.row.key m.after)) (Some (RowTooLarge m.row)) None

-- the larger size of the row, before or after
abbrev pub weight : Modification → ℕ
weight m = max (size_before m.kind m.row.key m.before) (size_after m.kind m.row.key m.after)

abbrev pub weights_of : List Modification → List ℕ
weights_of [] = []
weights_of (m ∷ ms) = weight m ∷ weights_of ms

abbrev pub total : List ℕ → ℕ
total [] = 0
total (n ∷ ns) = n + total ns

-- a history's size: the sum over all modifications
abbrev pub history_size : List Modification → ℕ
history_size ms = total (weights_of ms)

abbrev pub full_fault : List Modification → List Modification → Option TxnFault
full_fault ms added = cond (nat_lt history_limit (history_size ms + history_size added)) (Some HistoryFull) None

abbrev pub size_fault : List Modification → List Modification → Option TxnFault
size_fault ms added = option_or (first_of large_fault added) (full_fault ms added)

-- the refusals in their order
abbrev pub first_fault : List Table → List Modification → Txn → Option TxnFault
first_fault tables ms txn = option_or (write_fault tables ms txn) (size_fault ms (modifications_of tables ms txn))
