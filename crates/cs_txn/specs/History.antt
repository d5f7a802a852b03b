-- What transactions do to the rows of a database, as lists of modifications: the state of a row is what its last earlier write left, as with the commits of Spanner's read-write transactions.
use Rattle.std.specs.Prelude.{◌≡◌, ◌≤◌, ℕ, List, [], ◌∷◌, ◌++◌, Some, None, cond, Bool, true, false, is_some, ◌==◌, ◌&&◌}
use Rattle.std.specs.declared.option.Option.{Option}
use Rattle.std.specs.Ordering.{nat_cmp}
use Rattle.std.specs.Cmp.Lexicographic.{slice_cmp}
use Rattle.std.specs.BTreeMap.{is_at}
use Rattle.cs_types.specs.declared.value.Value.{Value}
use Rattle.cs_types.specs.declared.value.Value.TheVariants.{Null}
use Rattle.cs_types.specs.declared.cells.Cell.{Cell}
use Rattle.cs_types.specs.declared.change.RowName.{RowName}
use Rattle.cs_types.specs.declared.change.Kind.{Kind}
use Rattle.cs_types.specs.declared.change.Kind.TheVariants.{Insert, Update, Delete}
use Rattle.cs_types.specs.Row.{same_row}
use Rattle.std.specs.Option.{option_or}
use Rattle.cs_types.specs.Names.{is_among, columns_of}
use Rattle.cs_schema.specs.declared.types.Table.{Table}
use Rattle.cs_txn.specs.declared.txn.Write.{Write}
use Rattle.cs_txn.specs.declared.txn.Txn.{Txn}
use Rattle.cs_txn.specs.declared.txn.Modification.{Modification}
use Rattle.cs_txn.specs.Left.{free_columns_of, row_cells, cells_left, cells_or_none, found_in, or_null}

-- the last modification of a row
abbrev pub last_of : RowName → List Modification → Option Modification
last_of row [] = None
last_of row (m ∷ ms) = option_or (last_of row ms) (cond (same_row m.row row) (Some m) None)

-- the cells that a modification leaves: no row behind a DELETE
abbrev pub left_by : Kind → List Cell → Option (List Cell)
left_by Insert cells = Some cells
left_by Update cells = Some cells
left_by Delete cells = None

abbrev pub left_of : Option Modification → Option (List Cell)
left_of None = None
left_of (Some m) = left_by m.kind m.after

-- a row's cells behind these modifications, and so before the next; nothing where it is absent
abbrev pub state_before : List Modification → RowName → Option (List Cell)
state_before ms row = left_of (last_of row ms)

-- whether a transaction of these modifications has the id
abbrev pub is_used : List ℕ → List Modification → Bool
is_used id [] = false
is_used id (m ∷ ms) = cond (is_at (slice_cmp nat_cmp m.tx) id) true (is_used id ms)

-- the stamp of the last modification, or this one where there is none
abbrev pub stamp_behind : ℕ → List Modification → ℕ
stamp_behind stamp [] = stamp
stamp_behind stamp (m ∷ ms) = stamp_behind m.stamp ms

-- the stamp of the last modification, 0 before the first
abbrev pub last_stamp : List Modification → ℕ
last_stamp ms = stamp_behind 0 ms

-- what a write of a transaction does to its row
abbrev pub modification_of : List Table → List Modification → Txn → Write → Modification
modification_of tables ms txn w = record {
  stamp = txn.stamp;
  tx = txn.tx;
  tag = txn.tag;
  kind = w.kind;
  row = w.row;
  named = columns_of w.set;
  before = row_cells (free_columns_of w.row.table tables) (state_before ms w.row);
  after = cells_left (free_columns_of w.row.table tables) w.kind w.set (state_before ms w.row);
}

abbrev pub modifications_from : List Table → List Modification → Txn → List Write → List Modification
modifications_from tables ms txn [] = []
modifications_from tables ms txn (w ∷ ws) = modification_of tables ms txn w ∷ modifications_from tables ms txn ws

-- the modifications of a transaction, in the order of its writes; no write sees another, since no row is written twice
abbrev pub modifications_of : List Table → List Modification → Txn → List Modification
modifications_of tables ms txn = modifications_from tables ms txn txn.writes

-- whether a modification of this stamp is of the row
abbrev pub wrote_at : ℕ → RowName → List Modification → Bool
wrote_at stamp row [] = false
wrote_at stamp row (m ∷ ms) = cond ((m.stamp == stamp) && same_row m.row row) true (wrote_at stamp row ms)

-- the id of the last modification, or this one where there is none
abbrev pub id_behind : List ℕ → List Modification → List ℕ
id_behind id [] = id
id_behind id (m ∷ ms) = id_behind m.tx ms

-- the tag of the last modification, or this one where there is none
abbrev pub tag_behind : List ℕ → List Modification → List ℕ
tag_behind tag [] = tag
tag_behind tag (m ∷ ms) = tag_behind m.tag ms

-- an INSERT needs an absent row, the others a present one
abbrev pub IsAllowed : Kind → Bool → Type 0
IsAllowed Insert present = present ≡ false
IsAllowed Update present = present ≡ true
IsAllowed Delete present = present ≡ true

-- in each column the cells have what the row had, NULL where it never received a value
abbrev pub AsItWas : List Cell → List Cell → Type 0
AsItWas before state = (column : List ℕ) (v : Value) → found_in column before ≡ Some v → v ≡ or_null (found_in column state)

-- columns that are not named are NULL
abbrev pub NullBut : List (List ℕ) → List Cell → Type 0
NullBut named after = (column : List ℕ) → is_among column named ≡ false → or_null (found_in column after) ≡ Null

-- columns that are not named stay
abbrev pub KeptBut : List (List ℕ) → List Cell → List Cell → Type 0
KeptBut named before after = (column : List ℕ) → is_among column named ≡ false → found_in column after ≡ found_in column before

-- each column that is named has a cell
abbrev pub HasNamed : List (List ℕ) → List Cell → Type 0
HasNamed named after = (column : List ℕ) → is_among column named ≡ true → is_among column (columns_of after) ≡ true

-- an INSERT finds nothing, gives the columns that it names a cell and leaves NULL in the others; an UPDATE gives no column a cell that had none, and keeps those that it does not name; a DELETE leaves nothing
abbrev pub Leaves : Kind → List (List ℕ) → List Cell → List Cell → Type 0
Leaves Insert named before after = (before ≡ []) × NullBut named after × HasNamed named after
Leaves Update named before after = (columns_of after ≡ columns_of before) × KeptBut named before after × HasNamed named after
Leaves Delete named before after = after ≡ []

-- a modification against those before it
pub record Follows (earlier : List Modification) (m : Modification) : Type 0 where
  -- stamps do not fall
  pub stamp : last_stamp earlier ≤ m.stamp
  -- an id that stands before is that of the transaction that goes on, with its stamp and its tag
  pub id : is_used m.tx earlier ≡ true → (id_behind [] earlier ≡ m.tx) × (last_stamp earlier ≡ m.stamp) × (tag_behind [] earlier ≡ m.tag)
  -- no transaction writes a row twice, and two of one stamp share no row
  pub row : wrote_at m.stamp m.row earlier ≡ false
  pub kind : IsAllowed m.kind (is_some (state_before earlier m.row))
  -- what stands before it is what its row's last earlier modification left
  pub before : AsItWas m.before (cells_or_none (state_before earlier m.row))
  pub after : Leaves m.kind m.named m.before m.after

abbrev pub EachFollows : List Modification → List Modification → Type 0
EachFollows earlier [] = Unit {0}
EachFollows earlier (m ∷ ms) = Follows earlier m × EachFollows (earlier ++ m ∷ []) ms

-- the modifications are those of transactions, each of which might follow on those before it
abbrev pub IsHistory : List Modification → Type 0
IsHistory ms = EachFollows [] ms
