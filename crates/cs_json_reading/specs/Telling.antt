-- What the members of a tree tell of a record, member by member (the members are those of Spanner's page 'Change streams partitions, records, and queries'; how one stands as JSON is this project's own).
use Rattle.std.specs.Prelude.{◌≡◌, ◌≢◌, ◌⊎◌, ℕ, List, [], ◌∷◌, false, codes, ⊤, Option, Some, None, option_and_then}
use Rattle.serde_json.specs.Data.{Data, null, array, Items, no_items, item, Members, no_members, member}
use Rattle.serde_json.specs.Find.{get, as_bool, as_str, as_array, as_object}
use Rattle.cs_types.specs.declared.cells.Cell.{Cell}
use Rattle.cs_types.specs.declared.column_type.ColumnType.{ColumnType}
use Rattle.cs_types.specs.Names.{first_again}
use Rattle.cs_types.specs.Value.{Spells}
use Rattle.cs_records.specs.declared.captured.ColumnInfo.{ColumnInfo}
use Rattle.cs_records.specs.declared.records.Mod.{Mod}
use Rattle.cs_records.specs.declared.records.DataRecord.{DataRecord}
use Rattle.cs_records.specs.declared.records.Child.{Child}
use Rattle.cs_records.specs.declared.records.ChildRecord.{ChildRecord}
use Rattle.cs_records.specs.declared.records.Record.{Record}
use Rattle.cs_records.specs.declared.records.Record.TheVariants.{Change, Heartbeat, Children}
use Rattle.cs_json_reading.specs.Members.{stamp_value, sequence_value, transaction_value, name_value, kind_value, capture_value, token_value, tokens_value, whole_value, ordinal_value, tree_or_text}
use Rattle.cs_json_reading.specs.Columns.{type_value, column_type, names_of}

-- the object has the member, and its tree stands for this
abbrev pub Has : {A : Type 0} → (Data → Option A) → List ℕ → Data → A → Type 0
Has f name d a = option_and_then f (get name d) ≡ Some a

-- it has, or has not and this is what is told by that
abbrev pub HasOr : {A : Type 0} → A → (Data → Option A) → List ℕ → Data → A → Type 0
HasOr otherwise f name d a = ((get name d ≡ None) × (a ≡ otherwise)) ⊎ Has f name d a

-- the elements of an array tell the elements of a list, one by one
abbrev pub Each : {A : Type 0} → (A → Data → Type 0) → List A → Items → Type 0
Each R [] no_items = ⊤
Each R [] (item d ds) = ⊥
Each R (x ∷ xs) no_items = ⊥
Each R (x ∷ xs) (item d ds) = R x d × Each R xs ds

-- the object has an array that tells a list
pub record HasEach {A : Type 0} (R : A → Data → Type 0) (name : List ℕ) (d : Data) (xs : List A) : Type 0 where
  pub elements : Items
  pub there : Has as_array name d elements
  pub each : Each R xs elements

-- ---- heartbeats and children

-- a heartbeat is its timestamp
abbrev pub TellsHeartbeat : ℕ → Data → Type 0
TellsHeartbeat at d = Has stamp_value (codes "timestamp") d at

-- a child: absent parents are none
pub record TellsChild (c : Child) (d : Data) : Type 0 where
  pub token : Has token_value (codes "token") d c.token
  pub parents : HasOr [] tokens_value (codes "parent_partition_tokens") d c.parents

-- a child partitions record
pub record TellsChildren (c : ChildRecord) (d : Data) : Type 0 where
  pub start : Has stamp_value (codes "start_timestamp") d c.start
  pub sequence : Has sequence_value (codes "record_sequence") d c.sequence
  pub children : HasEach TellsChild (codes "child_partitions") d c.children

-- ---- columns and cells

-- a column
pub record TellsColumn (c : ColumnInfo) (d : Data) : Type 0 where
  pub name : Has as_str (codes "name") d c.name
  pub type : Has type_value (codes "type") d c.ty
  pub is_primary_key : Has as_bool (codes "is_primary_key") d c.is_key
  pub ordinal_position : Has ordinal_value (codes "ordinal_position") d c.ordinal

-- a member tells a cell: its name is that of a listed column, and its tree spells a value of the column's type
pub record TellsCell (columns : List ColumnInfo) (c : Cell) (name : List ℕ) (d : Data) : Type 0 where
  pub type : ColumnType
  pub column : c.column ≡ name
  pub listed : column_type name columns ≡ Some type
  pub value : Spells type d c.value

-- the members of an object tell cells, one by one
abbrev pub EachCell : List ColumnInfo → List Cell → Members → Type 0
EachCell columns [] no_members = ⊤
EachCell columns [] (member name d ms) = ⊥
EachCell columns (c ∷ cs) no_members = ⊥
EachCell columns (c ∷ cs) (member name d ms) = TellsCell columns c name d × EachCell columns cs ms

-- an object that tells cells, as a tree or as a text that holds it
pub record TellsCells (columns : List ColumnInfo) (cells : List Cell) (d : Data) : Type 0 where
  pub members : Members
  pub object : option_and_then as_object (tree_or_text d) ≡ Some members
  pub each : EachCell columns cells members

-- the object has a member that tells cells
pub record HasCells (columns : List ColumnInfo) (name : List ℕ) (d : Data) (cells : List Cell) : Type 0 where
  pub tree : Data
  pub there : get name d ≡ Some tree
  pub tells : TellsCells columns cells tree

-- where the member is absent or null there are no cells
abbrev pub MayHaveCells : List ColumnInfo → List ℕ → Data → List Cell → Type 0
MayHaveCells columns name d cells =
    ((get name d ≡ None) × (cells ≡ [])) ⊎ ((get name d ≡ Some null) × (cells ≡ [])) ⊎ HasCells columns name d cells

-- a mod
pub record TellsMod (columns : List ColumnInfo) (m : Mod) (d : Data) : Type 0 where
  pub keys : HasCells columns (codes "keys") d m.keys
  pub new_values : MayHaveCells columns (codes "new_values") d m.new
  pub old_values : MayHaveCells columns (codes "old_values") d m.old

-- ---- data change records

-- a data change record: an absent tag is the empty text, and one that does not say so is not of the system
pub record TellsChange (r : DataRecord) (d : Data) : Type 0 where
  pub commit_timestamp : Has stamp_value (codes "commit_timestamp") d r.stamp
  pub record_sequence : Has sequence_value (codes "record_sequence") d r.sequence
  pub server_transaction_id : Has transaction_value (codes "server_transaction_id") d r.tx
  pub is_last : Has as_bool (codes "is_last_record_in_transaction_in_partition") d r.is_last
  pub table_name : Has name_value (codes "table_name") d r.table
  pub column_types : HasEach TellsColumn (codes "column_types") d r.columns
  -- no two columns have one name
  pub apart : first_again [] (names_of r.columns) ≡ None
  pub mods : HasEach (TellsMod r.columns) (codes "mods") d r.mods
  pub some_mods : r.mods ≢ []
  pub mod_type : Has kind_value (codes "mod_type") d r.kind
  pub value_capture_type : Has capture_value (codes "value_capture_type") d r.capture
  pub number_of_records : Has whole_value (codes "number_of_records_in_transaction") d r.records_in_tx
  pub number_of_partitions : Has whole_value (codes "number_of_partitions_in_transaction") d r.parts_in_tx
  pub transaction_tag : HasOr [] as_str (codes "transaction_tag") d r.tag
  pub is_system_transaction : HasOr false as_bool (codes "is_system_transaction") d r.system

-- ---- lines

-- the member is an array, or is absent or null, which is an array of nothing
abbrev pub HasElements : Option Data → Items → Type 0
HasElements None ds = ds ≡ no_items
HasElements (Some null) ds = ds ≡ no_items
HasElements (Some d) ds = d ≡ array ds

-- of the arrays of a line one has one element, which tells the record, and the others have none
abbrev pub IsElement : Record → Items → Items → Items → Type 0
IsElement (Children c) children changes heartbeats =
    (changes ≡ no_items) × (heartbeats ≡ no_items) × ((d : Data) × (children ≡ item d no_items) × TellsChildren c d)
IsElement (Change r) children changes heartbeats =
    (children ≡ no_items) × (heartbeats ≡ no_items) × ((d : Data) × (changes ≡ item d no_items) × TellsChange r d)
IsElement (Heartbeat at) children changes heartbeats =
    (children ≡ no_items) × (changes ≡ no_items) × ((d : Data) × (heartbeats ≡ item d no_items) × TellsHeartbeat at d)

-- the tree's members tell the record
pub record Tells (r : Record) (d : Data) : Type 0 where
  pub children : Items
  pub changes : Items
  pub heartbeats : Items
  pub child_partitions_record : HasElements (get (codes "child_partitions_record") d) children
  pub data_change_record : HasElements (get (codes "data_change_record") d) changes
  pub heartbeat_record : HasElements (get (codes "heartbeat_record") d) heartbeats
  pub one : IsElement r children changes heartbeats
