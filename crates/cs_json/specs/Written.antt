-- The one line that is written for a record: its JSON without spaces, members in byte order of their names (this project's own).
use Rattle.std.specs.Prelude.{◌≡◌, ℕ, ◌/◌, ◌%◌, ◌^◌, ◌<◌, List, ◌++◌, map, All, true, codes}
use Rattle.serde_json.specs.Data.{Data, boolean, number, unsigned, string, array, object, Items, no_items, item, Members, no_members, member}
use Rattle.serde_json.specs.View.{items_of}
use Rattle.serde_json.specs.Written.{compact_text}
use Rattle.cs_types.specs.declared.column_type.ColumnType.{ColumnType}
use Rattle.cs_types.specs.Cells.{AreCells}
use Rattle.cs_types.specs.Shape.{four_digits}
use Rattle.cs_types.specs.Stamp.{IsStamp, stamp_text}
use Rattle.cs_types.specs.Texts.{kind_text, cells_members}
use Rattle.cs_types.specs.Token.{is_token}
use Rattle.cs_records.specs.declared.captured.ColumnInfo.{ColumnInfo}
use Rattle.cs_records.specs.declared.records.Mod.{Mod}
use Rattle.cs_records.specs.declared.records.DataRecord.{DataRecord}
use Rattle.cs_records.specs.declared.records.Child.{Child}
use Rattle.cs_records.specs.declared.records.ChildRecord.{ChildRecord}
use Rattle.cs_records.specs.declared.records.Record.{Record}
use Rattle.cs_records.specs.declared.records.Record.TheVariants.{Change, Heartbeat, Children}
use Rattle.cs_json_reading.specs.Texts.{capture_text, code_text}

-- ---- the written tree

-- a number below 100,000,000 in eight digits
unfoldable pub eight_digits : ℕ → List ℕ
eight_digits n = four_digits (n / 10000) ++ four_digits (n % 10000)

-- a heartbeat record
abbrev pub heartbeat_data : ℕ → Data
heartbeat_data at = object (member (codes "timestamp") (string (stamp_text at)) no_members)

-- a child
abbrev pub child_data : Child → Data
child_data c = object (member (codes "parent_partition_tokens") (array (items_of (map string c.parents)))
    (member (codes "token") (string c.token) no_members))

-- a child partitions record
abbrev pub children_data : ChildRecord → Data
children_data c = object (member (codes "child_partitions") (array (items_of (map child_data c.children)))
    (member (codes "record_sequence") (string (eight_digits c.sequence))
    (member (codes "start_timestamp") (string (stamp_text c.start)) no_members)))

-- a type
abbrev pub type_data : ColumnType → Data
type_data ty = object (member (codes "code") (string (code_text ty)) no_members)

-- a column
abbrev pub column_data : ColumnInfo → Data
column_data c = object (member (codes "is_primary_key") (boolean c.is_key)
    (member (codes "name") (string c.name)
    (member (codes "ordinal_position") (number (unsigned c.ordinal))
    (member (codes "type") (type_data c.ty) no_members))))

-- a mod
abbrev pub mod_data : Mod → Data
mod_data m = object (member (codes "keys") (object (cells_members m.keys))
    (member (codes "new_values") (object (cells_members m.new))
    (member (codes "old_values") (object (cells_members m.old)) no_members)))

-- the members from number_of_partitions_in_transaction on
abbrev pub last_members : DataRecord → Members
last_members r =
    member (codes "number_of_partitions_in_transaction") (number (unsigned r.parts_in_tx))
    (member (codes "number_of_records_in_transaction") (number (unsigned r.records_in_tx))
    (member (codes "record_sequence") (string (eight_digits r.sequence))
    (member (codes "server_transaction_id") (string r.tx)
    (member (codes "table_name") (string r.table)
    (member (codes "transaction_tag") (string r.tag)
    (member (codes "value_capture_type") (string (capture_text r.capture)) no_members))))))

-- a data change record
abbrev pub change_data : DataRecord → Data
change_data r =
    object (member (codes "column_types") (array (items_of (map column_data r.columns)))
    (member (codes "commit_timestamp") (string (stamp_text r.stamp))
    (member (codes "is_last_record_in_transaction_in_partition") (boolean r.is_last)
    (member (codes "is_system_transaction") (boolean r.system)
    (member (codes "mod_type") (string (kind_text r.kind))
    (member (codes "mods") (array (items_of (map mod_data r.mods)))
    (last_members r)))))))

-- the object of a line with these elements
abbrev pub line_data : Items → Items → Items → Data
line_data children changes heartbeats =
    object (member (codes "child_partitions_record") (array children)
    (member (codes "data_change_record") (array changes)
    (member (codes "heartbeat_record") (array heartbeats) no_members)))

-- the one tree that is written for a record
abbrev pub record_data : Record → Data
record_data (Heartbeat at) = line_data no_items no_items (item (heartbeat_data at) no_items)
record_data (Children c) = line_data (item (children_data c) no_items) no_items no_items
record_data (Change r) = line_data no_items (item (change_data r) no_items) no_items

-- the written line of a record, without its end
abbrev pub record_line : Record → List ℕ
record_line r = compact_text (record_data r)

-- ---- what the types of a record keep

-- what the type of a mod keeps: a row's cells, in their order and in range
pub record IsKeptMod (m : Mod) : Type 0 where
  pub keys : AreCells m.keys
  pub new : AreCells m.new
  pub old : AreCells m.old

-- what the type of a child keeps
pub record IsKeptChild (c : Child) : Type 0 where
  pub token : is_token c.token ≡ true
  pub parents : All (λ t. is_token t ≡ true) c.parents

-- what is so of each record, by the types of its parts
abbrev pub IsKept : Record → Type 0
IsKept (Heartbeat at) = IsStamp at
IsKept (Children c) = IsStamp c.start × All IsKeptChild c.children
IsKept (Change r) = IsStamp r.stamp × All (λ c. c.ordinal < 2 ^ 32) r.columns × All IsKeptMod r.mods
