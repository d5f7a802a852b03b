-- What a heartbeat record and a child partitions record stand for.
use Rattle.std.specs.Prelude.{ℕ, List, [], codes, is_some, if◌then◌else◌, Ok, Err}
use Rattle.serde_json.specs.Data.{Data}
use Rattle.serde_json.specs.Find.{as_array, as_object}
use Rattle.cs_records.specs.declared.faults.LineFault.TheVariants.{BadValue}
use Rattle.cs_records.specs.declared.records.Child.{Child}
use Rattle.cs_records.specs.declared.records.Record.{Record}
use Rattle.cs_records.specs.declared.records.Record.TheVariants.{Heartbeat, Children}
use Rattle.cs_json_reading.specs.Reading.{Reading, required, optional, each_in}
use Rattle.cs_json_reading.specs.Members.{stamp_value, sequence_value, token_value, tokens_value}

-- the record of a stamp, where it was read
abbrev pub heartbeat_from : Reading ℕ → Reading Record
heartbeat_from (Ok at) = Ok (Heartbeat at)
heartbeat_from (Err e) = Err e

-- a heartbeat record: its timestamp
unfoldable pub heartbeat_reading : Data → Reading Record
heartbeat_reading d = if is_some (as_object d) then heartbeat_from (required stamp_value (codes "timestamp") d)
    else Err (BadValue (codes "heartbeat_record"))

-- the child of its parts, or the first fault in their order
abbrev pub child_from : Reading (List ℕ) → Reading (List (List ℕ)) → Reading Child
child_from (Err e) parents = Err e
child_from (Ok token) (Err e) = Err e
child_from (Ok token) (Ok parents) = Ok (record { token = token; parents = parents })

-- a child: its token, and its parents' tokens or none
unfoldable pub child_reading : Data → Reading Child
child_reading d = if is_some (as_object d)
    then child_from (required token_value (codes "token") d) (optional [] tokens_value (codes "parent_partition_tokens") d)
    else Err (BadValue (codes "child_partitions"))

-- the record of its parts, or the first fault in their order
abbrev pub children_from : Reading ℕ → Reading ℕ → Reading (List Child) → Reading Record
children_from (Err e) sequence children = Err e
children_from (Ok start) (Err e) children = Err e
children_from (Ok start) (Ok sequence) (Err e) = Err e
children_from (Ok start) (Ok sequence) (Ok children) = Ok (Children (record { start = start; sequence = sequence; children = children }))

-- a child partitions record: its start, its sequence and its children
unfoldable pub children_reading : Data → Reading Record
children_reading d = if is_some (as_object d)
    then children_from (required stamp_value (codes "start_timestamp") d)
    (required sequence_value (codes "record_sequence") d)
    (each_in child_reading (required as_array (codes "child_partitions") d))
    else Err (BadValue (codes "child_partitions_record"))
