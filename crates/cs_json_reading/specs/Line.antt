-- What a line of a READ's answer stands for: one record as JSON (the object is this project's own; its members are those of Spanner's page 'Change streams partitions, records, and queries').
use Rattle.std.specs.Prelude.{◌≡◌, ℕ, ◌==◌, List, true, length, codes, is_some, nat_lt, if◌then◌else◌, Option, Some, None, Err}
use Rattle.std.specs.Str.{is_utf8, IsUtf8}
use Rattle.serde_json.specs.Data.{Data, Items, no_items, item}
use Rattle.serde_json.specs.Find.{get, as_object}
use Rattle.serde_json.specs.Read.{read}
use Rattle.cs_records.specs.declared.faults.LineFault.TheVariants.{NotJson, Member, ArrayCount, TooLong}
use Rattle.cs_records.specs.declared.records.Record.{Record}
use Rattle.cs_json_reading.specs.Reading.{Reading}
use Rattle.cs_json_reading.specs.Missing.{missing, count, bad_array, elements}
use Rattle.cs_json_reading.specs.Children.{heartbeat_reading, children_reading}
use Rattle.cs_json_reading.specs.Columns.{unless_bad}
use Rattle.cs_json_reading.specs.Changes.{change_reading}
use Rattle.cs_json_reading.specs.Telling.{Tells}

-- the first heartbeat that there is
abbrev pub first_heartbeat : Items → Reading Record
first_heartbeat no_items = Err ArrayCount
first_heartbeat (item d ds) = heartbeat_reading d

-- the first data change record that there is, else the first heartbeat
abbrev pub first_change : Items → Items → Reading Record
first_change (item d ds) heartbeats = change_reading d
first_change no_items heartbeats = first_heartbeat heartbeats

-- the one element that there is
abbrev pub first_element : Items → Items → Items → Reading Record
first_element (item d ds) changes heartbeats = children_reading d
first_element no_items changes heartbeats = first_change changes heartbeats

-- the record of the one element, where each of the three is an array, absent or null
unfoldable pub element_reading : Data → Reading Record
element_reading d = unless_bad (bad_array d) (first_element (elements (get (codes "child_partitions_record") d))
    (elements (get (codes "data_change_record") d)) (elements (get (codes "heartbeat_record") d)))

-- what is read, unless a member is absent
abbrev pub unless_missing : Option (List ℕ) → Reading Record → Reading Record
unless_missing None reading = reading
unless_missing (Some name) reading = Err (Member name)

-- an object that lacks no member and has one element in its three arrays
unfoldable pub tree_reading : Data → Reading Record
tree_reading d = unless_missing (missing d) (if count d == 1 then element_reading d else Err ArrayCount)

-- the record of an object; anything else is none
abbrev pub object_reading : Data → Reading Record
object_reading d = if is_some (as_object d) then tree_reading d else Err NotJson

-- the record of a tree, where there is one
abbrev pub of_tree : Option Data → Reading Record
of_tree None = Err NotJson
of_tree (Some d) = object_reading d

-- the record for which bytes stand, or why they stand for none
unfoldable pub bytes_reading : List ℕ → Reading Record
bytes_reading line = if is_utf8 line then of_tree (read line) else Err NotJson

-- the line stands for the record
pub record Spells (r : Record) (line : List ℕ) : Type 0 where
  pub text : IsUtf8 line
  pub tree : Data
  -- as JSON it is the tree, in which the later of two members of one name counts
  pub json : read line ≡ Some tree
  pub object : is_some (as_object tree) ≡ true
  -- whose members tell the record
  pub tells : Tells r tree

-- the most bytes of a line
abbrev pub line_end : ℕ
line_end = 8388608

-- the record for which a line stands, or the fault that it is refused for
unfoldable pub line_reading : List ℕ → Reading Record
line_reading line = if nat_lt line_end (length line) then Err TooLong else bytes_reading line
