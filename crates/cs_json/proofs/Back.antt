-- What is written for a record is read again as it.
use Rattle.std.proofs.Common.{◌≡◌, ◌≤◌, ℕ, List, length, Some, Ok, refl, IsUtf8, true, is_some, rules}
use Rattle.std.proofs.lemmas.Str.{is_utf8-from_IsUtf8}
use Rattle.serde_json.specs.Find.{as_object}
use Rattle.serde_json.specs.Read.{read}
use Rattle.cs_records.specs.declared.records.Record.{Record}
use Rattle.cs_records.specs.declared.records.Record.TheVariants.{Change, Heartbeat, Children}
use Rattle.cs_json_reading.specs.Missing.{missing, count, bad_array}
use Rattle.cs_json_reading.specs.Line.{element_reading, tree_reading, object_reading, bytes_reading, line_reading}
use Rattle.cs_json_reading.specs.Standing.{CanStand}
use Rattle.cs_json.specs.Written.{record_data, IsKept}
use Rattle.cs_json.proofs.Resting.{Laws}
use Rattle.cs_json.proofs.ChildrenBack.{heartbeat_back, children_back, no_child_lacks}
use Rattle.cs_json.proofs.ChangesBack.{change_back, change_lacks_nothing}

-- the written tree stands for the record
tree_back : Laws → (r : Record) → IsKept r → CanStand r → tree_reading (record_data r) ≡ Ok r
unfolding tree_reading missing count bad_array element_reading
tree_back laws (Heartbeat at) kept can = heartbeat_back laws at kept
tree_back laws (Children c) kept can = rw (no_child_lacks c.children) (children_back laws c kept.0 kept.1 can)
tree_back laws (Change r) kept can = rw (change_lacks_nothing r) (change_back laws r kept.0 kept.1 kept.2 can)

-- it is an object
is_object : (r : Record) → is_some (as_object (record_data r)) ≡ true
is_object (Heartbeat at) = refl
is_object (Children c) = refl
is_object (Change r) = refl

object_back : Laws → (r : Record) → IsKept r → CanStand r → object_reading (record_data r) ≡ Ok r
object_back laws r kept can = rw (is_object r) (tree_back laws r kept can)

-- a text that JSON reads as the written tree is read as the record
pub bytes_back : Laws → (r : Record) (line : List ℕ) → IsKept r → CanStand r → IsUtf8 line → read line ≡ Some (record_data r) → bytes_reading line ≡ Ok r
unfolding bytes_reading
bytes_back laws r line kept can is reads = rw (is_utf8-from_IsUtf8 line is, reads) (object_back laws r kept can)

pub line_back : (line : List ℕ) (r : Record) → bytes_reading line ≡ Ok r → length line ≤ 8388608 → line_reading line ≡ Ok r
unfolding line_reading
line_back line r back short = rw back (search (rules, short))
