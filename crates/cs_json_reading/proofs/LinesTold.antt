-- The tree of a line is read as the record that it tells.
use Rattle.std.proofs.Common.{◌≡◌, ℕ, ◌+◌, ◌==◌, List, codes, Bool, true, false, if◌then◌else◌, Option, Some, None, Ok, refl, ap, sym, subst, arith}
use Rattle.serde_json.specs.Data.{Data, null, boolean, number, string, array, object, Items, no_items, item}
use Rattle.serde_json.specs.Find.{get}
use Rattle.serde_json.specs.Events.{items_len}
use Rattle.cs_records.specs.declared.records.Record.{Record}
use Rattle.cs_records.specs.declared.records.Record.TheVariants.{Change, Heartbeat, Children}
use Rattle.cs_json_reading.specs.Reading.{Reading}
use Rattle.std.specs.Option.{option_or}
use Rattle.cs_json_reading.specs.Missing.{missing, count, no_array, bad_array, elements}
use Rattle.cs_json_reading.specs.Columns.{unless_bad}
use Rattle.cs_json_reading.specs.Line.{first_element, element_reading, unless_missing, tree_reading}
use Rattle.cs_json_reading.specs.Telling.{HasElements, IsElement, Tells}
use Rattle.cs_json_reading.proofs.Told.{never}
use Rattle.cs_json_reading.proofs.ChildrenTold.{heartbeat_told, heartbeat_read, heartbeat_lacks_nothing, children_told, children_read, children_lack_nothing}
use Rattle.cs_json_reading.proofs.ChangesTold.{change_told, change_read, change_lacks_nothing}

-- ---- arrays

has_elements : (name : List ℕ) (o : Option Data) → no_array name o ≡ None → HasElements o (elements o)
has_elements name None h = refl
has_elements name (Some null) h = refl
has_elements name (Some (array ds)) h = refl
has_elements name (Some (boolean b)) h = absurd cc
has_elements name (Some (number n)) h = absurd cc
has_elements name (Some (string s)) h = absurd cc
has_elements name (Some (object ms)) h = absurd cc

elements_of : (o : Option Data) (ds : Items) → HasElements o ds → elements o ≡ ds
elements_of None ds h = sym h
elements_of (Some null) ds h = sym h
elements_of (Some (array es)) ds h = cc
elements_of (Some (boolean b)) ds h = absurd cc
elements_of (Some (number n)) ds h = absurd cc
elements_of (Some (string s)) ds h = absurd cc
elements_of (Some (object ms)) ds h = absurd cc

is_array : (name : List ℕ) (o : Option Data) (ds : Items) → HasElements o ds → no_array name o ≡ None
is_array name None ds h = refl
is_array name (Some null) ds h = refl
is_array name (Some (array es)) ds h = refl
is_array name (Some (boolean b)) ds h = absurd cc
is_array name (Some (number n)) ds h = absurd cc
is_array name (Some (string s)) ds h = absurd cc
is_array name (Some (object ms)) ds h = absurd cc

neither : (a b : Option (List ℕ)) → option_or a b ≡ None → (a ≡ None) × (b ≡ None)
neither None b h = (refl, h)
neither (Some x) b h = absurd cc

-- ---- elements

is_empty : (ds : Items) → items_len ds ≡ 0 → ds ≡ no_items
is_empty no_items h = refl
is_empty (item d ds) h = absurd (omega (arith, h))

is_one : (a b c : ℕ) → (a + b + c == 1) ≡ true → a + b + c ≡ 1
is_one a b c h = grind (arith, h)

element_told : (cs ds hs : Items) (r : Record) → items_len cs + items_len ds + items_len hs ≡ 1 → first_element cs ds hs ≡ Ok r → IsElement r cs ds hs
element_told (item d cs) ds hs r one h =
    let told = children_told d r h in
    let none : items_len cs ≡ 0 = omega (arith, one) in
    let others : items_len ds ≡ 0 = omega (arith, one) in
    let last : items_len hs ≡ 0 = omega (arith, one) in
    subst (λ (r : Record). IsElement r (item d cs) ds hs) (sym told.1) (is_empty ds others, is_empty hs last, (d, ap (item d) (is_empty cs none), told.2))
element_told no_items (item d ds) hs r one h =
    let told = change_told d r h in
    let none : items_len ds ≡ 0 = omega (arith, one) in
    let last : items_len hs ≡ 0 = omega (arith, one) in
    subst (λ (r : Record). IsElement r no_items (item d ds) hs) (sym told.1) (refl, is_empty hs last, (d, ap (item d) (is_empty ds none), told.2))
element_told no_items no_items (item d hs) r one h =
    let told = heartbeat_told d r h in
    let none : items_len hs ≡ 0 = omega (arith, one) in
    subst (λ (r : Record). IsElement r no_items no_items (item d hs)) (sym told.1) (refl, refl, (d, ap (item d) (is_empty hs none), told.2))
element_told no_items no_items no_items r one h = absurd (never _ r h)

-- ---- the line

past_missing : (o : Option (List ℕ)) (x : Reading Record) (r : Record) → unless_missing o x ≡ Ok r → x ≡ Ok r
past_missing None x r h = h
past_missing (Some name) x r h = absurd (never _ r h)

past_bad : (o : Option (List ℕ)) (x : Reading Record) (r : Record) → unless_bad o x ≡ Ok r → (o ≡ None) × (x ≡ Ok r)
past_bad None x r h = (refl, h)
past_bad (Some name) x r h = absurd (never _ r h)

tested : (b : Bool) (x : Reading Record) (r : Record) (e : Reading Record) → (e ≡ Ok r → ⊥) → (if b then x else e) ≡ Ok r → (b ≡ true) × (x ≡ Ok r)
tested true x r e wrong h = (refl, h)
tested false x r e wrong h = absurd (wrong h)

pub tells_if_read : (d : Data) (r : Record) → tree_reading d ≡ Ok r → Tells r d
unfolding tree_reading count element_reading bad_array
tells_if_read d r h =
    let children = elements (get (codes "child_partitions_record") d) in
    let changes = elements (get (codes "data_change_record") d) in
    let heartbeats = elements (get (codes "heartbeat_record") d) in
    let counted = tested (items_len children + items_len changes + items_len heartbeats == 1) (element_reading d) r _ (never _ r) (past_missing (missing d) _ r h) in
    let element = past_bad (bad_array d) (first_element children changes heartbeats) r counted.1 in
    let first = neither (no_array (codes "child_partitions_record") (get (codes "child_partitions_record") d)) _ element.0 in
    let others = neither (no_array (codes "data_change_record") (get (codes "data_change_record") d)) (no_array (codes "heartbeat_record") (get (codes "heartbeat_record") d)) first.1 in
    record {
      children = children;
      changes = changes;
      heartbeats = heartbeats;
      child_partitions_record = has_elements (codes "child_partitions_record") (get (codes "child_partitions_record") d) first.0;
      data_change_record = has_elements (codes "data_change_record") (get (codes "data_change_record") d) others.0;
      heartbeat_record = has_elements (codes "heartbeat_record") (get (codes "heartbeat_record") d) others.1;
      one = element_told children changes heartbeats r (is_one (items_len children) (items_len changes) (items_len heartbeats) counted.0) element.1;
    }

-- with the elements of the three arrays
read_of : (d : Data) (r : Record) (children changes heartbeats : Items) → HasElements (get (codes "child_partitions_record") d) children
    → HasElements (get (codes "data_change_record") d) changes → HasElements (get (codes "heartbeat_record") d) heartbeats
    → IsElement r children changes heartbeats → tree_reading d ≡ Ok r
unfolding tree_reading missing count element_reading bad_array
read_of d (Children c) children changes heartbeats a b e one =
    rw (
      elements_of (get (codes "child_partitions_record") d) children a,
      elements_of (get (codes "data_change_record") d) changes b,
      elements_of (get (codes "heartbeat_record") d) heartbeats e,
      is_array (codes "child_partitions_record") (get (codes "child_partitions_record") d) children a,
      is_array (codes "data_change_record") (get (codes "data_change_record") d) changes b,
      is_array (codes "heartbeat_record") (get (codes "heartbeat_record") d) heartbeats e,
      one.0,
      one.1,
      one.2.1,
      children_lack_nothing c one.2.0 one.2.2,
    ) (children_read c one.2.0 one.2.2)
read_of d (Change r) children changes heartbeats a b e one =
    rw (
      elements_of (get (codes "child_partitions_record") d) children a,
      elements_of (get (codes "data_change_record") d) changes b,
      elements_of (get (codes "heartbeat_record") d) heartbeats e,
      is_array (codes "child_partitions_record") (get (codes "child_partitions_record") d) children a,
      is_array (codes "data_change_record") (get (codes "data_change_record") d) changes b,
      is_array (codes "heartbeat_record") (get (codes "heartbeat_record") d) heartbeats e,
      one.0,
      one.1,
      one.2.1,
      change_lacks_nothing r one.2.0 one.2.2,
    ) (change_read r one.2.0 one.2.2)
read_of d (Heartbeat at) children changes heartbeats a b e one =
    rw (
      elements_of (get (codes "child_partitions_record") d) children a,
      elements_of (get (codes "data_change_record") d) changes b,
      elements_of (get (codes "heartbeat_record") d) heartbeats e,
      is_array (codes "child_partitions_record") (get (codes "child_partitions_record") d) children a,
      is_array (codes "data_change_record") (get (codes "data_change_record") d) changes b,
      is_array (codes "heartbeat_record") (get (codes "heartbeat_record") d) heartbeats e,
      one.0,
      one.1,
      one.2.1,
      heartbeat_lacks_nothing at one.2.0 one.2.2,
    ) (heartbeat_read at one.2.0 one.2.2)

pub read_if_tells : (d : Data) (r : Record) → Tells r d → tree_reading d ≡ Ok r
read_if_tells d r t = read_of d r t.children t.changes t.heartbeats t.child_partitions_record t.data_change_record t.heartbeat_record t.one
