-- Which required member of a record line is absent (Spanner's page 'Change streams partitions, records, and queries' has the members; the order is this project's own).
use Rattle.std.specs.Prelude.{ℕ, ◌+◌, List, [], ◌∷◌, codes, is_some, if◌then◌else◌, Option, Some, None}
use Rattle.serde_json.specs.Data.{Data, array, Items, no_items, item}
use Rattle.serde_json.specs.Find.{get, as_null, as_array, as_object}
use Rattle.serde_json.specs.Events.{items_len}
use Rattle.std.specs.Option.{option_or}

-- the name, where the member is absent
abbrev pub absent : List ℕ → Data → Option (List ℕ)
absent name d = if is_some (get name d) then None else Some name

-- the first of the names whose member is absent
abbrev pub first_absent : List (List ℕ) → Data → Option (List ℕ)
first_absent [] d = None
first_absent (name ∷ names) d = option_or (absent name d) (first_absent names d)

-- the first of the members that an object must have and has not
abbrev pub missing_in : List (List ℕ) → Data → Option (List ℕ)
missing_in names d = if is_some (as_object d) then first_absent names d else None

-- the first that is found in one of the elements
abbrev pub first_in : (Data → Option (List ℕ)) → Items → Option (List ℕ)
first_in f no_items = None
first_in f (item d ds) = option_or (f d) (first_in f ds)

-- the elements of an array; of nothing, of null and of anything else none
abbrev pub elements : Option Data → Items
elements (Some (array ds)) = ds
elements _ = no_items

-- what a column must have
abbrev pub column_members : List (List ℕ)
column_members = codes "name" ∷ codes "type" ∷ codes "is_primary_key" ∷ codes "ordinal_position" ∷ []

-- what a data change record must have
abbrev pub change_members : List (List ℕ)
change_members = codes "commit_timestamp" ∷ codes "record_sequence" ∷ codes "server_transaction_id"
    ∷ codes "is_last_record_in_transaction_in_partition" ∷ codes "table_name" ∷ codes "column_types" ∷ codes "mods"
    ∷ codes "mod_type" ∷ codes "value_capture_type" ∷ codes "number_of_records_in_transaction"
    ∷ codes "number_of_partitions_in_transaction" ∷ []

-- what a child partitions record must have
abbrev pub children_members : List (List ℕ)
children_members = codes "start_timestamp" ∷ codes "record_sequence" ∷ codes "child_partitions" ∷ []

-- in a data change record: of its own members, then of its columns', then of its mods'
abbrev pub missing_in_change : Data → Option (List ℕ)
missing_in_change d = option_or (missing_in change_members d)
    (option_or (first_in (missing_in column_members) (elements (get (codes "column_types") d)))
    (first_in (missing_in (codes "keys" ∷ [])) (elements (get (codes "mods") d))))

-- in a child partitions record: of its own members, then of its children's
abbrev pub missing_in_children : Data → Option (List ℕ)
missing_in_children d = option_or (missing_in children_members d)
    (first_in (missing_in (codes "token" ∷ [])) (elements (get (codes "child_partitions") d)))

-- in a heartbeat record
abbrev pub missing_in_heartbeat : Data → Option (List ℕ)
missing_in_heartbeat d = missing_in (codes "timestamp" ∷ []) d

-- in all elements of the three arrays of a line
unfoldable pub missing : Data → Option (List ℕ)
missing d = option_or (first_in missing_in_children (elements (get (codes "child_partitions_record") d)))
    (option_or (first_in missing_in_change (elements (get (codes "data_change_record") d)))
    (first_in missing_in_heartbeat (elements (get (codes "heartbeat_record") d))))

-- how many elements the three arrays have together
unfoldable pub count : Data → ℕ
count d = items_len (elements (get (codes "child_partitions_record") d))
    + items_len (elements (get (codes "data_change_record") d))
    + items_len (elements (get (codes "heartbeat_record") d))

-- the name, where the member is there and is no array and not null
abbrev pub no_array : List ℕ → Option Data → Option (List ℕ)
no_array name None = None
no_array name (Some d) = if is_some (as_null d) then None else (if is_some (as_array d) then None else Some name)

-- the first of the three that is no array
unfoldable pub bad_array : Data → Option (List ℕ)
bad_array d = option_or (no_array (codes "child_partitions_record") (get (codes "child_partitions_record") d))
    (option_or (no_array (codes "data_change_record") (get (codes "data_change_record") d))
    (no_array (codes "heartbeat_record") (get (codes "heartbeat_record") d)))
