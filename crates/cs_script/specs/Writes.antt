-- The commits of a script: a transaction's id, writes and tag (this project's own form of Spanner's mutations).
use Rattle.std.specs.Prelude.{ℕ, List, [], ◌∷◌, codes, is_some, if◌then◌else◌, Option, Some, None, Ok, Err}
use Rattle.serde_json.specs.Data.{Data, Items, no_items, item}
use Rattle.serde_json.specs.Find.{get, as_str, as_array, as_object}
use Rattle.cs_types.specs.declared.cells.Cell.{Cell}
use Rattle.cs_types.specs.declared.change.Kind.{Kind}
use Rattle.cs_types.specs.declared.change.Kind.TheVariants.{Insert, Update, Delete}
use Rattle.cs_schema.specs.declared.types.Table.{Table}
use Rattle.cs_schema.specs.Tables.{table_named}
use Rattle.cs_txn.specs.declared.txn.Write.{Write}
use Rattle.cs_script.specs.declared.action.Commit.{Commit}
use Rattle.cs_script.specs.declared.fault.LineCause.TheVariants.{Member, NoTable}
use Rattle.cs_script.specs.Readings.{Reading, both, and_more}
use Rattle.cs_script.specs.Members.{required, id_value, tag_of, no_others, has}
use Rattle.cs_script.specs.Cells.{key_member, set_member}

-- the table of a name, where it was read and there is one
abbrev pub table_of : List Table → Reading (List ℕ) → Option Table
table_of tables (Err e) = None
table_of tables (Ok name) = table_named name tables

-- the name, where its table is there
abbrev pub if_there : List ℕ → Option Table → Reading (List ℕ)
if_there name None = Err (NoTable name)
if_there name (Some t) = Ok name

-- a name that was read, of a table that is there
abbrev pub named_table : List Table → Reading (List ℕ) → Reading (List ℕ)
named_table tables (Err e) = Err e
named_table tables (Ok name) = if_there name (table_named name tables)

-- the kind of a write: the first of the three members that stands; an insert where none does
unfoldable pub kind_of : Data → Kind
kind_of d = if has (codes "insert") d then Insert else (if has (codes "update") d then Update else (if has (codes "delete") d then Delete else Insert))

-- the member that names the table
abbrev pub kind_word : Kind → List ℕ
kind_word Insert = codes "insert"
kind_word Update = codes "update"
kind_word Delete = codes "delete"

-- the members of a write
abbrev pub write_members : Kind → List (List ℕ)
write_members Insert = codes "insert" ∷ codes "key" ∷ codes "set" ∷ []
write_members Update = codes "update" ∷ codes "key" ∷ codes "set" ∷ []
write_members Delete = codes "delete" ∷ codes "key" ∷ []

-- the cells that a write sets; a DELETE sets none
abbrev pub set_cells : Kind → Option Table → Data → Reading (List Cell)
set_cells Insert t d = set_member t (get (codes "set") d)
set_cells Update t d = set_member t (get (codes "set") d)
set_cells Delete t d = Ok []

-- the write of its parts
abbrev pub write_of : Kind → Reading (List ℕ × (List Cell × (List Cell × Unit {0}))) → Reading Write
write_of kind (Err e) = Err e
write_of kind (Ok p) = Ok (record { kind = kind; row = record { table = p.0; key = p.1.0 }; set = p.1.1.0 })

-- a write of a kind, whose table's name was read or not
abbrev pub write_with : List Table → Kind → Reading (List ℕ) → Data → Reading Write
write_with tables kind name d = write_of kind (both (named_table tables name)
    (both (key_member (table_of tables name) (get (codes "key") d))
    (both (set_cells kind (table_of tables name) d) (no_others (write_members kind) d))))

-- a write: an object with the table, the key and the cells that are set
unfoldable pub write_reading : List Table → Data → Reading Write
write_reading tables d = if is_some (as_object d)
    then write_with tables (kind_of d) (required as_str (kind_word (kind_of d)) d) d
    else Err (Member (codes "writes"))

-- each element as a write
abbrev pub each_write : List Table → Items → Reading (List Write)
each_write tables no_items = Ok []
each_write tables (item d ds) = and_more (write_reading tables d) (each_write tables ds)

-- one write or more
abbrev pub some_writes : List Table → Option Items → Reading (List Write)
some_writes tables None = Err (Member (codes "writes"))
some_writes tables (Some no_items) = Err (Member (codes "writes"))
some_writes tables (Some (item d ds)) = each_write tables (item d ds)

-- the writes of the member `writes`
abbrev pub writes_member : List Table → Option Data → Reading (List Write)
writes_member tables None = Err (Member (codes "writes"))
writes_member tables (Some d) = some_writes tables (as_array d)

abbrev pub commit_members : List (List ℕ)
commit_members = codes "id" ∷ codes "writes" ∷ codes "tag" ∷ []

-- the transaction of its parts
abbrev pub commit_of : Reading (List ℕ × (List Write × (List ℕ × Unit {0}))) → Reading Commit
commit_of (Err e) = Err e
commit_of (Ok p) = Ok (record { id = p.0; tag = p.1.1.0; writes = p.1.0 })

-- a transaction: an object with its id, its writes and, where it has one, its tag
unfoldable pub commit_reading : List Table → Data → Reading Commit
commit_reading tables d = if is_some (as_object d)
    then commit_of (both (required id_value (codes "id") d) (both (writes_member tables (get (codes "writes") d))
    (both (tag_of (get (codes "tag") d)) (no_others commit_members d))))
    else Err (Member (codes "commit"))
