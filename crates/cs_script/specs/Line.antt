-- What a line of a script says, and why it is refused before anything is done (this project's own form).
use Rattle.std.specs.Prelude.{ℕ, List, [], ◌∷◌, codes, is_some, nat_lt, nat_le, ◌||◌, Bool, false, if◌then◌else◌, Option, Some, None, Result, Ok, Err}
use Rattle.std.specs.Str.{is_utf8}
use Rattle.serde_json.specs.Data.{Data}
use Rattle.serde_json.specs.Find.{get, as_str, as_object}
use Rattle.serde_json.specs.Read.{read}
use Rattle.cs_types.specs.declared.moment.StampFault.{StampFault}
use Rattle.cs_txn.specs.declared.txn.Modification.{Modification}
use Rattle.cs_txn.specs.History.{last_stamp}
use Rattle.cs_script.specs.declared.action.Action.{Action}
use Rattle.cs_script.specs.declared.action.Action.TheVariants as actions
use Rattle.cs_script.specs.declared.action.Commit.{Commit}
use Rattle.cs_script.specs.declared.action.Reshape.{Reshape}
use Rattle.cs_script.specs.declared.action.Word.{Word}
use Rattle.cs_script.specs.declared.action.Word.TheVariants as words
use Rattle.cs_script.specs.declared.fault.LineCause.TheVariants.{Member, Stamp, Order, NotBuilt}
use Rattle.cs_script.specs.Readings.{Reading, both}
use Rattle.cs_script.specs.Members.{required, no_others, has}
use Rattle.cs_script.specs.Writes.{commit_reading}
use Rattle.cs_script.specs.Borders.{reshape_reading}
use Rattle.cs_script.specs.Database.{Database}

-- which of the three stands; the first of several, and of none
unfoldable pub word_of : Data → Word
word_of d = if has (codes "ddl") d then words.Ddl else (if has (codes "commit") d then words.Commit else (if has (codes "reshape") d then words.Reshape else words.Ddl))

abbrev pub word_text : Word → List ℕ
word_text words.Ddl = codes "ddl"
word_text words.Commit = codes "commit"
word_text words.Reshape = codes "reshape"

-- the members of a line
abbrev pub line_members : Word → List (List ℕ)
line_members word = codes "at" ∷ word_text word ∷ []

-- a moment below that of the line before
abbrev pub is_back : Option ℕ → ℕ → Bool
is_back None at = false
is_back (Some last) at = nat_lt at last

-- a statement or a reshape that is not above all commits before it
abbrev pub is_among_commits : Word → List Modification → ℕ → Bool
is_among_commits words.Commit ms at = false
is_among_commits words.Ddl ms at = nat_le at (last_stamp ms)
is_among_commits words.Reshape ms at = nat_le at (last_stamp ms)

-- the moment of a line of a kind, where it may follow
abbrev pub in_order : Database → Word → ℕ → Reading ℕ
in_order db word at = if is_back db.last at || is_among_commits word db.modifications at then Err Order else Ok at

-- the moment that was read, or its fault
abbrev pub moment_of : Database → Word → Result ℕ StampFault → Reading ℕ
moment_of db word (Ok at) = in_order db word at
moment_of db word (Err fault) = Err (Stamp fault)

-- the moment of a line, where it has the member `at` with a text, of which this was read
abbrev pub moment_reading : Database → Word → Result ℕ StampFault → Reading (List ℕ) → Reading ℕ
moment_reading db word told (Err e) = Err e
moment_reading db word told (Ok text) = moment_of db word told

-- the text of the member `at`
abbrev pub at_text : Data → Reading (List ℕ)
at_text d = required as_str (codes "at") d

abbrev pub ddl_of : Reading (List ℕ) → Reading Action
ddl_of (Err e) = Err e
ddl_of (Ok text) = Ok (actions.Ddl text)

abbrev pub commit_action : Reading Commit → Reading Action
commit_action (Err e) = Err e
commit_action (Ok commit) = Ok (actions.Commit commit)

abbrev pub reshape_action : Reading Reshape → Reading Action
reshape_action (Err e) = Err e
reshape_action (Ok reshape) = Ok (actions.Reshape reshape)

-- the member of a commit, where it stands
abbrev pub commit_member : Database → Option Data → Reading Commit
commit_member db None = Err (Member (codes "commit"))
commit_member db (Some d) = commit_reading db.tables d

abbrev pub reshape_member : Database → Option Data → Reading Reshape
reshape_member db None = Err (Member (codes "reshape"))
reshape_member db (Some d) = reshape_reading db.tables db.streams d

-- what a line of a kind says beside its moment
abbrev pub action_reading : Database → Word → Data → Reading Action
action_reading db words.Ddl d = ddl_of (required as_str (codes "ddl") d)
action_reading db words.Commit d = commit_action (commit_member db (get (codes "commit") d))
action_reading db words.Reshape d = reshape_action (reshape_member db (get (codes "reshape") d))

-- whether `system` or `excluded` stands in an object
abbrev pub is_marked : Option Data → Bool
is_marked None = false
is_marked (Some d) = has (codes "system") d || has (codes "excluded") d

abbrev pub built : Data → Reading (Unit {0})
built d = if is_marked (get (codes "commit") d) then Err NotBuilt else Ok tt

-- a moment and what is done then
abbrev pub moment_and_action : Reading (Unit {0} × (ℕ × (Action × Unit {0}))) → Reading (ℕ × Action)
moment_and_action (Err e) = Err e
moment_and_action (Ok p) = Ok (p.1.0, p.1.1.0)

-- an object of a kind, of whose `at` this was read
unfoldable pub object_reading : Database → Result ℕ StampFault → Data → Reading (ℕ × Action)
object_reading db told d = moment_and_action (both (built d) (both (moment_reading db (word_of d) told (at_text d))
    (both (action_reading db (word_of d) d) (no_others (line_members (word_of d)) d))))

-- the object that a line is
abbrev pub object_of : Option Data → Option Data
object_of None = None
object_of (Some d) = if is_some (as_object d) then Some d else None

unfoldable pub tree_of : List ℕ → Option Data
tree_of line = if is_utf8 line then object_of (read line) else None
