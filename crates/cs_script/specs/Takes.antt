-- What a line of a script does to the database, or why it is refused: the causes in their order, and the first in the order of the line (this project's own form; the statements are Spanner's).
use Rattle.std.specs.Prelude.{◌≡◌, ℕ, ◌+◌, ◌==◌, List, [], ◌∷◌, ◌++◌, length, slice_get, slice_set, Bool, true, false, nat_lt, if◌then◌else◌, Option, Some, None, Result, Ok, Err, MatchResult}
use Rattle.std.specs.Str.Lossy.{utf8_lossy}
use Rattle.cs_types.specs.declared.moment.StampFault.{StampFault}
use Rattle.cs_types.specs.Stamp.{Spells, IsStampFault}
use Rattle.cs_types.specs.Token.{is_token}
use Rattle.cs_ddl.specs.declared.fault.SyntaxFault.{SyntaxFault}
use Rattle.cs_ddl.specs.declared.fault.SyntaxFault.TheVariants as syntax
use Rattle.cs_ddl.specs.declared.tree.Statement.{Statement}
use Rattle.cs_ddl.specs.declared.tree.Statement.TheVariants.{CreateTable, AddColumn, CreateStream, SetWatch, DropWatch, SetOptions, DropStream}
use Rattle.cs_ddl.specs.Grammars.{statements}
use Rattle.cs_ddl.specs.Text.{Answers}
use Rattle.cs_schema.specs.declared.fault.SchemaFault.{SchemaFault}
use Rattle.cs_schema.specs.Schema.{Schema}
use Rattle.cs_schema.specs.Applying as schemas
use Rattle.cs_txn.specs.declared.fault.TxnFault.{TxnFault}
use Rattle.cs_txn.specs.declared.txn.Txn.{Txn}
use Rattle.cs_txn.specs.History.{modifications_of}
use Rattle.cs_txn.specs.Sizes as txns
use Rattle.cs_partitions.specs.declared.fault.LayoutFault.{LayoutFault}
use Rattle.cs_partitions.specs.Layout.{StreamParts, new_layout}
use Rattle.cs_partitions.specs.Reshape.{reshaped}
use Rattle.cs_partitions.specs.Tokens.{token_of}
use Rattle.cs_partitions.specs.Fault as layouts
use Rattle.cs_script.specs.declared.action.Action.{Action}
use Rattle.cs_script.specs.declared.action.Action.TheVariants as actions
use Rattle.cs_script.specs.declared.action.Commit.{Commit}
use Rattle.cs_script.specs.declared.action.Reshape.{Reshape}
use Rattle.cs_script.specs.declared.fault.LineCause.TheVariants.{NotJson, Syntax, Schema as schema_cause, NoTable, TooManyAtStamp, Txn as txn_cause, Layout as layout_cause}
use Rattle.cs_script.specs.Readings.{Reading}
use Rattle.cs_script.specs.Borders.{stream_place}
use Rattle.cs_script.specs.Database.{Database, writes_at}
use Rattle.cs_script.specs.Line.{at_text, tree_of, object_reading}
use Rattle.cs_script.specs.Named.{IsTableName}
use Rattle.serde_json.specs.Data.{Data}

-- the tables and the streams of a database
abbrev pub schema_of : Database → Schema
schema_of db = record { tables = db.tables; streams = db.streams }

-- the layout of the stream that a statement makes, where it makes one: it has one part
abbrev pub layouts_made : ℕ → Statement → List StreamParts
layouts_made at (CreateTable name columns key) = []
layouts_made at (AddColumn table name ty) = []
layouts_made at (CreateStream name watch options) = new_layout (utf8_lossy name) at ∷ []
layouts_made at (SetWatch name watch) = []
layouts_made at (DropWatch name) = []
layouts_made at (SetOptions name options) = []
layouts_made at (DropStream name) = []

-- the database behind a statement
abbrev pub with_schema : Database → ℕ → Statement → Schema → Database
with_schema db at s schema = record {
  tables = schema.tables;
  streams = schema.streams;
  modifications = db.modifications;
  layouts = db.layouts ++ layouts_made at s;
  last = Some at;
}

-- a statement that the catalog takes or refuses
abbrev pub applied_unless : Database → ℕ → Statement → Option SchemaFault → Reading Database
applied_unless db at s None = Ok (with_schema db at s (schemas.applied (schema_of db) at s))
applied_unless db at s (Some fault) = Err (schema_cause fault)

-- a statement that was read, or the fault of its text
abbrev pub stated : Database → ℕ → Result Statement SyntaxFault → Reading Database
stated db at (Err fault) = Err (Syntax fault)
stated db at (Ok s) = applied_unless db at s (schemas.first_fault (schema_of db) s)

-- the transaction of a line
abbrev pub txn_of : ℕ → Commit → Txn
txn_of at c = record { stamp = at; tx = c.id; tag = c.tag; writes = c.writes }

-- a transaction that the history takes or refuses
abbrev pub committed_unless : Database → Txn → Option TxnFault → Reading Database
committed_unless db txn None = Ok (record {
  tables = db.tables;
  streams = db.streams;
  modifications = db.modifications ++ modifications_of db.tables db.modifications txn;
  layouts = db.layouts;
  last = Some txn.stamp;
})
committed_unless db txn (Some fault) = Err (txn_cause fault)

-- the most writes of a stamp
abbrev pub most_writes : ℕ
most_writes = 1024

-- a transaction whose stamp has room for its writes
unfoldable pub committed : Database → Txn → Reading Database
committed db txn = if nat_lt most_writes (writes_at txn.stamp db.modifications + length txn.writes) then Err TooManyAtStamp
    else committed_unless db txn (txns.first_fault db.tables db.modifications txn)

-- a reshape that the layout at a place takes or refuses
abbrev pub reshaped_unless : Database → ℕ → Reshape → ℕ → StreamParts → Option LayoutFault → Reading Database
reshaped_unless db at r place l None = Ok (record {
  tables = db.tables;
  streams = db.streams;
  modifications = db.modifications;
  layouts = slice_set db.layouts place (reshaped l at r.parts r.borders);
  last = Some at;
})
reshaped_unless db at r place l (Some fault) = Err (layout_cause fault)

-- a reshape of the layout at a place, where there is one
abbrev pub reshaped_at : Database → ℕ → Reshape → ℕ → Option StreamParts → Reading Database
reshaped_at db at r place None = Err (NoTable r.stream)
reshaped_at db at r place (Some l) = reshaped_unless db at r place l (layouts.first_fault l.parts at r.parts r.borders)

-- a reshape of the layout at the place of its stream
abbrev pub reshaped_in : Database → ℕ → Reshape → Option ℕ → Reading Database
reshaped_in db at r None = Err (NoTable r.stream)
reshaped_in db at r (Some place) = reshaped_at db at r place (slice_get db.layouts place)

-- what an action does at a moment; of a statement's text this was read
abbrev pub done : Database → Result Statement SyntaxFault → ℕ → Action → Reading Database
done db ddl at (actions.Ddl text) = stated db at ddl
done db ddl at (actions.Commit c) = committed db (txn_of at c)
done db ddl at (actions.Reshape r) = reshaped_in db at r (stream_place r.stream db.streams)

-- what a line does that was read
abbrev pub done_if : Database → Result Statement SyntaxFault → Reading (ℕ × Action) → Reading Database
done_if db ddl (Err cause) = Err cause
done_if db ddl (Ok p) = done db ddl p.0 p.1

-- what a text of `at` is read as
abbrev pub IsMomentOf : Reading (List ℕ) → Result ℕ StampFault → Type 0
IsMomentOf (Err cause) told = Unit {0}
IsMomentOf (Ok text) told = MatchResult told (Spells text) (λ fault. IsStampFault fault text)

-- any fault but want of memory
abbrev pub not_memory : Result Statement SyntaxFault → Type 0
not_memory (Ok s) = Unit {0}
not_memory (Err (syntax.At place)) = Unit {0}
not_memory (Err syntax.Memory) = ⊥

-- what the text of a statement is read as
abbrev pub IsStatementOf : List ℕ → Result Statement SyntaxFault → Type 0
IsStatementOf text ddl = Answers statements text ddl × not_memory ddl

abbrev pub IsStatementIn : Action → Result Statement SyntaxFault → Type 0
IsStatementIn (actions.Ddl text) ddl = IsStatementOf text ddl
IsStatementIn (actions.Commit c) ddl = Unit {0}
IsStatementIn (actions.Reshape r) ddl = Unit {0}

-- the like of a line that was read
abbrev pub TellsStatement : Reading (ℕ × Action) → Result Statement SyntaxFault → Type 0
TellsStatement (Err cause) ddl = Unit {0}
TellsStatement (Ok p) ddl = IsStatementIn p.1 ddl

-- the object that a line is leads from a database to another, or is refused for a cause
pub record IsTakenTree (db : Database) (tree : Data) (out : Reading Database) : Type 0 where
  -- its moment, by its text
  pub told : Result ℕ StampFault
  pub moment : IsMomentOf (at_text tree) told
  -- its statement, by the grammar
  pub ddl : Result Statement SyntaxFault
  pub statement : TellsStatement (object_reading db told tree) ddl
  -- and what is done
  pub result : out ≡ done_if db ddl (object_reading db told tree)

-- the like of a line; one that is no object is refused
abbrev pub IsTaken : Database → Option Data → Reading Database → Type 0
IsTaken db None out = out ≡ Err NotJson
IsTaken db (Some tree) out = IsTakenTree db tree out

-- an empty line and one that begins with `#` are passed over
abbrev pub is_passed : List ℕ → Bool
is_passed [] = true
is_passed (b ∷ bs) = b == 35

abbrev pub TakesIf : Bool → Database → List ℕ → Reading Database → Type 0
TakesIf true db line out = out ≡ Ok db
TakesIf false db line out = IsTaken db (tree_of line) out

-- what a line, which is given without its end, does to a database
abbrev pub Takes : Database → List ℕ → Reading Database → Type 0
Takes db line out = TakesIf (is_passed line) db line out

-- what an action does at a moment, its statement read by the grammar
pub record IsDone (db : Database) (at : ℕ) (action : Action) (out : Reading Database) : Type 0 where
  pub ddl : Result Statement SyntaxFault
  pub statement : IsStatementIn action ddl
  pub result : out ≡ done db ddl at action

-- the name that a statement gives a table is one, and that of a stream makes tokens
abbrev pub HasNames : Statement → Type 0
HasNames (CreateTable name columns key) = IsTableName (utf8_lossy name)
HasNames (AddColumn table name ty) = Unit {0}
HasNames (CreateStream name watch options) = is_token (token_of (utf8_lossy name) 0) ≡ true
HasNames (SetWatch name watch) = Unit {0}
HasNames (DropWatch name) = Unit {0}
HasNames (SetOptions name options) = Unit {0}
HasNames (DropStream name) = Unit {0}
