-- What a window wants of a scripted database, this project's own.
use Rattle.std.specs.Prelude.{◌≡◌, ◌≢◌, ◌<◌, ◌≤◌, ℕ, ◌-◌, List, Ok, Err, Option, Some, None, IfSome, Contains}
use Rattle.cs_types.specs.Change.{wanted_changes}
use Rattle.cs_types.specs.declared.change.Change.{Change}
use Rattle.cs_types.specs.declared.names.Window.{Window}
use Rattle.cs_schema.specs.declared.types.Stream.{Stream}
use Rattle.cs_capture.specs.Wanted.{captured_changes}
use Rattle.cs_link.specs.declared.refusal.ReadRefusal.{ReadRefusal}
use Rattle.cs_script.specs.Database.{Database}
use Rattle.cs_script.specs.Script.{Makes}
use Rattle.cs_script.specs.declared.fault.LineCause.{LineCause}
use Rattle.cs_script.specs.declared.fault.ScriptFault.TheVariants.{Line, TooLong}

-- the stream has this name in the database
pub record IsStreamIn (db : Database) (name : List ℕ) (s : Stream) : Type 0 where
  pub there : Contains db.streams s
  pub named : s.name ≡ name

-- no stream has this name
abbrev pub HasNoStream : Database → List ℕ → Type 0
HasNoStream db name = (s : Stream) → Contains db.streams s → s.name ≢ name

-- the changes that the stream captures of the history, from a start to an end, in the order of the commits
abbrev pub wanted_in : Database → Stream → ℕ → ℕ → List Change
wanted_in db s start end = wanted_changes start end (captured_changes db.tables s db.modifications)

-- why a window is refused at a moment: there is no such stream, or its start is before the stream's creation, or it ends after the moment
abbrev pub IsRefusedAs : Database → Window → ℕ → ReadRefusal → Type 0
IsRefusedAs db w moment ReadRefusal.UnknownFunction = HasNoStream db w.stream
IsRefusedAs db w moment ReadRefusal.StartBeforeCreation = (s : Stream) × IsStreamIn db w.stream s × (w.start < s.created)
IsRefusedAs db w moment (ReadRefusal.StartInFuture at) = (s : Stream) × IsStreamIn db w.stream s × (s.created ≤ w.start) × (at ≡ moment) × (at < w.end)
IsRefusedAs db w moment _ = ⊥

-- the window was not followed: there is no such stream, or it was created after the start
abbrev pub IsBarred : Database → Window → ReadRefusal → Type 0
IsBarred db w ReadRefusal.UnknownFunction = HasNoStream db w.stream
IsBarred db w ReadRefusal.StartBeforeCreation = (s : Stream) × IsStreamIn db w.stream s × (w.start < s.created)
IsBarred db w _ = ⊥

-- the start is below the earliest moment that the stream keeps at a moment
pub record IsPassed (db : Database) (w : Window) (moment earliest : ℕ) : Type 0 where
  pub stream : Stream
  pub there : IsStreamIn db w.stream stream
  pub created : stream.created ≤ w.start
  pub earliest_is : earliest ≡ moment - stream.retention_us
  pub before : w.start < earliest

-- the bytes of a script are refused: this line is the first bad one, for this cause, or, without a cause, they are too many
abbrev pub IsBadScript : ℕ → Option LineCause → List ℕ → Type 0
IsBadScript line (Some cause) bytes = Makes bytes (Err (Line line cause))
IsBadScript line None bytes = (line ≡ 0) × Makes bytes (Err TooLong)

-- the bytes, where they are told, are a script that makes a database of which this holds
abbrev pub OnScript : Option (List ℕ) → (Database → Type 0) → Type 0
OnScript source P = IfSome source (λ bytes. (db : Database) × Makes bytes (Ok db) × P db)
