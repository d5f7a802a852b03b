-- What answers a READ of the scripted database: the first refusal that holds, or the steps of the part that it asks for (Spanner's page on querying a change stream, 'Change stream query syntax'; what is refused and in which order is this project's own).
use Rattle.std.specs.Prelude.{ℕ, List, [], Option, None, Some, slice_get}
use Rattle.std.specs.Option.{option_or}
use Rattle.cs_place.specs.declared.part.Part.{Part}
use Rattle.cs_ddl.specs.declared.tree.Argument.{Argument}
use Rattle.cs_ddl.specs.declared.tree.ReadQuery.{ReadQuery}
use Rattle.cs_schema.specs.declared.types.Stream.{Stream}
use Rattle.cs_partitions.specs.Layout.{StreamParts}
use Rattle.cs_link.specs.declared.reading.ReadArgs.{ReadArgs}
use Rattle.cs_link.specs.declared.reading.Step.{Step}
use Rattle.cs_link.specs.declared.refusal.ReadRefusal.{ReadRefusal}
use Rattle.cs_steps.specs.Captures.{captured_items}
use Rattle.cs_steps.specs.Query.{stream_read, query_refusal, args_of}
use Rattle.cs_steps.specs.Refusals.{refusal_by}
use Rattle.cs_script.specs.Database.{Database}
use Rattle.cs_read.specs.Asked.{steps_asked}

-- ---- the READ of a stream

-- a stream, its parts, and what is asked of them
pub record StreamRead : Type 0 where
  pub stream : Stream
  pub parts : List Part
  pub args : ReadArgs

-- what stands at a place, where there is one
abbrev pub at : {A : Type 0} → Option ℕ → List A → Option A
at None xs = None
at (Some place) xs = slice_get xs place

abbrev pub read_of : Option Stream → Option StreamParts → List Argument → Option StreamRead
read_of None layout arguments = None
read_of (Some s) None arguments = None
read_of (Some s) (Some l) arguments = Some (record { stream = s; parts = l.parts; args = args_of s.name arguments })

-- the READ that a query asks for, of the stream that its function names
abbrev pub read_asked : Database → ReadQuery → Option StreamRead
read_asked db query = read_of (at (stream_read query.function db.streams) db.streams) (at (stream_read query.function db.streams) db.layouts) query.arguments

-- ---- refusals

abbrev pub stream_refusal : Option StreamRead → ℕ → Option ReadRefusal
stream_refusal None moment = None
stream_refusal (Some r) moment = refusal_by r.parts r.stream.created r.stream.retention_us r.args moment

-- why a query is refused at a moment: by its words, then by its times and its token
abbrev pub read_refusal : Database → ReadQuery → ℕ → Option ReadRefusal
read_refusal db query moment = option_or (query_refusal db.streams query) (stream_refusal (read_asked db query) moment)

-- ---- steps

abbrev pub stream_steps : Database → Option StreamRead → ℕ → List Step
stream_steps db None moment = []
stream_steps db (Some r) moment = steps_asked r.parts (captured_items db.tables r.stream db.modifications) r.args moment

-- the steps that answer a query at a moment
abbrev pub answer_steps : Database → ReadQuery → ℕ → List Step
answer_steps db query moment = stream_steps db (read_asked db query) moment
