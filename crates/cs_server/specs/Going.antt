-- What a link over a state keeps from call to call: the index of one stream, and how far the steps of a READ were given.
use Rattle.std.specs.Prelude.{◌≡◌, ◌≢◌, ◌-◌, ◌∷◌, ◌++◌, [], ℕ, Bool, true, List, length, Option, Some, None, IfSome, slice_get}
use Rattle.cs_types.specs.Stamp.{IsStamp}
use Rattle.cs_schema.specs.declared.types.Stream.{Stream}
use Rattle.cs_partitions.specs.Layout.{StreamParts}
use Rattle.cs_link.specs.declared.reading.ReadArgs.{ReadArgs}
use Rattle.cs_link.specs.declared.reading.Step.{Step}
use Rattle.cs_index.specs.Index.{IsStreamIndex}
use Rattle.cs_script.specs.Database.{Database}
use Rattle.cs_read.specs.declared.reading.Reading.{Reading}
use Rattle.cs_read.specs.Answers.{stream_steps}
use Rattle.cs_read.specs.Content.{Content, IsReading, steps_ahead}
use Rattle.cs_read.specs.Honest.{IsState}
use Rattle.cs_read.specs.Whole.{content_of}
use Rattle.cs_server.specs.declared.kept.Kept.{Kept}
use Rattle.cs_server.specs.declared.kept.Opening.{Opening}
use Rattle.cs_server.specs.State.{LinkState, last_of, answer_to}
use Rattle.cs_server.specs.Typed.{read_at, refusal_to}

-- ---- the index of a stream

abbrev pub no_content : Content
no_content = record { parts = []; items = []; created = 0; retention_us = 0 }

abbrev pub content_with : Database → Option Stream → Option StreamParts → Content
content_with db None layout = no_content
content_with db (Some s) None = no_content
content_with db (Some s) (Some l) = content_of db s l

-- what READs of the stream at a place speak of
abbrev pub content_at : Database → ℕ → Content
content_at db place = content_with db (slice_get db.streams place) (slice_get db.layouts place)

-- an index that is kept is that of the stream at its place
pub record IsKeptIndex (db : Database) (k : Kept) : Type 0 where
  pub stream : Stream
  pub layout : StreamParts
  pub stream_at : slice_get db.streams k.place ≡ Some stream
  pub layout_at : slice_get db.layouts k.place ≡ Some layout
  pub index : IsStreamIndex db.tables stream layout.parts db.modifications k.index

-- ---- a READ that goes on

-- the steps that a READ is to give still
abbrev pub left_of : Database → Option Kept → Option Reading → List Step
left_of db None going = []
left_of db (Some k) None = []
left_of db (Some k) (Some r) = steps_ahead (content_at db k.place) r

-- a READ over the kept index has given the first of these steps, and is to give the others
pub record IsGoing (db : Database) (all : List Step) (kept : Option Kept) (going : Option Reading) : Type 0 where
  pub index : Kept
  pub reading : Reading
  pub kept_is : kept ≡ Some index
  pub going_is : going ≡ Some reading
  pub holds : IsReading (content_at db index.place) reading
  pub front : List Step
  pub all_is : front ++ left_of db kept going ≡ all

-- it gave this step, the first of those that it was to give
pub record HasGiven (db : Database) (all : List Step) (kept : Option Kept) (before after : Option Reading) (step : Step) : Type 0 where
  pub going : IsGoing db all kept after
  pub step_is : left_of db kept before ≡ step ∷ left_of db kept after

-- ---- a READ that begins

-- a READ of the stream at a place, over the index that is kept, is not refused, and is to give all of its steps
pub record IsBegun (db : Database) (place : ℕ) (args : ReadArgs) (moment : ℕ) (k : Kept) (r : Reading) : Type 0 where
  pub taken : refusal_to (read_at db (Some place) args) moment ≡ None
  pub holds : IsReading (content_at db k.place) r
  pub all_is : steps_ahead (content_at db k.place) r ≡ stream_steps db (read_at db (Some place) args) moment

-- what an `open` makes: it refuses the READ, begins it over the index that is kept, or over another one
abbrev pub IsOpening : Database → Option ℕ → ReadArgs → ℕ → Option Kept → Opening → Type 0
IsOpening db place args moment kept (Opening.Refused refusal) = refusal_to (read_at db place args) moment ≡ Some refusal
IsOpening db place args moment kept (Opening.Again r) = (k : Kept) × (at : ℕ) × (kept ≡ Some k) × (place ≡ Some at) × IsBegun db at args moment k r
IsOpening db place args moment kept (Opening.Anew k r) = (at : ℕ) × (place ≡ Some at) × IsKeptIndex db k × IsBegun db at args moment k r

-- ---- the link

-- what contracts see of it
abbrev pub link_of : Database → ℕ → ℕ → List ReadArgs → Option Kept → Option Reading → Bool → LinkState
link_of db moment caught_up asked kept going reading = record {
  database = db;
  moment = moment;
  caught_up = caught_up;
  asked = asked;
  given = length (answer_to db moment (last_of asked)) - length (left_of db kept going);
  reading = reading;
}

-- a READ that goes on has a step to give
pub record HasMore (db : Database) (all : List Step) (kept : Option Kept) (going : Option Reading) : Type 0 where
  pub is : IsGoing db all kept going
  pub more : left_of db kept going ≢ []

-- what is true of what it keeps
pub record IsLink (db : Database) (moment : ℕ) (asked : List ReadArgs) (kept : Option Kept) (going : Option Reading) (reading : Bool) : Type 0 where
  pub state : IsState db
  pub stamp : IsStamp moment
  pub index : IfSome kept (IsKeptIndex db)
  pub goes : reading ≡ true → HasMore db (answer_to db moment (last_of asked)) kept going
