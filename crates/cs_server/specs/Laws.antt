-- What is promised of the links over a state: each tells the truth of the feeds of its streams, which are told by their names, and answers typed arguments as a query that asks for these is answered.
use Rattle.std.specs.Prelude.{◌≡◌, ◌↔◌, ℕ, List, None, Some, slice_get}
use Rattle.cs_ddl.specs.declared.tree.ReadQuery.{ReadQuery}
use Rattle.cs_schema.specs.declared.types.Stream.{Stream}
use Rattle.cs_partitions.specs.Layout.{StreamParts}
use Rattle.cs_link.specs.declared.feed.Feed.{Feed}
use Rattle.cs_link.specs.Honest.{IsHonestFor}
use Rattle.cs_steps.specs.Query.{query_refusal}
use Rattle.cs_script.specs.Database.{Database}
use Rattle.cs_read.specs.Answers.{StreamRead, read_asked, read_refusal, answer_steps}
use Rattle.cs_read.specs.Honest.{IsState, stream_feed}
use Rattle.cs_server.specs.State.{LinkState, present_of}
use Rattle.cs_server.specs.Typed.{feed_told, refusal_of, steps_of}

-- it is honest for each stream that its state has
abbrev pub IsHonestLink : LinkState → Type 0
IsHonestLink m = (stream : List ℕ) (f : Feed) → feed_told m.database stream ≡ Some f → IsHonestFor stream (feed_told m.database stream) (Some (present_of m))

-- a query that reads a stream with these typed arguments is refused where they are, by the same refusal, and has the same steps
abbrev pub AnswersAsQueries : Type 0
AnswersAsQueries = (db : Database) (query : ReadQuery) (moment : ℕ) (r : StreamRead) → query_refusal db.streams query ≡ None → read_asked db query ≡ Some r
    → (refusal_of db r.args moment ≡ read_refusal db query moment) × (steps_of db r.args moment ≡ answer_steps db query moment)

-- the feed of the stream of a name
pub record IsFeedOf (db : Database) (name : List ℕ) (f : Feed) : Type 0 where
  pub place : ℕ
  pub stream : Stream
  pub layout : StreamParts
  pub stream_at : slice_get db.streams place ≡ Some stream
  pub layout_at : slice_get db.layouts place ≡ Some layout
  pub named : stream.name ≡ name
  pub feed_is : stream_feed db stream layout.parts ≡ f

-- a feed is told under a name exactly where it is that of the stream of this name
abbrev pub FeedsAreTold : Type 0
FeedsAreTold = (db : Database) (name : List ℕ) (f : Feed) → IsState db → (feed_told db name ≡ Some f) ↔ IsFeedOf db name f
