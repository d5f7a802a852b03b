-- A READ with typed arguments, of a stream that is there.
use Rattle.std.proofs.Common.{◌≡◌, ℕ, Option, None, Some, slice_get, refl, ap, ◌∙◌}
use Rattle.cs_schema.specs.declared.types.Stream.{Stream}
use Rattle.cs_partitions.specs.Layout.{StreamParts}
use Rattle.cs_link.specs.declared.feed.Feed.{Feed}
use Rattle.cs_link.specs.declared.reading.ReadArgs.{ReadArgs}
use Rattle.cs_steps.specs.Captures.{captured_items}
use Rattle.cs_steps.specs.Refusals.{refusal_by}
use Rattle.cs_script.specs.Database.{Database}
use Rattle.cs_read.specs.Answers.{StreamRead, stream_steps}
use Rattle.cs_read.specs.Asked.{steps_asked}
use Rattle.cs_read.specs.Honest.{stream_feed}
use Rattle.cs_read.specs.Whole.{content_of}
use Rattle.cs_server.specs.Going.{content_with, content_at}
use Rattle.cs_server.specs.Typed.{place_named, read_with, read_at, read_typed, refusal_to, refusal_of, steps_of, feed_with, feed_at}

-- the stream at a place
module _ (db : Database) (place : ℕ) (s : Stream) (l : StreamParts) (at_s : slice_get db.streams place ≡ Some s) (at_l : slice_get db.layouts place ≡ Some l) where
  pub content_is : content_at db place ≡ content_of db s l
  content_is = λ k. content_with db (at_s k) (at_l k)

  module _ (args : ReadArgs) where
    pub at_is : read_at db (Some place) args ≡ Some (record { stream = s; parts = l.parts; args = args })
    at_is = λ k. read_with (at_s k) (at_l k) args

    pub refusal_at_is : (moment : ℕ) → refusal_to (read_at db (Some place) args) moment ≡ refusal_by l.parts s.created s.retention_us args moment
    refusal_at_is moment = ap (λ (o : Option StreamRead). refusal_to o moment) at_is

    module _ (named : place_named args.stream db.streams ≡ Some place) where
      pub read_is : read_typed db args ≡ Some (record { stream = s; parts = l.parts; args = args })
      read_is = ap (λ (o : Option ℕ). read_at db o args) named ∙ at_is

      pub refusal_is : (moment : ℕ) → refusal_of db args moment ≡ refusal_by l.parts s.created s.retention_us args moment
      refusal_is moment = ap (λ (o : Option StreamRead). refusal_to o moment) read_is

      pub steps_are : (moment : ℕ) → steps_of db args moment ≡ steps_asked l.parts (captured_items db.tables s db.modifications) args moment
      steps_are moment = ap (λ (o : Option StreamRead). stream_steps db o moment) read_is

some_feed : (a b : Feed) → Some a ≡ Some b → a ≡ b
some_feed a b e = cc

-- a stream whose feed is told
pub record IsTold (db : Database) (place : Option ℕ) (f : Feed) : Type 0 where
  pub at_place : ℕ
  pub place_is : place ≡ Some at_place
  pub stream : Stream
  pub layout : StreamParts
  pub stream_at : slice_get db.streams at_place ≡ Some stream
  pub layout_at : slice_get db.layouts at_place ≡ Some layout
  pub feed_is : stream_feed db stream layout.parts ≡ f

pub told : (db : Database) (place : Option ℕ) (f : Feed) → feed_at db place ≡ Some f → IsTold db place f
told db None f e = cc
told db (Some place) f e = by (slice_get db.streams place) (slice_get db.layouts place) refl refl e
  where
    by : (o : Option Stream) (q : Option StreamParts) → slice_get db.streams place ≡ o → slice_get db.layouts place ≡ q → feed_with db o q ≡ Some f → IsTold db (Some place) f
    by None q i j k = cc
    by (Some s) None i j k = cc
    by (Some s) (Some l) i j k = record { at_place = place; place_is = refl; stream = s; layout = l; stream_at = i; layout_at = j; feed_is = some_feed (stream_feed db s l.parts) f k }
