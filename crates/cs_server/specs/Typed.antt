-- How the scripted database answers a READ with typed arguments: as it answers each query that asks for these (Spanner's page on querying a change stream, 'Change stream query syntax').
use Rattle.std.specs.Prelude.{ℕ, List, ◌++◌, Option, None, Some, codes}
use Rattle.cs_schema.specs.declared.types.Stream.{Stream}
use Rattle.cs_partitions.specs.Layout.{StreamParts}
use Rattle.cs_link.specs.declared.feed.Feed.{Feed}
use Rattle.cs_link.specs.declared.reading.ReadArgs.{ReadArgs}
use Rattle.cs_link.specs.declared.reading.Step.{Step}
use Rattle.cs_link.specs.declared.refusal.ReadRefusal.{ReadRefusal}
use Rattle.cs_steps.specs.Query.{stream_read}
use Rattle.cs_script.specs.Database.{Database}
use Rattle.cs_read.specs.Answers.{StreamRead, at, stream_refusal, stream_steps}
use Rattle.cs_read.specs.Honest.{stream_feed, given_as}

-- the place of the stream of a name: the one that a query of this name reads
abbrev pub place_named : List ℕ → List Stream → Option ℕ
place_named name streams = stream_read (codes "READ_" ++ name) streams

-- ---- the READ that is asked for

abbrev pub read_with : Option Stream → Option StreamParts → ReadArgs → Option StreamRead
read_with None layout args = None
read_with (Some s) None args = None
read_with (Some s) (Some l) args = Some (record { stream = s; parts = l.parts; args = args })

abbrev pub read_at : Database → Option ℕ → ReadArgs → Option StreamRead
read_at db place args = read_with (at place db.streams) (at place db.layouts) args

-- what typed arguments ask for, of the stream that they name
abbrev pub read_typed : Database → ReadArgs → Option StreamRead
read_typed db args = read_at db (place_named args.stream db.streams) args

-- ---- how it is answered

abbrev pub refusal_to : Option StreamRead → ℕ → Option ReadRefusal
refusal_to None moment = Some ReadRefusal.UnknownFunction
refusal_to (Some r) moment = stream_refusal (Some r) moment

-- why it is refused at a moment: there is no such stream, or its times or its token are wrong
abbrev pub refusal_of : Database → ReadArgs → ℕ → Option ReadRefusal
refusal_of db args moment = refusal_to (read_typed db args) moment

-- the steps that answer it at a moment, were it not refused
abbrev pub steps_of : Database → ReadArgs → ℕ → List Step
steps_of db args moment = stream_steps db (read_typed db args) moment

-- the steps that answer it; none where it is refused
abbrev pub steps_given : Database → ReadArgs → ℕ → List Step
steps_given db args moment = given_as (refusal_of db args moment) (steps_of db args moment)

-- ---- feeds

abbrev pub feed_with : Database → Option Stream → Option StreamParts → Option Feed
feed_with db None layout = None
feed_with db (Some s) None = None
feed_with db (Some s) (Some l) = Some (stream_feed db s l.parts)

abbrev pub feed_at : Database → Option ℕ → Option Feed
feed_at db place = feed_with db (at place db.streams) (at place db.layouts)

-- what the stream of a name has to give; nothing where there is none
abbrev pub feed_told : Database → List ℕ → Option Feed
feed_told db name = feed_at db (place_named name db.streams)
