-- An answer that was laid out, over the state that it was made of.
use Rattle.std.specs.Prelude.{List}
use Rattle.cs_schema.specs.declared.types.Stream.{Stream}
use Rattle.cs_partitions.specs.Layout.{StreamParts}
use Rattle.cs_link.specs.declared.reading.Step.{Step}
use Rattle.cs_steps.specs.Captures.{captured_items}
use Rattle.cs_steps.specs.Cursor.{IsAt}
use Rattle.cs_index.specs.Index.{IsStreamIndex}
use Rattle.cs_script.specs.Database.{Database}
use Rattle.cs_read.specs.declared.answer.Answer.{Answer}
use Rattle.cs_read.specs.Content.{Content, IsReading, source_read}
use Rattle.cs_read.specs.Laid.{AreSteps}

-- what READs of a stream of the state speak of
abbrev pub content_of : Database → Stream → StreamParts → Content
content_of db stream layout = record { parts = layout.parts; items = captured_items db.tables stream db.modifications; created = stream.created; retention_us = stream.retention_us }

-- the answer has these steps
pub record IsAnswer (db : Database) (all : List Step) (a : Answer) : Type 0 where
  pub read : Stream
  pub layout : StreamParts
  pub stream_at : IsAt db.streams a.stream read
  pub layout_at : IsAt db.layouts a.stream layout
  pub index : IsStreamIndex db.tables read layout.parts db.modifications a.index
  pub reading : IsReading (content_of db read layout) a.reading
  pub steps : AreSteps (source_read (content_of db read layout) a.reading) a.laid all
