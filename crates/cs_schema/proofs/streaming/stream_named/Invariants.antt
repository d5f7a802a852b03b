use Rattle.std.proofs.Common.{◌≡◌, drop}
use Rattle.cs_schema.specs.Streaming.{is_stream}
use Rattle.cs_schema.proofs.streaming.stream_named.Given as goal

abbrev pub invariant-loop-stream : goal.invariant-loop-stream
invariant-loop-stream l = is_stream l.name (drop l.stream-index l.streams) ≡ is_stream l.name l.streams
