use Rattle.std.proofs.Common.{◌≡◌, length, ◌+◌}
use Rattle.cs_script.specs.Borders.{stream_place, counted_from}
use Rattle.cs_script.proofs.reshape.stream_place.Given as goal

abbrev pub invariant-loop-rest : goal.invariant-loop-rest
invariant-loop-rest l = record {
  found : counted_from l.place (stream_place l.name l.rest) ≡ stream_place l.name l.streams;
  count : l.place + length l.rest ≡ length l.streams;
}

abbrev pub decreases-loop-rest : goal.decreases-loop-rest
decreases-loop-rest l = length l.rest
