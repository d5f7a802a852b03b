use Rattle.std.proofs.Common.{◌≡◌, ◌≤◌, ◌-◌, drop, length}
use Rattle.cs_steps.specs.Query.{stream_from}
use Rattle.cs_steps.proofs.query.stream_read.Given as goal

abbrev pub invariant-loop-place : goal.invariant-loop-place
invariant-loop-place l = (l.place ≤ length l.streams) × (stream_from l.place l.function (drop l.place l.streams) ≡ stream_from 0 l.function l.streams)

abbrev pub decreases-loop-place : goal.decreases-loop-place
decreases-loop-place l = length l.streams - l.place
