use Rattle.std.proofs.Common.{◌≡◌, ◌≤◌, ◌-◌, ◌++◌, drop, length}
use Rattle.std.specs.Prelude.{codes}
use Rattle.cs_steps.specs.Query.{stream_from}
use Rattle.cs_server.proofs.places.place_named.Given as goal

abbrev pub invariant-loop-place : goal.invariant-loop-place
invariant-loop-place l = (l.place ≤ length l.streams) × (stream_from l.place (codes "READ_" ++ l.name) (drop l.place l.streams) ≡ stream_from 0 (codes "READ_" ++ l.name) l.streams)

abbrev pub decreases-loop-place : goal.decreases-loop-place
decreases-loop-place l = length l.streams - l.place
