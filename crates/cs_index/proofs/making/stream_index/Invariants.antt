use Rattle.std.proofs.Common.{◌≡◌, take}
use Rattle.cs_index.specs.Walk.{IsWalk}
use Rattle.cs_index.proofs.making.stream_index.Given as goal

abbrev pub invariant-loop-place : goal.invariant-loop-place
invariant-loop-place l = record {
  walk : IsWalk l.catalog.tables l.stream l.items (take l.place l.items) l.walk;
  parts : l.walk.parts.now ≡ l.layout.parts;
}
