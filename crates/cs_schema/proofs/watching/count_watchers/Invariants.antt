use Rattle.std.proofs.Common.{◌≡◌, ◌≤◌, ◌+◌, drop}
use Rattle.cs_schema.specs.Watching.{watchers}
use Rattle.cs_schema.proofs.watching.count_watchers.Given as goal

abbrev pub invariant-loop-stream : goal.invariant-loop-stream
invariant-loop-stream l = record {
  counted : l.count + watchers (drop l.stream-index l.streams) l.table l.column ≡ watchers l.streams l.table l.column;
  few : l.count ≤ l.stream-index;
}
