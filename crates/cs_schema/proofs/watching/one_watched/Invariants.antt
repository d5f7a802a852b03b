use Rattle.std.proofs.Common.{◌≡◌, drop}
use Rattle.cs_schema.specs.Watching.{watches_one}
use Rattle.cs_schema.proofs.watching.one_watched.Given as goal

abbrev pub invariant-loop-column : goal.invariant-loop-column
invariant-loop-column l = watches_one l.watch l.table (drop l.column-index l.columns) ≡ watches_one l.watch l.table l.columns
