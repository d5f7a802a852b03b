use Rattle.std.proofs.Common.{◌≡◌, ◌++◌, drop}
use Rattle.cs_schema.specs.Streaming.{tables_of}
use Rattle.cs_schema.proofs.streaming.watched_tables.Given as goal

abbrev pub invariant-loop-item : goal.invariant-loop-item
invariant-loop-item l = l.names ++ tables_of (drop l.item-index l.items) ≡ tables_of l.items
