use Rattle.std.proofs.Common.{◌≡◌, drop}
use Rattle.cs_types.specs.Firsts.{first_of}
use Rattle.cs_schema.specs.Streaming.{no_table}
use Rattle.cs_schema.proofs.streaming.check_tables_there.Given as goal

abbrev pub invariant-loop-item : goal.invariant-loop-item
invariant-loop-item l = first_of (no_table l.tables) (drop l.item-index l.items) ≡ first_of (no_table l.tables) l.items
