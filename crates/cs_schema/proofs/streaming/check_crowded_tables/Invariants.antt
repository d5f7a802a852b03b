use Rattle.std.proofs.Common.{◌≡◌, drop}
use Rattle.cs_types.specs.Firsts.{first_of}
use Rattle.cs_schema.specs.Streaming.{crowded_table}
use Rattle.cs_schema.proofs.streaming.check_crowded_tables.Given as goal

abbrev pub invariant-loop-table : goal.invariant-loop-table
invariant-loop-table l = first_of (crowded_table l.streams) (drop l.table-index l.tables) ≡ first_of (crowded_table l.streams) l.tables
