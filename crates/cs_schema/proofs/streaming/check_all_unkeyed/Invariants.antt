use Rattle.std.proofs.Common.{◌≡◌, drop}
use Rattle.cs_types.specs.Firsts.{first_of}
use Rattle.cs_schema.specs.Streaming.{key_listed}
use Rattle.cs_schema.proofs.streaming.check_all_unkeyed.Given as goal

abbrev pub invariant-loop-item : goal.invariant-loop-item
invariant-loop-item l = first_of (key_listed l.tables) (drop l.item-index l.items) ≡ first_of (key_listed l.tables) l.items
