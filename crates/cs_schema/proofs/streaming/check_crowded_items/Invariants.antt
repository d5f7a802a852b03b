use Rattle.std.proofs.Common.{◌≡◌, drop}
use Rattle.cs_types.specs.Firsts.{first_of}
use Rattle.cs_schema.specs.Streaming.{crowded_item}
use Rattle.cs_schema.proofs.streaming.check_crowded_items.Given as goal

abbrev pub invariant-loop-item : goal.invariant-loop-item
invariant-loop-item l = first_of (crowded_item l.tables l.streams) (drop l.item-index l.items) ≡ first_of (crowded_item l.tables l.streams) l.items
