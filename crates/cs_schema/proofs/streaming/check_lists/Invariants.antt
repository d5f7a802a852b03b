use Rattle.std.proofs.Common.{◌≡◌, drop}
use Rattle.cs_types.specs.Firsts.{first_of}
use Rattle.cs_schema.specs.Streaming.{twice_listed}
use Rattle.cs_schema.proofs.streaming.check_lists.Given as goal

abbrev pub invariant-loop-item : goal.invariant-loop-item
invariant-loop-item l = first_of (twice_listed) (drop l.item-index l.items) ≡ first_of (twice_listed) l.items
