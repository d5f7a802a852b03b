use Rattle.std.proofs.Common.{◌≡◌, ◌++◌, drop, filter}
use Rattle.cs_place.specs.declared.part.Part.{Part}
use Rattle.cs_place.specs.Part.{is_live}
use Rattle.cs_partitions.proofs.live.live_at.Given as goal

abbrev pub invariant-loop-part : goal.invariant-loop-part
invariant-loop-part l = l.live.items ++ filter (λ (p : Part). is_live p l.moment) (drop l.part-index l.parts) ≡ filter (λ (p : Part). is_live p l.moment) l.parts
