use Rattle.std.proofs.Common.{◌≡◌, ◌-◌, ◌^◌, min, take}
use Rattle.std.specs.List.{sum_by}
use Rattle.cs_records.specs.Weight.{mod_weight}
use Rattle.cs_records.proofs.weight.mods_weight.Given as goal

abbrev pub invariant-loop-item : goal.invariant-loop-item
invariant-loop-item l = l.total ≡ min (sum_by mod_weight (take l.item-index l.mods)) (2 ^ 64 - 1)
