use Rattle.std.proofs.Common.{◌≡◌, ◌-◌, ◌^◌, min, take}
use Rattle.std.specs.List.{sum_by}
use Rattle.cs_records.specs.Weight.{cell_weight}
use Rattle.cs_records.proofs.weight.cells_weight.Given as goal

abbrev pub invariant-loop-cell : goal.invariant-loop-cell
invariant-loop-cell l = l.total ≡ min (sum_by cell_weight (take l.cell-index l.cells)) (2 ^ 64 - 1)
