use Rattle.std.proofs.Common.{take, All}
use Rattle.cs_types.specs.declared.cells.Cell.{Cell}
use Rattle.cs_types.specs.Value.{IsInRange}
use Rattle.cs_types.proofs.cells.check_range.Given as goal

abbrev pub invariant-loop-cell : goal.invariant-loop-cell
invariant-loop-cell l = All (λ (c : Cell). IsInRange c.value) (take l.cell-index l.cells)
