use Rattle.std.proofs.Common.{◌≡◌, ◌++◌, drop}
use Rattle.cs_capture.specs.Captured.{told_cells}
use Rattle.cs_capture.proofs.choosing.told_items.Given as goal

abbrev pub invariant-loop-cell : goal.invariant-loop-cell
invariant-loop-cell l = l.kept ++ told_cells l.told l.watch l.key l.item (drop l.cell-index l.cells) ≡ told_cells l.told l.watch l.key l.item l.cells
