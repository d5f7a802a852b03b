use Rattle.std.proofs.Common.{◌≡◌, drop}
use Rattle.std.specs.List.{list_any}
use Rattle.cs_capture.specs.declared.table.Told.TheVariants.{Modified}
use Rattle.cs_capture.specs.Captured.{is_told}
use Rattle.cs_capture.proofs.choosing.modified_any.Given as goal

abbrev pub invariant-loop-cell : goal.invariant-loop-cell
invariant-loop-cell l = list_any (is_told Modified l.watch l.key l.item) (drop l.cell-index l.cells) ≡ list_any (is_told Modified l.watch l.key l.item) l.cells
