use Rattle.std.proofs.Common.{◌≡◌, ◌++◌, drop}
use Rattle.cs_types.specs.Names.{columns_of}
use Rattle.cs_capture.proofs.columns.put_columns.Given as goal

abbrev pub invariant-loop-cell : goal.invariant-loop-cell
invariant-loop-cell l = l.names ++ columns_of (drop l.cell-index l.cells) ≡ l.fn.names ++ columns_of l.cells
