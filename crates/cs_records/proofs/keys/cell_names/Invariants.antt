use Rattle.std.proofs.Common.{◌≡◌, ◌++◌, drop}
use Rattle.cs_types.specs.Names.{columns_of}
use Rattle.cs_records.proofs.keys.cell_names.Given as goal

abbrev pub invariant-loop-cell : goal.invariant-loop-cell
invariant-loop-cell l = l.names ++ columns_of (drop l.cell-index l.cells) ≡ columns_of l.cells
