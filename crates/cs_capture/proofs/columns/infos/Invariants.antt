use Rattle.std.proofs.Common.{◌≡◌, ◌++◌, drop}
use Rattle.cs_capture.specs.Captured.{infos_from}
use Rattle.cs_capture.proofs.columns.infos.Given as goal

abbrev pub invariant-loop-column : goal.invariant-loop-column
invariant-loop-column l = l.told ++ infos_from l.ordinal l.key l.names (drop l.column-index l.columns) ≡ infos_from 1 l.key l.names l.columns
