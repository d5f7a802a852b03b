use Rattle.std.proofs.Common.{◌≡◌, drop}
use Rattle.cs_types.specs.Firsts.{first_of}
use Rattle.cs_schema.specs.Making.{crowded}
use Rattle.cs_schema.proofs.making.check_crowds.Given as goal

abbrev pub invariant-loop-column : goal.invariant-loop-column
invariant-loop-column l = first_of (crowded l.least l.streams l.table l.key) (drop l.column-index l.columns) ≡ first_of (crowded l.least l.streams l.table l.key) l.columns
