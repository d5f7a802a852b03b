use Rattle.std.proofs.Common.{◌≡◌, drop}
use Rattle.cs_schema.specs.Faults.{no_column}
use Rattle.cs_types.specs.Firsts.{first_of}
use Rattle.cs_schema.proofs.making.check_there.Given as goal

abbrev pub invariant-loop-name : goal.invariant-loop-name
invariant-loop-name l = first_of (no_column l.columns) (drop l.name-index l.names) ≡ first_of (no_column l.columns) l.names
