use Rattle.std.proofs.Common.{◌≡◌, drop}
use Rattle.cs_types.specs.Names.{columns_of}
use Rattle.cs_steps.specs.Records.{same_names}
use Rattle.cs_index.proofs.alike.same_columns.Given as goal

abbrev pub invariant-loop-index : goal.invariant-loop-index
invariant-loop-index l = same_names (columns_of (drop l.index l.one)) (columns_of (drop l.index l.other)) ≡ same_names (columns_of l.one) (columns_of l.other)
