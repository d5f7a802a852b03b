use Rattle.std.proofs.Common.{◌≡◌, take}
use Rattle.cs_types.specs.Names.{columns_of}
use Rattle.cs_records.proofs.keys.same_columns.Given as goal

abbrev pub invariant-loop-i : goal.invariant-loop-i
invariant-loop-i l = take l.i (columns_of l.a) ≡ take l.i (columns_of l.b)
