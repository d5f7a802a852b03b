use Rattle.std.proofs.Common.{◌≡◌, drop}
use Rattle.cs_types.specs.Names.{is_among}
use Rattle.cs_script.proofs.finder.is_one_of.Given as goal

abbrev pub invariant-loop-one : goal.invariant-loop-one
invariant-loop-one l = is_among l.name (drop l.one-index l.names) ≡ is_among l.name l.names
