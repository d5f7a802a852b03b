use Rattle.std.proofs.Common.{◌≡◌, drop, take, []}
use Rattle.cs_types.specs.Names.{first_again, HoldsNames}
use Rattle.cs_schema.proofs.names.again.Given as goal

abbrev pub invariant-loop-name : goal.invariant-loop-name
invariant-loop-name l = record {
  names : HoldsNames (take l.name-index l.names) l.seen;
  rest : first_again (take l.name-index l.names) (drop l.name-index l.names) ≡ first_again [] l.names;
}
