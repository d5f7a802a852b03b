use Rattle.std.proofs.Common.{◌≡◌, ◌≤◌, drop}
use Rattle.cs_schema.specs.Lengths.{length_from}
use Rattle.cs_schema.proofs.lengths.length.Given as goal

abbrev pub invariant-loop-digit : goal.invariant-loop-digit
invariant-loop-digit l = record {
  rest : length_from l.most l.number (drop l.digit-index l.digits) ≡ length_from l.most 0 l.digits;
  small : l.number ≤ l.most;
}
