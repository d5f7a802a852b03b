use Rattle.std.proofs.Common.{◌≡◌, ◌≤◌, length}
use Rattle.cs_schema.specs.Options.{retention_from}
use Rattle.cs_schema.proofs.options.retention.Given as goal

abbrev pub invariant-loop-rest : goal.invariant-loop-rest
invariant-loop-rest l = record {
  rest : retention_from l.count l.rest ≡ retention_from 0 l.text;
  small : l.count ≤ 168;
}

abbrev pub decreases-loop-rest : goal.decreases-loop-rest
decreases-loop-rest l = length l.rest
