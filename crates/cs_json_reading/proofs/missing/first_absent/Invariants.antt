use Rattle.std.proofs.Common.{◌≡◌, length, map}
use Rattle.serde_json.specs.View.{view}
use Rattle.cs_json_reading.specs.Missing.{first_absent}
use Rattle.cs_json_reading.proofs.missing.first_absent.Given as goal

abbrev pub invariant-loop-rest : goal.invariant-loop-rest
invariant-loop-rest l = first_absent (map (λ s. s.now) l.rest) (view l.tree) ≡ first_absent (map (λ s. s.now) l.names) (view l.tree)

abbrev pub decreases-loop-rest : goal.decreases-loop-rest
decreases-loop-rest l = length l.rest
