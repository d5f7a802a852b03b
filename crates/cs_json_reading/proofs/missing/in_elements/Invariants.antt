use Rattle.std.proofs.Common.{◌≡◌, length, map}
use Rattle.serde_json.specs.View.{items_view}
use Rattle.cs_json_reading.specs.Missing.{first_in, missing_in}
use Rattle.cs_json_reading.proofs.missing.in_elements.Given as goal

abbrev pub invariant-loop-rest : goal.invariant-loop-rest
invariant-loop-rest l = first_in (missing_in (map (λ s. s.now) l.names)) (items_view l.rest) ≡ first_in (missing_in (map (λ s. s.now) l.names)) (items_view l.items)

abbrev pub decreases-loop-rest : goal.decreases-loop-rest
decreases-loop-rest l = length l.rest
