use Rattle.std.proofs.Common.{◌≡◌, length}
use Rattle.serde_json.specs.View.{items_view}
use Rattle.cs_json_reading.specs.Missing.{first_in, missing_in_change}
use Rattle.cs_json_reading.proofs.missing.in_changes.Given as goal

abbrev pub invariant-loop-rest : goal.invariant-loop-rest
invariant-loop-rest l = first_in missing_in_change (items_view l.rest) ≡ first_in missing_in_change (items_view l.items)

abbrev pub decreases-loop-rest : goal.decreases-loop-rest
decreases-loop-rest l = length l.rest
