use Rattle.std.proofs.Common.{◌≤◌, length}
use Rattle.cs_txn.specs.Finding.{LeadsFrom}
use Rattle.cs_script.proofs.finder.places_of.Given as goal

abbrev pub invariant-loop-place : goal.invariant-loop-place
invariant-loop-place l = record {
  within : l.place ≤ length l.columns;
  leads : LeadsFrom l.place l.columns l.places;
}

abbrev pub decreases-loop-place : goal.decreases-loop-place
decreases-loop-place l = l.place
