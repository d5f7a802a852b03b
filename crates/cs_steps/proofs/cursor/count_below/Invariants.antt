use Rattle.std.proofs.Common.{ℕ, ◌-◌, ◌<◌, ◌≤◌, length, get_or}
use Rattle.cs_steps.specs.declared.places.RecordPlace.{RecordPlace}
use Rattle.cs_steps.proofs.cursor.count_below.Given as goal

-- what is below `low` is below the moment, and what is from `high` on is not
abbrev pub invariant-loop-low : goal.invariant-loop-low
invariant-loop-low l = record {
  within : (l.low ≤ l.high) × (l.high ≤ length l.records);
  below : (k : ℕ) (d : RecordPlace) → k < l.low → (get_or l.records k d).stamp < l.us;
  above : (k : ℕ) (d : RecordPlace) → l.high ≤ k → k < length l.records → l.us ≤ (get_or l.records k d).stamp;
}

abbrev pub decreases-loop-low : goal.decreases-loop-low
decreases-loop-low l = l.high - l.low
