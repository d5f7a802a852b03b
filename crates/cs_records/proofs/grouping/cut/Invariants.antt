use Rattle.std.proofs.Common.{◌≡◌, ◌+◌, ◌-◌, ◌≤◌, ◌++◌, List, length, drop}
use Rattle.cs_records.specs.Group.{AreCut}
use Rattle.cs_records.specs.declared.records.DataRecord.{DataRecord}
use Rattle.cs_records.proofs.grouping.cut.Given as goal

abbrev pub invariant-loop-at : goal.invariant-loop-at
invariant-loop-at l = record {
  within : l.at ≤ length l.captured;
  numbers : l.sequence ≡ l.next_sequence + length l.records;
  few : length l.records ≤ l.at;
  rest : (more : List DataRecord) → AreCut l.sequence (drop l.at l.captured) more → AreCut l.next_sequence l.captured (l.records ++ more);
}

abbrev pub decreases-loop-at : goal.decreases-loop-at
decreases-loop-at l = length l.captured - l.at
