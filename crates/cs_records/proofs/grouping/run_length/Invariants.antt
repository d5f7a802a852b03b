use Rattle.std.proofs.Common.{◌≡◌, ◌≤◌, take, All}
use Rattle.cs_records.specs.Group.{IsAlike}
use Rattle.cs_records.proofs.grouping.run_length.Given as goal

abbrev pub invariant-loop-item : goal.invariant-loop-item
invariant-loop-item l = record {
  count : l.count ≡ l.item-index;
  few : l.count ≤ 31;
  alike : All (IsAlike l.first) (take l.item-index l.more);
}
