use Rattle.std.proofs.Common.{◌≡◌, ◌≤◌, ◌-◌, take, drop, length, None}
use Rattle.cs_txn.specs.Left.{found_in}
use Rattle.cs_txn.proofs.finding.search.Given as goal

abbrev pub invariant-loop-low : goal.invariant-loop-low
invariant-loop-low l = record {
  order : l.low ≤ l.high;
  within : l.high ≤ length l.cells;
  before : found_in l.column (take l.low l.cells) ≡ None;
  behind : found_in l.column (drop l.high l.cells) ≡ None;
}

abbrev pub decreases-loop-low : goal.decreases-loop-low
decreases-loop-low l = l.high - l.low
