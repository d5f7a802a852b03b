use Rattle.std.proofs.Common.{◌≤◌, length}
use Rattle.cs_steps.specs.Cursor.{Source, HaveStamps, IsCursor, most_left, steps_left}
use Rattle.cs_read.specs.Laid.{LaidOut}
use Rattle.cs_read.proofs.laying.steps_laid.Given as goal

-- the places so far and what is left behind the cursor are all of its steps
abbrev pub invariant-loop-place : goal.invariant-loop-place
invariant-loop-place l = record {
  within : l.cursor.end ≤ length l.records;
  gap : 1 ≤ l.cursor.gap;
  laid : (s : Source) → IsCursor s l.fn.cursor → HaveStamps l.records s.records → LaidOut s (steps_left s l.fn.cursor) l.cursor l.steps;
}

abbrev pub decreases-loop-place : goal.decreases-loop-place
decreases-loop-place l = most_left l.cursor
