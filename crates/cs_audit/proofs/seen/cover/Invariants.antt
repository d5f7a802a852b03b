use Rattle.std.proofs.Common.{◌≤◌, ◌-◌, length}
use Rattle.cs_audit.specs.Index.{AreCovered}
use Rattle.cs_audit.proofs.seen.cover.Given as goal

abbrev pub invariant-loop-covered : goal.invariant-loop-covered
invariant-loop-covered l =
    record {
      within : l.covered ≤ length l.entries;
      covered : AreCovered l.stands l.entries l.known → AreCovered l.stands l.entries l.covered;
    }

abbrev pub decreases-loop-covered : goal.decreases-loop-covered
decreases-loop-covered l = length l.entries - l.covered
