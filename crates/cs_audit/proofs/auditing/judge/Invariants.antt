use Rattle.std.proofs.Common.{◌≡◌, ◌≤◌, length, take}
use Rattle.cs_audit.specs.Index.{IsKept}
use Rattle.cs_audit.proofs.auditing.judge.Given as goal

abbrev pub invariant-loop-at : goal.invariant-loop-at
invariant-loop-at l =
    record {
      count : length l.seen.stands.items ≡ length l.wanted;
      covered : l.seen.covered ≤ length l.index.by_stamp.items;
      kept : IsKept l.seen l.index (take l.at l.lines) l.wanted l.end;
    }
