use Rattle.std.proofs.Common.{length, ◌-◌, ◌+◌, ◌≡◌, ◌≤◌, drop}
use Rattle.cs_redo.specs.Agreeing.{agreeing}
use Rattle.cs_redo.proofs.comparing.count_agreeing.Given as goal

abbrev pub invariant-bytes : goal.invariant-bytes
invariant-bytes l = record {
  within : (l.count ≤ length l.one) × (l.count ≤ length l.other);
  so_far : agreeing l.one l.other ≡ l.count + agreeing (drop l.count l.one) (drop l.count l.other);
}

abbrev pub decreases-bytes : goal.decreases-bytes
decreases-bytes l = length l.one - l.count
