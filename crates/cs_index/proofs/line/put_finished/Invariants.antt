use Rattle.std.proofs.Common.{◌≡◌, ◌+◌, ◌++◌, drop}
use Rattle.cs_steps.specs.Index.{finished}
use Rattle.cs_index.specs.Walk.{count_in}
use Rattle.cs_index.proofs.line.put_finished.Given as goal

abbrev pub invariant-loop-index : goal.invariant-loop-index
invariant-loop-index l = record {
  next : l.next ≡ l.sequence + l.index;
  records : l.records ++ finished (count_in l.totals) l.next (drop l.index l.opened) ≡ l.fn.records ++ finished (count_in l.totals) l.sequence l.opened;
}
