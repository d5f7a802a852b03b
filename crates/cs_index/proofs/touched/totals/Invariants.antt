use Rattle.std.proofs.Common.{◌≡◌, sum_by, take}
use Rattle.cs_index.specs.Walk.{opened_by}
use Rattle.cs_index.proofs.touched.totals.Given as goal

abbrev pub invariant-loop-item : goal.invariant-loop-item
invariant-loop-item l = l.records ≡ sum_by (opened_by l.lines) (take l.item-index l.touched)
