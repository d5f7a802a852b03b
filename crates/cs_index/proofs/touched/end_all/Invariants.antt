use Rattle.std.proofs.Common.{◌≡◌, drop}
use Rattle.cs_index.specs.Walk.{count_in, ended_all}
use Rattle.cs_index.proofs.touched.end_all.Given as goal

abbrev pub invariant-loop-item : goal.invariant-loop-item
invariant-loop-item l = ended_all (count_in l.totals) l.sequence (drop l.item-index l.touched) l.lines ≡ ended_all (count_in l.totals) 0 l.touched l.fn.lines
