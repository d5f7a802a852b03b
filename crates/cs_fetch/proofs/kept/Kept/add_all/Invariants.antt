use Rattle.std.proofs.Common.{◌≡◌, take}
use Rattle.cs_fetch.specs.Keeping.{keep, has_new}
use Rattle.cs_fetch.proofs.kept.Kept.add_all.Given as goal

abbrev pub invariant-loop-change : goal.invariant-loop-change
invariant-loop-change l = record {
  kept : l.self ≡ keep l.known l.fn.self (take l.change-index l.changes);
  some : l.some ≡ has_new l.known l.fn.self (take l.change-index l.changes);
}
