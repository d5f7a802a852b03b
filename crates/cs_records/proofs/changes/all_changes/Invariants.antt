use Rattle.std.proofs.Common.{◌≡◌, ◌++◌, drop, map}
use Rattle.cs_records.specs.Told.{change_of, changes_told}
use Rattle.cs_records.proofs.changes.all_changes.Given as goal

abbrev pub invariant-loop-one : goal.invariant-loop-one
invariant-loop-one l = l.changes ++ map (change_of l.item) (drop l.one-index l.item.mods) ≡ changes_told l.item
