use Rattle.std.proofs.Common.{◌≡◌, ◌∷◌, ◌++◌, drop, map}
use Rattle.cs_records.specs.Group.{mod_of}
use Rattle.cs_records.proofs.grouping.mods_of.Given as goal

abbrev pub invariant-loop-item : goal.invariant-loop-item
invariant-loop-item l = l.mods ++ map mod_of (drop l.item-index l.more) ≡ mod_of l.first ∷ map mod_of l.more
