use Rattle.std.proofs.Common.{◌≡◌, ◌∷◌, map, take}
use Rattle.cs_records.specs.Group.{mod_of}
use Rattle.cs_steps.specs.Places.{taken_at}
use Rattle.cs_read.proofs.records.mods.Given as goal

abbrev pub invariant-loop-place : goal.invariant-loop-place
invariant-loop-place l = l.mods ≡ l.fn.first ∷ map mod_of (taken_at l.of.items (take l.place-index l.places))
