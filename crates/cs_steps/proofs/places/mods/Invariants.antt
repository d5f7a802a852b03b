use Rattle.std.proofs.Common.{◌≡◌, map, take}
use Rattle.cs_records.specs.Group.{mod_of}
use Rattle.cs_steps.specs.Places.{taken_at}
use Rattle.cs_steps.proofs.places.mods.Given as goal

abbrev pub invariant-loop-place : goal.invariant-loop-place
invariant-loop-place l = l.mods ≡ map mod_of (taken_at l.captured (take l.place-index l.places))
