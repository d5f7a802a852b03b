use Rattle.std.proofs.Common.{◌≡◌, ◌++◌, take, flat_map}
use Rattle.cs_place.specs.Place.{escaped}
use Rattle.cs_place.proofs.place.put_escaped.Given as goal

abbrev pub invariant-loop-b : goal.invariant-loop-b
invariant-loop-b l = l.bytes.items ≡ l.initial.bytes.items ++ flat_map escaped (take l.b-index l.text)
