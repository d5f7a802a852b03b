use Rattle.cs_audit.specs.Index.{ArePlaces}
use Rattle.cs_audit.proofs.index.places_of.Given as goal

abbrev pub invariant-loop-place : goal.invariant-loop-place
invariant-loop-place l = ArePlaces l.places l.wanted l.place
