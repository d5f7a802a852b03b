use Rattle.std.proofs.Common.{sym, subst, arith, ℕ, ◌<◌, ◌≤◌, get_or, length, List}
use Rattle.cs_place.specs.declared.place.Place.{Place}
use Rattle.cs_place.specs.declared.part.Part.{Part}
use Rattle.cs_place.specs.Part.{Holds}
use Rattle.cs_place.specs.Layout.{HasOnePart}
use Rattle.cs_partitions.proofs.holding.first_holder.Goals as goal

-- one of the parts has the place
found : (parts : List Part) (place : Place) (moment index : ℕ) → HasOnePart parts place moment → length parts ≤ index → ((k : ℕ) (d : Part) → k < index → Holds (get_or parts k d) place moment → ⊥) → ⊥
found parts place moment index one past none =
    none one.1.0 one.0 (omega (arith, past, one.1.1)) (subst (λ (p : Part). Holds p place moment) (sym one.1.2) one.2)

pub unreachable-requires : goal.unreachable-requires
unreachable-requires c = found c.args.parts.now c.args.place.now c.args.moment c.loop-index.index c.requires c.loop-index-test.false c.loop-index.invariant
