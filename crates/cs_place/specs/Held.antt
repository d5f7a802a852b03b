-- The tests of what a range and a part have answer what they are asked.
use Rattle.std.specs.Prelude.{◌≡◌, ◌↔◌, ℕ, true, not, nat_le, Option, Some, None}
use Rattle.std.proofs.Common.{refl}
use Rattle.std.proofs.lemmas.Bool.{and_parts, and_from, not-true, not_from_false, leb-true, le-leb, ltb-true, lt-ltb}
use Rattle.cs_place.specs.declared.place.Place.{Place}
use Rattle.cs_place.specs.declared.part.Range.{Range}
use Rattle.cs_place.specs.declared.part.Part.{Part}
use Rattle.cs_place.specs.Part.{IsInRange, IsBelowHigh, IsBefore, IsLive, Holds, is_below, is_before, is_live, is_below_high, is_inside, is_held}

-- a place is below an end exactly where the test says so
pub below_high_is : (place : Place) (high : Option Place) → (is_below_high place high ≡ true) ↔ IsBelowHigh place high
below_high_is place None = ((λ h. tt), λ h. refl)
below_high_is place (Some high) = ((λ h. h), λ h. h)

-- a moment is before an end exactly where the test says so
pub before_is : (moment : ℕ) (until : Option ℕ) → (is_before moment until ≡ true) ↔ IsBefore moment until
before_is moment None = ((λ h. tt), λ h. refl)
before_is moment (Some until) = ((λ h. ltb-true moment until h), λ h. lt-ltb moment until h)

-- a range has a place exactly where the test says so
pub inside_is : (range : Range) (place : Place) → (is_inside range place ≡ true) ↔ IsInRange range place
inside_is range place = (
  (λ h. let both = and_parts (not (is_below place range.low)) (is_below_high place range.high) h in (not-true (is_below place range.low) both.0, (below_high_is place range.high).0 both.1)),
  λ h. and_from (not (is_below place range.low)) (is_below_high place range.high) (not_from_false (is_below place range.low) h.0) ((below_high_is place range.high).1 h.1),
)

-- a part is live at a moment exactly where the test says so
pub live_is : (part : Part) (moment : ℕ) → (is_live part moment ≡ true) ↔ IsLive part moment
live_is part moment = (
  (λ h. let both = and_parts (nat_le part.from moment) (is_before moment part.until) h in record { born = leb-true part.from moment both.0; lives = (before_is moment part.until).0 both.1 }),
  λ h. and_from (nat_le part.from moment) (is_before moment part.until) (le-leb part.from moment h.born) ((before_is moment part.until).1 h.lives),
)

-- a part has a place at a moment exactly where the test says so
pub held_is : (part : Part) (place : Place) (moment : ℕ) → (is_held part place moment ≡ true) ↔ Holds part place moment
held_is part place moment = (
  (λ h. let both = and_parts (is_inside part.range place) (is_live part moment) h in record { inside = (inside_is part.range place).0 both.0; live = (live_is part moment).0 both.1 }),
  λ h. and_from (is_inside part.range place) (is_live part moment) ((inside_is part.range place).1 h.inside) ((live_is part moment).1 h.live),
)
