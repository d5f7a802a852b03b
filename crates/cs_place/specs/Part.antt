-- Parts, which Spanner's documentation calls change stream partitions: which places and which moments each has.
use Rattle.std.specs.Prelude.{◌≡◌, ℕ, ◌<◌, ◌≤◌, Bool, true, false, not, ◌&&◌, nat_le, nat_lt, Option, Some, None, ⊤}
use Rattle.std.specs.Ordering.{nat_cmp, is_lt}
use Rattle.std.specs.Cmp.Lexicographic.{slice_cmp}
use Rattle.cs_place.specs.declared.place.Place.{Place}
use Rattle.cs_place.specs.declared.part.Range.{Range}
use Rattle.cs_place.specs.declared.part.Part.{Part}

-- whether a place is below another, in byte order
abbrev pub is_below : Place → Place → Bool
is_below a b = is_lt (slice_cmp nat_cmp a.bytes b.bytes)

-- a place is below the end of a range, where the range has one
abbrev pub IsBelowHigh : Place → Option Place → Type 0
IsBelowHigh place None = ⊤
IsBelowHigh place (Some high) = is_below place high ≡ true

-- a range has the places from its lowest to below its end
abbrev pub IsInRange : Range → Place → Type 0
IsInRange range place = (is_below place range.low ≡ false) × IsBelowHigh place range.high

-- two ranges have a place in common
abbrev pub Meet : Range → Range → Type 0
Meet a b = (place : Place) × IsInRange a place × IsInRange b place

-- a moment is before an end, where there is one
abbrev pub IsBefore : ℕ → Option ℕ → Type 0
IsBefore moment None = ⊤
IsBefore moment (Some until) = moment < until

-- a part is live from its beginning to before its end
pub record IsLive (part : Part) (moment : ℕ) : Type 0 where
  pub born : part.from ≤ moment
  pub lives : IsBefore moment part.until

-- a part has a place at a moment where it is live and the place is in its range
pub record Holds (part : Part) (place : Place) (moment : ℕ) : Type 0 where
  pub inside : IsInRange part.range place
  pub live : IsLive part moment

-- the test of a moment before an end
abbrev pub is_before : ℕ → Option ℕ → Bool
is_before moment None = true
is_before moment (Some until) = nat_lt moment until

-- the test of a live part
abbrev pub is_live : Part → ℕ → Bool
is_live part moment = nat_le part.from moment && is_before moment part.until

-- the test of a place below the end of a range
abbrev pub is_below_high : Place → Option Place → Bool
is_below_high place None = true
is_below_high place (Some high) = is_below place high

-- the test of a place in a range
abbrev pub is_inside : Range → Place → Bool
is_inside range place = not (is_below place range.low) && is_below_high place range.high

-- the test of a part that has a place at a moment
abbrev pub is_held : Part → Place → ℕ → Bool
is_held part place moment = is_inside part.range place && is_live part moment
