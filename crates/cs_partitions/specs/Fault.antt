-- When a reshape is refused, and which refusal is answered: the first of them in their order, at its first token (this project's own rules).
use Rattle.std.specs.Prelude.{ℕ, suc, ◌+◌, List, [], ◌∷◌, length, Bool, true, false, not, ◌&&◌, nat_lt, cond, Option, None, Some, is_some}
use Rattle.std.specs.Option.{option_or}
use Rattle.cs_types.specs.Names.{is_same}
use Rattle.cs_types.specs.Firsts.{first_of}
use Rattle.cs_place.specs.declared.place.Place.{Place}
use Rattle.cs_place.specs.declared.part.Range.{Range}
use Rattle.cs_place.specs.declared.part.Part.{Part}
use Rattle.cs_place.specs.Part.{is_below, is_below_high}
use Rattle.cs_partitions.specs.declared.fault.LayoutFault.{LayoutFault}
use Rattle.cs_partitions.specs.declared.fault.LayoutFault.TheVariants.{NoPart, NotLive, NotNeighbours, BorderOutside, BordersNotRising, StampNotAfter, TooManyParts, TooWide, Memory}
use Rattle.cs_partitions.specs.Tokens.{most_parts}
use Rattle.cs_partitions.specs.Reshape.{part_named, parts_named, joined_range}

-- any fault but want of memory
abbrev pub not_memory : LayoutFault → Type 0
not_memory Memory = ⊥
not_memory _ = Unit {0}

-- a fault where a test fails
abbrev pub unless : Bool → LayoutFault → Option LayoutFault
unless test fault = cond test None (Some fault)

-- the first token that no part has
abbrev pub unknown : List Part → List (List ℕ) → Option LayoutFault
unknown parts = first_of (λ t. unless (is_some (part_named t parts)) (NoPart t))

-- the first of the parts that has ended
abbrev pub ended : List Part → Option LayoutFault
ended = first_of (λ p. unless (not (is_some p.until)) (NotLive p.token))

-- whether a range that begins at a place follows one with this end
abbrev pub goes_on : Option Place → Place → Bool
goes_on None low = false
goes_on (Some high) low = is_same high.bytes low.bytes

-- whether each of the parts begins where the one before ends, the first at this end
abbrev pub go_on : Option Place → List Part → Bool
go_on high [] = true
go_on high (p ∷ ps) = goes_on high p.range.low && go_on p.range.high ps

-- whether there is a part, and each begins where the one before ends
abbrev pub are_neighbours : List Part → Bool
are_neighbours [] = false
are_neighbours (p ∷ ps) = go_on p.range.high ps

-- whether a place divides a range: it is inside of it and not its low
abbrev pub divides : Range → Place → Bool
divides range place = is_below range.low place && is_below_high place range.high

-- whether each of the places does
abbrev pub all_divide : Range → List Place → Bool
all_divide range [] = true
all_divide range (b ∷ bs) = divides range b && all_divide range bs

-- whether the places rise, from above this one
abbrev pub rise_from : Place → List Place → Bool
rise_from place [] = true
rise_from place (b ∷ bs) = is_below place b && rise_from b bs

-- whether the places rise
abbrev pub are_rising : List Place → Bool
are_rising [] = true
are_rising (b ∷ bs) = rise_from b bs

-- whether each of the parts begins before the moment
abbrev pub begin_before : ℕ → List Part → Bool
begin_before at [] = true
begin_before at (p ∷ ps) = nat_lt p.from at && begin_before at ps

-- the faults of the parts that are named and of the borders
abbrev pub shape_fault : List Part → ℕ → List Place → Option LayoutFault
shape_fault named at borders =
    option_or (ended named)
    (option_or (unless (are_neighbours named) NotNeighbours)
    (option_or (unless (all_divide (joined_range named) borders) BorderOutside)
    (option_or (unless (are_rising borders) BordersNotRising)
    (unless (begin_before at named) StampNotAfter))))

-- the most parts that a reshape names or makes
abbrev pub most_wide : ℕ
most_wide = 64

-- the faults of numbers: of all parts of the stream, and of those that a reshape names or makes
abbrev pub number_fault : ℕ → ℕ → ℕ → Option LayoutFault
number_fault parts named made =
    option_or (unless (not (nat_lt most_parts (parts + made))) (TooManyParts most_parts))
    (unless (not (nat_lt most_wide named) && not (nat_lt most_wide made)) (TooWide most_wide))

-- the refusals of a reshape of these parts, in their order; none where it is applied
abbrev pub first_fault : List Part → ℕ → List (List ℕ) → List Place → Option LayoutFault
first_fault parts at tokens borders =
    option_or (unknown parts tokens)
    (option_or (shape_fault (parts_named tokens parts) at borders)
    (number_fault (length parts) (length tokens) (suc (length borders))))
