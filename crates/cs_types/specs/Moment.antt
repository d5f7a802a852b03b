-- Moments of the years 1 to 9999 in UTC, counted since 1970-01-01T00:00:00Z, and their texts, which are RFC 3339's with `T` and `Z` (GoogleSQL's TIMESTAMP).
use Rattle.std.specs.Prelude.{◌≡◌, ℕ, zero, suc, ◌+◌, ◌-◌, ◌*◌, ◌/◌, ◌%◌, ◌<◌, ◌≤◌, List, [], ◌∷◌, ◌++◌, codes, replicate, drop, ◌==◌, if◌then◌else◌, ℤ, pos, ◌+ℤ◌, ◌-ℤ◌, ◌*ℤ◌, ◌≤ℤ◌, unsigned_abs}
use Rattle.std.specs.Int.{int_div_euclid, int_rem_euclid}
use Rattle.cs_types.specs.declared.moment.StampFault.{StampFault}
use Rattle.cs_types.specs.declared.moment.StampFault.TheVariants.{Shape, Range, TooFine}
use Rattle.cs_types.specs.Shape.{Fits, IsFaultPlace, two_at, two_digits}
use Rattle.cs_types.specs.Civil.{HasCivilDate, date_field, date_text}

-- the microseconds from 0001-01-01T00:00:00Z to the last one of the year 9999
abbrev pub IsMoment : ℤ → Type 0
IsMoment us = ((pos 0 -ℤ pos 62135596800000000) ≤ℤ us) × (us ≤ℤ pos 253402300799999999)

-- what stands behind the seconds: `Z`, or a point, n digits and `Z`
abbrev pub fraction_pattern : ℕ → List ℕ
fraction_pattern zero = codes "Z"
fraction_pattern (suc n) = codes "." ++ replicate (suc n) 100 ++ codes "Z"

-- a date, `T`, hours, minutes and seconds, then nothing or a point and 1 to 9 digits, then `Z`
abbrev pub IsMomentShape : List ℕ → Type 0
IsMomentShape text = (n : ℕ) × (n ≤ 9) × Fits (codes "dddd-dd-ddTdd:dd:dd" ++ fraction_pattern n) text

-- the fields of a text of the shape
abbrev pub hour_field : List ℕ → ℕ
hour_field text = two_at text 11

abbrev pub minute_field : List ℕ → ℕ
minute_field text = two_at text 14

abbrev pub second_field : List ℕ → ℕ
second_field text = two_at text 17

-- the first digit counts so much and each other a tenth of the one before; the last byte, which is the `Z`, counts nothing
unfoldable pub tenths : ℕ → List ℕ → ℕ
tenths unit [] = 0
tenths unit (z ∷ []) = 0
tenths unit (c ∷ d ∷ ds) = (c - 48) * unit + tenths (unit / 10) (d ∷ ds)

-- the nanoseconds of the digits behind the point
abbrev pub nanosecond_field : List ℕ → ℕ
nanosecond_field text = tenths 100000000 (drop 20 text)

-- a clock shows the text's time of day; no minute has a second 60
pub record HasClock (text : List ℕ) : Type 0 where
  pub hour : hour_field text < 24
  pub minute : minute_field text < 60
  pub second : second_field text < 60

-- its date is one of the calendar too
pub record HasCivilMoment (text : List ℕ) : Type 0 where
  pub date : HasCivilDate text
  pub clock : HasClock text

-- the seconds since midnight
abbrev pub clock_field : List ℕ → ℕ
clock_field text = (hour_field text * 60 + minute_field text) * 60 + second_field text

-- the nanoseconds since 1970-01-01T00:00:00Z
unfoldable pub moment_field : List ℕ → ℤ
moment_field text = date_field text *ℤ pos 86400000000000 +ℤ pos (clock_field text * 1000000000 + nanosecond_field text)

-- the text is that moment, between two others, which are its limits
pub record SpellsBetween (least greatest : ℤ) (text : List ℕ) (us : ℤ) : Type 0 where
  pub shape : IsMomentShape text
  pub civil : HasCivilMoment text
  pub number : moment_field text ≡ us *ℤ pos 1000
  pub range : (least ≤ℤ us) × (us ≤ℤ greatest)

-- the text is the moment of so many microseconds since 1970-01-01T00:00:00Z
abbrev pub SpellsMoment : List ℕ → ℤ → Type 0
SpellsMoment text us = SpellsBetween (pos 0 -ℤ pos 62135596800000000) (pos 253402300799999999) text us

-- the fields are a civil date and time, whose moment, with all of its digits, is between the limits
pub record IsBetweenMoments (least greatest : ℤ) (text : List ℕ) : Type 0 where
  pub civil : HasCivilMoment text
  pub low : (least *ℤ pos 1000) ≤ℤ moment_field text
  pub high : moment_field text ≤ℤ (greatest *ℤ pos 1000)

-- when a text is refused: at the first byte at which it leaves the shape; it has the shape and is out of range; it has, is in range, and is no whole number of microseconds
abbrev pub IsFaultBetween : ℤ → ℤ → StampFault → List ℕ → Type 0
IsFaultBetween least greatest (Shape place) text = IsFaultPlace IsMomentShape text place
IsFaultBetween least greatest Range text = IsMomentShape text × ¬ IsBetweenMoments least greatest text
IsFaultBetween least greatest TooFine text =
    IsMomentShape text × IsBetweenMoments least greatest text × ¬ ((us : ℤ) × (moment_field text ≡ us *ℤ pos 1000))

abbrev pub IsMomentFault : StampFault → List ℕ → Type 0
IsMomentFault fault text = IsFaultBetween (pos 0 -ℤ pos 62135596800000000) (pos 253402300799999999) fault text

-- the microseconds of a day that are past at a moment
unfoldable pub microsecond_of : ℤ → ℕ
microsecond_of us = unsigned_abs (int_rem_euclid us (pos 86400000000))

-- the day of a moment
unfoldable pub day_number : ℤ → ℤ
day_number us = int_div_euclid us (pos 86400000000)

-- no fraction where it is zero, and else a point and six digits
abbrev pub fraction_text : ℕ → List ℕ
fraction_text us = if us == 0 then [] else codes "." ++ two_digits (us / 10000) ++ two_digits (us / 100 % 100) ++ two_digits (us % 100)

-- the time of day, from the microseconds since midnight
unfoldable pub clock_text : ℕ → List ℕ
clock_text us =
    codes "T" ++ two_digits (us / 1000000 / 60 / 60) ++ codes ":" ++ two_digits (us / 1000000 / 60 % 60) ++ codes ":" ++ two_digits (us / 1000000 % 60)
    ++ fraction_text (us % 1000000) ++ codes "Z"

-- the one written text of a moment
unfoldable pub moment_text : ℤ → List ℕ
moment_text us = date_text (day_number us) ++ clock_text (microsecond_of us)
