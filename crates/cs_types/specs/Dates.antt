-- What a text stands for as a DATE, a day number since 1970-01-01 (GoogleSQL data types): the relation of text and date, as a test.
use Rattle.std.specs.Prelude.{ℕ, List, [], ◌∷◌, codes, Bool, true, false, ◌&&◌, ℤ, pos, if◌then◌else◌, Result, Ok, Err}
use Rattle.std.specs.Int.{is_in_range}
use Rattle.jiff_core.specs.Calendar.{days_in_month}
use Rattle.cs_types.specs.declared.value_fault.ValueFault.{ValueFault}
use Rattle.cs_types.specs.declared.value_fault.ValueFault.TheVariants.{Range, BadText}
use Rattle.cs_types.specs.Shape.{allows}
use Rattle.cs_types.specs.Civil.{year_field, month_field, day_field, date_field}

-- whether the text fits the pattern, place by place
abbrev pub is_fit : List ℕ → List ℕ → Bool
is_fit [] [] = true
is_fit [] (b ∷ bs) = false
is_fit (m ∷ ms) [] = false
is_fit (m ∷ ms) (b ∷ bs) = allows m b && is_fit ms bs

-- whether the calendar has this day, in the years 1 to 9999
unfoldable pub is_civil : ℕ → ℕ → ℕ → Bool
is_civil year month day = is_in_range 1 9999 year && (is_in_range 1 12 month && is_in_range 1 (days_in_month (pos year) month) day)

-- whether the text begins with a date of the calendar
abbrev pub has_civil_date : List ℕ → Bool
has_civil_date text = is_civil (year_field text) (month_field text) (day_field text)

-- the day number of a text YYYY-MM-DD
unfoldable pub date_reading : List ℕ → Result ℤ ValueFault
date_reading text = if is_fit (codes "dddd-dd-dd") text then (if has_civil_date text then Ok (date_field text) else Err Range) else Err BadText
