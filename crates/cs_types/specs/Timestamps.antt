-- What a text stands for as a TIMESTAMP, a moment in microseconds since 1970 (GoogleSQL data types): the relation of text and moment, as a test.
use Rattle.std.specs.Prelude.{ℕ, zero, suc, List, ◌++◌, codes, Bool, ◌&&◌, ◌||◌, nat_lt, ℤ, pos, ◌-ℤ◌, ◌*ℤ◌, if◌then◌else◌, Result, Ok, Err}
use Rattle.std.specs.Int.{int_div_euclid}
use Rattle.std.specs.Int.Signed.{le_z}
use Rattle.std.specs.Ordering.{int_eq}
use Rattle.cs_types.specs.declared.value_fault.ValueFault.{ValueFault}
use Rattle.cs_types.specs.declared.value_fault.ValueFault.TheVariants.{Range, BadText}
use Rattle.cs_types.specs.Dates.{is_fit, has_civil_date}
use Rattle.cs_types.specs.Moment.{fraction_pattern, hour_field, minute_field, second_field, moment_field}

-- whether the text is a date and a time of day, with a fraction of at most n digits or none
unfoldable pub is_moment_shape : ℕ → List ℕ → Bool
is_moment_shape zero text = is_fit (codes "dddd-dd-ddTdd:dd:dd" ++ fraction_pattern zero) text
is_moment_shape (suc n) text = is_fit (codes "dddd-dd-ddTdd:dd:dd" ++ fraction_pattern (suc n)) text || is_moment_shape n text

-- whether the calendar has its date, and a clock shows its time of day
unfoldable pub has_civil_moment : List ℕ → Bool
has_civil_moment text = has_civil_date text && (nat_lt (hour_field text) 24 && (nat_lt (minute_field text) 60 && nat_lt (second_field text) 60))

-- the microseconds of so many nanoseconds
abbrev pub microseconds : ℤ → ℤ
microseconds nanoseconds = int_div_euclid nanoseconds (pos 1000)

-- the microseconds of a moment, where it is a civil one, whole and of the years 1 to 9999
abbrev pub in_microseconds : Bool → ℤ → Result ℤ ValueFault
in_microseconds civil nanoseconds =
    if civil && (int_eq (microseconds nanoseconds *ℤ pos 1000) nanoseconds
    && (le_z (pos 0 -ℤ pos 62135596800000000) (microseconds nanoseconds) && le_z (microseconds nanoseconds) (pos 253402300799999999)))
    then Ok (microseconds nanoseconds) else Err Range

-- the microseconds of a text of the shape of a stamp
unfoldable pub moment_reading : List ℕ → Result ℤ ValueFault
moment_reading text = if is_moment_shape 9 text then in_microseconds (has_civil_moment text) (moment_field text) else Err BadText
