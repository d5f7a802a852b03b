-- The test of a date's text is the relation of text and date.
use Rattle.std.proofs.Common.{◌≡◌, ◌≤◌, ℕ, List, [], ◌∷◌, codes, Bool, true, false, ◌&&◌, ℤ, pos, if◌then◌else◌, Result, Ok, Err, refl, ap, arith, rules}
use Rattle.jiff_core.specs.Calendar.{days_in_month}
use Rattle.cs_types.specs.declared.value_fault.ValueFault.{ValueFault}
use Rattle.cs_types.specs.declared.value_fault.ValueFault.TheVariants.{Range, BadText}
use Rattle.cs_types.specs.Shape.{allows, Fits}
use Rattle.cs_types.specs.Civil.{IsCivil, HasCivilDate, IsDateShape, SpellsDate, year_field, month_field, day_field, date_field}
use Rattle.std.specs.Int.{is_in_range}
use Rattle.cs_types.specs.Dates.{is_fit, is_civil, has_civil_date, date_reading}

pub both_true : (a b : Bool) → a ≡ true → b ≡ true → (a && b) ≡ true
both_true a b p q = rw (p, q) refl

pub both_of : (a b : Bool) → (a && b) ≡ true → (a ≡ true) × (b ≡ true)
both_of true true h = (refl, refl)
both_of true false h = cc
both_of false b h = cc

pub not_true : (b : Bool) → (b ≡ true → ⊥) → b ≡ false
not_true true h = absurd (h refl)
not_true false h = refl

pub fit_is : (ms bs : List ℕ) → Fits ms bs → is_fit ms bs ≡ true
fit_is [] [] h = refl
fit_is [] (b ∷ bs) h = absurd h
fit_is (m ∷ ms) [] h = absurd h
fit_is (m ∷ ms) (b ∷ bs) h = both_true (allows m b) (is_fit ms bs) h.0 (fit_is ms bs h.1)

pub fit_of : (ms bs : List ℕ) → is_fit ms bs ≡ true → Fits ms bs
fit_of [] [] h = tt
fit_of [] (b ∷ bs) h = cc
fit_of (m ∷ ms) [] h = cc
fit_of (m ∷ ms) (b ∷ bs) h = let parts = both_of (allows m b) (is_fit ms bs) h in (parts.0, fit_of ms bs parts.1)

between_is : (low high n : ℕ) → low ≤ n → n ≤ high → is_in_range low high n ≡ true
between_is low high n p q = search (rules, p, q)

between_of : (low high n : ℕ) → is_in_range low high n ≡ true → (low ≤ n) × (n ≤ high)
between_of low high n h = (grind (arith, h), grind (arith, h))

pub civil_is : (y m d : ℕ) → IsCivil y m d → is_civil y m d ≡ true
unfolding is_civil
civil_is y m d h =
    both_true (is_in_range 1 9999 y) _ (between_is 1 9999 y h.year_in.0 h.year_in.1)
    (both_true (is_in_range 1 12 m) _ (between_is 1 12 m h.month_in.0 h.month_in.1) (between_is 1 (days_in_month (pos y) m) d h.day_in.0 h.day_in.1))

pub civil_of : (y m d : ℕ) → is_civil y m d ≡ true → IsCivil y m d
unfolding is_civil
civil_of y m d h =
    let parts = both_of (is_in_range 1 9999 y) (is_in_range 1 12 m && is_in_range 1 (days_in_month (pos y) m) d) h in
    let rest = both_of (is_in_range 1 12 m) (is_in_range 1 (days_in_month (pos y) m) d) parts.1 in
    record { year_in = between_of 1 9999 y parts.0; month_in = between_of 1 12 m rest.0; day_in = between_of 1 (days_in_month (pos y) m) d rest.1 }

pub date_read : (text : List ℕ) (day : ℤ) → SpellsDate text day → date_reading text ≡ Ok day
unfolding date_reading
date_read text day h = rw (fit_is (codes "dddd-dd-dd") text h.shape, civil_is (year_field text) (month_field text) (day_field text) h.civil) (ap Ok h.number)

pub date_bad : (text : List ℕ) → ¬ IsDateShape text → date_reading text ≡ Err BadText
unfolding date_reading
date_bad text h = rw (not_true (is_fit (codes "dddd-dd-dd") text) (λ fit. h (fit_of (codes "dddd-dd-dd") text fit))) refl

pub date_outside : (text : List ℕ) → IsDateShape text → ¬ HasCivilDate text → date_reading text ≡ Err Range
unfolding date_reading
date_outside text shape h =
    let none : has_civil_date text ≡ false = not_true (has_civil_date text) (λ civil. h (civil_of (year_field text) (month_field text) (day_field text) civil)) in
    rw (fit_is (codes "dddd-dd-dd") text shape, none) refl

abbrev read : ℤ → Result ℤ ValueFault
read n = Ok n

abbrev refused : ValueFault → Result ℤ ValueFault
refused fault = Err fault

-- what was read passed both tests
pub passed : (a b : Bool) (n m : ℤ) → (if a then (if b then read n else refused Range) else refused BadText) ≡ read m → (a ≡ true) × (b ≡ true) × (n ≡ m)
passed true true n m h = (refl, refl, cc)
passed true false n m h = absurd cc
passed false b n m h = absurd cc

pub date_told : (text : List ℕ) (day : ℤ) → date_reading text ≡ Ok day → SpellsDate text day
unfolding date_reading
date_told text day h =
    let tests = passed (is_fit (codes "dddd-dd-dd") text) (has_civil_date text) (date_field text) day h in
    record { shape = fit_of (codes "dddd-dd-dd") text tests.0; civil = civil_of (year_field text) (month_field text) (day_field text) tests.1; number = tests.2 }
