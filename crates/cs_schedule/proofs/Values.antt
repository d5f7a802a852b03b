-- The codes of values and of cells.
use Rattle.std.proofs.Common.{◌≡◌, ℕ, zero, suc, ◌+◌, ◌*◌, ◌/◌, ◌%◌, ◌^◌, ◌<◌, ℤ, pos, negsuc, ◌-ℤ◌, ◌≤ℤ◌, ◌<ℤ◌, Bool, true, false, cond, T, ◌&&◌, ltb, eqb, List, [], ◌∷◌, ◌++◌, Some, refl, sym, ap, subst, ◌∙◌, arith, true≢false, FitsSigned, int_lt, int_le}
use Rattle.std.specs.Prelude.{⊤}
use Rattle.std.specs.Int.{w32, w64, w128, cast_signed, cast_unsigned}
use Rattle.std.proofs.lemmas.Bool.{and_parts, and_from, eqb-true, leb-true, le-leb, ltb-true, lt-ltb}
use Rattle.std.proofs.lemmas.Int.{of_z-to_z, to_z-of_z, fits_signed_from_abs}
use Rattle.std.proofs.Math.Facts.{sfits_to_z, Fits-of_z, Fits-bits}
use Rattle.cs_types.specs.declared.value.Value.{Value}
use Rattle.cs_types.specs.declared.value.Value.TheVariants.{Null, Bool as Boolean, Int64, Numeric, Text, Bytes, Date, Timestamp}
use Rattle.cs_types.specs.declared.cells.Cell.{Cell}
use Rattle.std.specs.List.{AllByRecursion}
use Rattle.cs_types.specs.Value.{IsInRange}
use Rattle.cs_schedule.specs.Ranges.{are_bytes, is_in_range}
use Rattle.cs_schedule.specs.Spelling.{count, number, wide, value, cell, IsText, IsList, IsValue, IsCell}
use Rattle.cs_schedule.specs.Reading.{Read, mapped, pure, nothing, tagged, number_at, string_at, text_at, bool_of, numeric_at, value_of, value_at, cell_at}
use Rattle.cs_schedule.proofs.Codes.{Fits, some_is, bind_some, IsCode, both_code, mapped_code, checked_code}
use Rattle.cs_schedule.proofs.Numbers.{code32, code64, bytes_code, text_code}

-- ---- behind a tag

abbrev pub TakesBehind : {B : Type 0} → (B → Type 0) → (B → List ℕ) → ℕ → (List ℕ → Read B) → Type 0
TakesBehind {B} W v k q = (bytes : List ℕ) (x : B × List ℕ) → Fits bytes → q bytes ≡ Some x → (k ∷ bytes ≡ v x.0 ++ x.1) × W x.0

pub tagged_takes : {B : Type 0} (W : B → Type 0) (v : B → List ℕ) (p : ℕ → List ℕ → Read B) → ((k : ℕ) → TakesBehind W v k (p k)) → (bytes : List ℕ) (x : B × List ℕ) → Fits bytes → tagged p bytes ≡ Some x → (bytes ≡ v x.0 ++ x.1) × W x.0
tagged_takes W v p h [] x fits e = absurd cc
tagged_takes W v p h (k ∷ bytes) x fits e = h k bytes x (λ i. fits (suc i)) e

pub nothing_takes : {B : Type 0} (W : B → Type 0) (v : B → List ℕ) (k : ℕ) → TakesBehind W v k nothing
nothing_takes W v k bytes x fits e = absurd cc

pub choice_takes : {B : Type 0} (W : B → Type 0) (v : B → List ℕ) (k tag : ℕ) (q r : List ℕ → Read B) → TakesBehind W v tag q → TakesBehind W v k r → TakesBehind W v k (cond (eqb k tag) q r)
choice_takes {B} W v k tag q r hit miss = by (eqb k tag) refl
  where
    by : (b : Bool) → eqb k tag ≡ b → TakesBehind W v k (cond b q r)
    by true e = subst (λ n. TakesBehind W v n q) (sym (eqb-true k tag e)) hit
    by false e = miss

pub mapped_takes : {A B : Type 0} {V : A → Type 0} {w : A → List ℕ} {p : List ℕ → Read A} (W : B → Type 0) (v : B → List ℕ) (k : ℕ) (f : A → B) → IsCode V w p → ((a : A) → V a → W (f a) × (v (f a) ≡ k ∷ w a)) → TakesBehind W v k (mapped f p)
mapped_takes {A} {B} {V} {w} {p} W v k f c there bytes x fits e =
    let a = bind_some (p bytes) (λ y. Some (f y.0, y.1)) x e in
    let first = c.takes bytes a.0 fits a.1 in
    let t = there a.0.0 first.1 in
    subst (λ (y : B × List ℕ). (k ∷ bytes ≡ v y.0 ++ y.1) × W y.0) (some_is (f a.0.0, a.0.1) x a.2) (ap (λ l. k ∷ l) first.0 ∙ ap (λ l. l ++ a.0.1) (sym t.1), t.0)

pub pure_takes : {B : Type 0} (W : B → Type 0) (v : B → List ℕ) (k : ℕ) (b : B) → W b → v b ≡ k ∷ [] → TakesBehind W v k (pure b)
pure_takes {B} W v k b h w bytes x fits e = subst (λ (y : B × List ℕ). (k ∷ bytes ≡ v y.0 ++ y.1) × W y.0) (some_is (b, bytes) x e) (ap (λ l. l ++ bytes) (sym w), h)

-- ---- values

-- a value that its bytes can hold
abbrev IsHeld : Value → Type 0
IsHeld Null = ⊤
IsHeld (Boolean b) = ⊤
IsHeld (Int64 n) = FitsSigned w64 n
IsHeld (Numeric n) = FitsSigned w128 n
IsHeld (Text bytes) = IsText bytes
IsHeld (Bytes bytes) = IsList (λ b. b < 256) bytes
IsHeld (Date days) = FitsSigned w32 days
IsHeld (Timestamp us) = FitsSigned w64 us

signed32 : (n : ℕ) → n < 2 ^ 32 → FitsSigned w32 (cast_signed w32 n)
signed32 n h = sfits_to_z (Fits-bits 32 tt h)

signed64 : (n : ℕ) → n < 2 ^ 64 → FitsSigned w64 (cast_signed w64 n)
signed64 n h = sfits_to_z (Fits-bits 64 tt h)

signed128 : (n : ℕ) → n < 2 ^ 128 → FitsSigned w128 (cast_signed w128 n)
signed128 n h = sfits_to_z (Fits-bits 128 tt h)

below32 : (z : ℤ) → FitsSigned w32 z → cast_unsigned w32 z < 2 ^ 32
below32 z h = (Fits-of_z h).fits

below64 : (z : ℤ) → FitsSigned w64 z → cast_unsigned w64 z < 2 ^ 64
below64 z h = (Fits-of_z h).fits

below128 : (z : ℤ) → FitsSigned w128 z → cast_unsigned w128 z < 2 ^ 128
below128 z h = (Fits-of_z h).fits

numeric_takes : TakesBehind IsHeld value 3 numeric_at
unfolding numeric_at wide
numeric_takes =
    mapped_takes IsHeld value 3 (λ (z : ℕ × ℕ). Numeric (cast_signed w128 (z.0 + z.1 * 2 ^ 64))) (both_code code64 code64)
    (λ a h.
    let small : a.0 + a.1 * 2 ^ 64 < 2 ^ 128 = omega (arith, h.0, h.1) in
    let low : (a.0 + a.1 * 2 ^ 64) % 2 ^ 64 ≡ a.0 = omega (arith, h.0, h.1) in
    let high : (a.0 + a.1 * 2 ^ 64) / 2 ^ 64 ≡ a.1 = omega (arith, h.0, h.1) in
    (signed128 (a.0 + a.1 * 2 ^ 64) small, ap (λ l. 3 ∷ l) (ap wide (of_z-to_z w128 (a.0 + a.1 * 2 ^ 64) small) ∙ ap (λ n. number n ++ number ((a.0 + a.1 * 2 ^ 64) / 2 ^ 64)) low ∙ ap (λ n. number a.0 ++ number n) high)))

bool_takes : TakesBehind IsHeld value 1 (tagged bool_of)
bool_takes [] x fits e = absurd cc
bool_takes (k ∷ bytes) x fits e = by (eqb k 0) refl (eqb k 1) refl e
  where
    by : (b : Bool) → eqb k 0 ≡ b → (c : Bool) → eqb k 1 ≡ c → cond b (pure (Boolean false)) (cond c (pure (Boolean true)) nothing) bytes ≡ Some x → (1 ∷ k ∷ bytes ≡ value x.0 ++ x.1) × IsHeld x.0
    by true h c g e = subst (λ (y : Value × List ℕ). (1 ∷ k ∷ bytes ≡ value y.0 ++ y.1) × IsHeld y.0) (some_is (Boolean false, bytes) x e) (ap (λ n. 1 ∷ n ∷ bytes) (eqb-true k 0 h), tt)
    by false h true g e = subst (λ (y : Value × List ℕ). (1 ∷ k ∷ bytes ≡ value y.0 ++ y.1) × IsHeld y.0) (some_is (Boolean true, bytes) x e) (ap (λ n. 1 ∷ n ∷ bytes) (eqb-true k 1 g), tt)
    by false h false g e = absurd cc

behind_takes : (k : ℕ) → TakesBehind IsHeld value k (value_of k)
unfolding value_of
behind_takes k =
    choice_takes IsHeld value k 0 (pure Null) _ (pure_takes IsHeld value 0 Null tt refl)
    (choice_takes IsHeld value k 1 (tagged bool_of) _ bool_takes
    (choice_takes IsHeld value k 2 (mapped (λ n. Int64 (cast_signed w64 n)) (number_at w64)) _
    (mapped_takes IsHeld value 2 (λ n. Int64 (cast_signed w64 n)) code64 (λ n h. (signed64 n h, ap (λ m. 2 ∷ number m) (of_z-to_z w64 n h))))
    (choice_takes IsHeld value k 3 numeric_at _ numeric_takes
    (choice_takes IsHeld value k 4 (mapped Text text_at) _ (mapped_takes IsHeld value 4 Text text_code (λ bytes h. (h, refl)))
    (choice_takes IsHeld value k 5 (mapped Bytes string_at) _ (mapped_takes IsHeld value 5 Bytes bytes_code (λ bytes h. (h, refl)))
    (choice_takes IsHeld value k 6 (mapped (λ n. Date (cast_signed w32 n)) (number_at w32)) _
    (mapped_takes IsHeld value 6 (λ n. Date (cast_signed w32 n)) code32 (λ n h. (signed32 n h, ap (λ m. 6 ∷ count m) (of_z-to_z w32 n h))))
    (choice_takes IsHeld value k 7 (mapped (λ n. Timestamp (cast_signed w64 n)) (number_at w64)) _
    (mapped_takes IsHeld value 7 (λ n. Timestamp (cast_signed w64 n)) code64 (λ n h. (signed64 n h, ap (λ m. 7 ∷ number m) (of_z-to_z w64 n h))))
    (nothing_takes IsHeld value k))))))))

numeric_again : (n : ℤ) (rest : List ℕ) → FitsSigned w128 n → numeric_at (wide (cast_unsigned w128 n) ++ rest) ≡ Some (Numeric n, rest)
unfolding numeric_at wide
numeric_again n rest h =
    let m = cast_unsigned w128 n in
    let lt : m < 2 ^ 128 = below128 n h in
    let low : m % 2 ^ 64 < 2 ^ 64 = omega arith in
    let high : m / 2 ^ 64 < 2 ^ 64 = omega (arith, lt) in
    let sum : m % 2 ^ 64 + m / 2 ^ 64 * 2 ^ 64 ≡ m = omega arith in
    rw ((both_code code64 code64).again (m % 2 ^ 64, m / 2 ^ 64) rest (low, high)) (ap (λ k. Some (Numeric (cast_signed w128 k), rest)) sum ∙ ap (λ z. Some (Numeric z, rest)) (to_z-of_z w128 n h))

value_again : (x : Value) (rest : List ℕ) → IsHeld x → tagged value_of (value x ++ rest) ≡ Some (x, rest)
unfolding value_of
value_again Null rest h = refl
value_again (Boolean false) rest h = refl
value_again (Boolean true) rest h = refl
value_again (Int64 n) rest h = rw (code64.again (cast_unsigned w64 n) rest (below64 n h)) (ap (λ z. Some (Int64 z, rest)) (to_z-of_z w64 n h))
value_again (Numeric n) rest h = numeric_again n rest h
value_again (Text bytes) rest h = rw (text_code.again bytes rest h) refl
value_again (Bytes bytes) rest h = rw (bytes_code.again bytes rest h) refl
value_again (Date n) rest h = rw (code32.again (cast_unsigned w32 n) rest (below32 n h)) (ap (λ z. Some (Date z, rest)) (to_z-of_z w32 n h))
value_again (Timestamp n) rest h = rw (code64.again (cast_unsigned w64 n) rest (below64 n h)) (ap (λ z. Some (Timestamp z, rest)) (to_z-of_z w64 n h))

held_code : IsCode IsHeld value (tagged value_of)
held_code = record { takes = tagged_takes IsHeld value value_of behind_takes; again = value_again }

-- ---- ranges

to_T : (b : Bool) → b ≡ true → T b
to_T true e = tt
to_T false e = absurd (true≢false (sym e))

from_T : (b : Bool) → T b → b ≡ true
from_T true t = refl
from_T false t = absurd t

pub le_from : (a b : ℤ) → int_le a b ≡ true → a ≤ℤ b
le_from a b e = record { le = to_T (int_le a b) e }

pub lt_from : (a b : ℤ) → int_lt a b ≡ true → a <ℤ b
lt_from a b e = record { lt = to_T (int_lt a b) e }

int64_from : (n : ℤ) → (int_le (pos 0 -ℤ pos 9223372036854775808) n && int_lt n (pos 9223372036854775808)) ≡ true → FitsSigned w64 n
int64_from (pos n) e = let l = ltb-true n 9223372036854775808 (and_parts (int_le (pos 0 -ℤ pos 9223372036854775808) (pos n)) (int_lt (pos n) (pos 9223372036854775808)) e).1 in record { sfits = omega (arith, l) }
int64_from (negsuc n) e = let l = leb-true n 9223372036854775807 (and_parts (int_le (pos 0 -ℤ pos 9223372036854775808) (negsuc n)) (int_lt (negsuc n) (pos 9223372036854775808)) e).0 in record { sfits = omega (arith, l) }

int64_to : (n : ℤ) → FitsSigned w64 n → (int_le (pos 0 -ℤ pos 9223372036854775808) n && int_lt n (pos 9223372036854775808)) ≡ true
int64_to (pos n) h = and_from (int_le (pos 0 -ℤ pos 9223372036854775808) (pos n)) (int_lt (pos n) (pos 9223372036854775808)) refl (let l = h.sfits in lt-ltb n 9223372036854775808 (omega (arith, l)))
int64_to (negsuc n) h = and_from (int_le (pos 0 -ℤ pos 9223372036854775808) (negsuc n)) (int_lt (negsuc n) (pos 9223372036854775808)) (let l = h.sfits in le-leb n 9223372036854775807 (omega (arith, l))) refl

bytes_from : (bs : List ℕ) → are_bytes bs ≡ true → IsInRange (Bytes bs)
bytes_from [] e i = omega arith
bytes_from (b ∷ bs) e zero = ltb-true b 256 (and_parts (ltb b 256) (are_bytes bs) e).0
bytes_from (b ∷ bs) e (suc i) = bytes_from bs (and_parts (ltb b 256) (are_bytes bs) e).1 i

bytes_to : (bs : List ℕ) → IsInRange (Bytes bs) → are_bytes bs ≡ true
bytes_to [] h = refl
bytes_to (b ∷ bs) h = and_from (ltb b 256) (are_bytes bs) (lt-ltb b 256 (h 0)) (bytes_to bs (λ i. h (suc i)))

bytes_are : (bs : List ℕ) → AllByRecursion (λ b. b < 256) bs → are_bytes bs ≡ true
bytes_are [] h = refl
bytes_are (b ∷ bs) h = and_from (ltb b 256) (are_bytes bs) (lt-ltb b 256 h.0) (bytes_are bs h.1)

pub in_range : (x : Value) → is_in_range x ≡ true → IsInRange x
in_range Null e = tt
in_range (Boolean b) e = tt
in_range (Int64 n) e = int64_from n e
in_range (Numeric n) e =
    let p = and_parts (int_lt (pos 0 -ℤ pos 100000000000000000000000000000000000000) n) (int_lt n (pos 100000000000000000000000000000000000000)) e in
    (lt_from _ _ p.0, lt_from _ _ p.1)
in_range (Text t) e = tt
in_range (Bytes b) e = bytes_from b e
in_range (Date d) e = let p = and_parts (int_le (pos 0 -ℤ pos 719162) d) (int_le d (pos 2932896)) e in (le_from _ _ p.0, le_from _ _ p.1)
in_range (Timestamp t) e = let p = and_parts (int_le (pos 0 -ℤ pos 62135596800000000) t) (int_le t (pos 253402300799999999)) e in (le_from _ _ p.0, le_from _ _ p.1)

pub is_ranged : (x : Value) → IsInRange x → is_in_range x ≡ true
is_ranged Null h = refl
is_ranged (Boolean b) h = refl
is_ranged (Int64 n) h = int64_to n h
is_ranged (Numeric n) h = and_from _ _ (from_T _ h.0.lt) (from_T _ h.1.lt)
is_ranged (Text t) h = refl
is_ranged (Bytes b) h = bytes_to b h
is_ranged (Date d) h = and_from _ _ (from_T _ h.0.le) (from_T _ h.1.le)
is_ranged (Timestamp t) h = and_from _ _ (from_T _ h.0.le) (from_T _ h.1.le)

date_fits : (d : ℤ) → (pos 0 -ℤ pos 719162) ≤ℤ d → d ≤ℤ pos 2932896 → FitsSigned w32 d
date_fits (pos n) a b = fits_signed_from_abs w32 (pos n) (let l = leb-true n 2932896 (from_T _ b.le) in omega (arith, l))
date_fits (negsuc n) a b = fits_signed_from_abs w32 (negsuc n) (let l = leb-true n 719161 (from_T _ a.le) in omega (arith, l))

moment_fits : (t : ℤ) → (pos 0 -ℤ pos 62135596800000000) ≤ℤ t → t ≤ℤ pos 253402300799999999 → FitsSigned w64 t
moment_fits (pos n) a b = fits_signed_from_abs w64 (pos n) (let l = leb-true n 253402300799999999 (from_T _ b.le) in omega (arith, l))
moment_fits (negsuc n) a b = fits_signed_from_abs w64 (negsuc n) (let l = leb-true n 62135596799999999 (from_T _ a.le) in omega (arith, l))

numeric_fits : (t : ℤ) → (pos 0 -ℤ pos 100000000000000000000000000000000000000) <ℤ t → t <ℤ pos 100000000000000000000000000000000000000 → FitsSigned w128 t
numeric_fits (pos n) a b = fits_signed_from_abs w128 (pos n) (let l = ltb-true n 100000000000000000000000000000000000000 (from_T _ b.lt) in omega (arith, l))
numeric_fits (negsuc n) a b = fits_signed_from_abs w128 (negsuc n) (let l = ltb-true n 99999999999999999999999999999999999999 (from_T _ a.lt) in omega (arith, l))

is_value : (x : Value) → IsHeld x → is_in_range x ≡ true → IsValue x
is_value Null h e = tt
is_value (Boolean b) h e = tt
is_value (Int64 n) h e = h
is_value (Numeric n) h e = in_range (Numeric n) e
is_value (Text t) h e = h
is_value (Bytes b) h e = h
is_value (Date d) h e = in_range (Date d) e
is_value (Timestamp t) h e = in_range (Timestamp t) e

is_held : (x : Value) → IsValue x → IsHeld x × (is_in_range x ≡ true)
is_held Null h = (tt, refl)
is_held (Boolean b) h = (tt, refl)
is_held (Int64 n) h = (h, int64_to n h)
is_held (Numeric n) h = (numeric_fits n h.0 h.1, is_ranged (Numeric n) h)
is_held (Text t) h = (h, refl)
is_held (Bytes b) h = (h, bytes_are b h.1)
is_held (Date d) h = (date_fits d h.0 h.1, is_ranged (Date d) h)
is_held (Timestamp t) h = (moment_fits t h.0 h.1, is_ranged (Timestamp t) h)

pub value_code : IsCode IsValue value value_at
unfolding value_at
value_code = checked_code IsValue is_in_range is_value is_held held_code

pub cell_code : IsCode IsCell cell cell_at
unfolding cell_at
cell_code =
    mapped_code IsCell cell (λ (z : List ℕ × Value). record { column = z.0; value = z.1 }) (λ (c : Cell). (c.column, c.value))
    (λ a h. (record { column = h.0; value = h.1 }, refl)) (λ c h. ((h.column, h.value), refl, refl)) (both_code text_code value_code)
