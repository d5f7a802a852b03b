-- A value that a tree spells in a column of a type is NULL or of the type.
use Rattle.std.proofs.Common.{◌≡◌, ℕ, List, ℤ, Bool, is_some, true, false, if◌then◌else◌, Option, Some, None, Result, Ok, Err, refl, subst}
use Rattle.serde_json.specs.Data.{Data, Num}
use Rattle.serde_json.specs.Find.{as_null, as_bool, as_number, as_str, as_i64, is_float}
use Rattle.cs_types.specs.declared.column_type.ColumnType.{ColumnType}
use Rattle.cs_types.specs.declared.column_type.ColumnType.TheVariants.{Bool as bool_type, Int64 as int64_type, Numeric as numeric_type, Text as text_type, Bytes as bytes_type, Date as date_type, Timestamp as timestamp_type}
use Rattle.cs_types.specs.declared.value.Value.{Value}
use Rattle.cs_types.specs.declared.value.Value.TheVariants.{Null, Bool as Boolean, Int64, Numeric, Text, Bytes, Date, Timestamp}
use Rattle.cs_types.specs.declared.value_fault.ValueFault.{ValueFault}
use Rattle.cs_types.specs.Dates.{date_reading}
use Rattle.cs_types.specs.Integer.{integer_reading}
use Rattle.cs_types.specs.Numeric.{numeric_reading}
use Rattle.cs_types.specs.Timestamps.{moment_reading}
use Rattle.cs_types.specs.Value.{Reading, of_kind, held, or_range, number_first, of_decoded, bytes_reading, typed_reading, Spells, IsOfType}

abbrev refusal : ValueFault → Reading
refusal e = Err e

never : (e : ValueFault) (v : Value) → refusal e ≡ Ok v → ⊥
never e v h = cc

same_value : (a b : Value) (r : Reading) → r ≡ Ok a → r ≡ Ok b → a ≡ b
same_value a b r h k = cc

abbrev read_to : Value → Reading
read_to v = Ok v

-- what was read has a type, where each value that can be read has it
of_value : (ty : ColumnType) (w v : Value) → IsOfType ty w → read_to w ≡ Ok v → IsOfType ty v
of_value ty w v of h = subst (IsOfType ty) (same_value w v (read_to w) refl h) of

of_held : {A : Type 0} (ty : ColumnType) (make : A → Value) → ((a : A) → IsOfType ty (make a)) → (r : Result A ValueFault) (v : Value) → held make r ≡ Ok v → IsOfType ty v
of_held ty make of (Ok a) v h = of_value ty (make a) v (of a) h
of_held ty make of (Err e) v h = absurd (never e v h)

of_kinds : {A : Type 0} (ty : ColumnType) (f : A → Reading) → ((a : A) (v : Value) → f a ≡ Ok v → IsOfType ty v) → (o : Option A) (v : Value) → of_kind f o ≡ Ok v → IsOfType ty v
of_kinds ty f of None v h = absurd (never _ v h)
of_kinds ty f of (Some a) v h = of a v h

of_range : (o : Option ℤ) (v : Value) → or_range o ≡ Ok v → IsOfType int64_type v
of_range None v h = absurd (never _ v h)
of_range (Some n) v h = of_value int64_type (Int64 n) v refl h

of_float : (b : Bool) (o : Option ℤ) (e : ValueFault) (v : Value) → (if b then refusal e else or_range o) ≡ Ok v → IsOfType int64_type v
of_float true o e v h = absurd (never e v h)
of_float false o e v h = of_range o v h

of_number : (o : Option Num) (t : Option (List ℕ)) (v : Value) → number_first o t ≡ Ok v → IsOfType int64_type v
of_number None t v h = of_kinds int64_type (λ t. held Int64 (integer_reading t)) (λ t v h. of_held int64_type Int64 (λ n. refl) (integer_reading t) v h) t v h
of_number (Some n) t v h = of_float (is_float n) (as_i64 n) _ v h

of_bytes : {E : Type 0} (r : Result (List ℕ) E) (v : Value) → of_decoded r ≡ Ok v → IsOfType bytes_type v
of_bytes (Ok b) v h = of_value bytes_type (Bytes b) v refl h
of_bytes (Err e) v h = absurd (never _ v h)

of_typed : (ty : ColumnType) (d : Data) (v : Value) → typed_reading ty d ≡ Ok v → IsOfType ty v
of_typed bool_type d v h = of_kinds bool_type (λ b. Ok (Boolean b)) (λ b v h. of_value bool_type (Boolean b) v refl h) (as_bool d) v h
of_typed int64_type d v h = of_number (as_number d) (as_str d) v h
of_typed numeric_type d v h = of_kinds numeric_type (λ t. held Numeric (numeric_reading t)) (λ t v h. of_held numeric_type Numeric (λ n. refl) (numeric_reading t) v h) (as_str d) v h
of_typed text_type d v h = of_kinds text_type (λ t. Ok (Text t)) (λ t v h. of_value text_type (Text t) v refl h) (as_str d) v h
of_typed bytes_type d v h = of_kinds bytes_type bytes_reading (λ t v h. of_bytes _ v h) (as_str d) v h
of_typed date_type d v h = of_kinds date_type (λ t. held Date (date_reading t)) (λ t v h. of_held date_type Date (λ n. refl) (date_reading t) v h) (as_str d) v h
of_typed timestamp_type d v h = of_kinds timestamp_type (λ t. held Timestamp (moment_reading t)) (λ t v h. of_held timestamp_type Timestamp (λ n. refl) (moment_reading t) v h) (as_str d) v h

of_null : (ty : ColumnType) (b : Bool) (x : Reading) (v : Value) → (x ≡ Ok v → IsOfType ty v) → (if b then read_to Null else x) ≡ Ok v → IsOfType ty v
of_null ty true x v of h = of_value ty Null v tt h
of_null ty false x v of h = of h

pub of_type : (ty : ColumnType) (d : Data) (v : Value) → Spells ty d v → IsOfType ty v
of_type ty d v h = of_null ty (is_some (as_null d)) (typed_reading ty d) v (of_typed ty d v) h
