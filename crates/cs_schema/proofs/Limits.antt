-- A length that is not refused is within its range.
use Rattle.std.proofs.Common.{◌≡◌, ap, refl, ℕ, ◌≤◌, List, Some, None, cond, false, true, Bool, ◌&&◌, is_some, true≢false, nat_le, arith}
use Rattle.std.specs.Str.Parse.{digits_value}
use Rattle.cs_types.specs.Digits.{all_digits}
use Rattle.cs_ddl.specs.declared.tree.Size.{Size}
use Rattle.cs_ddl.specs.declared.tree.Size.TheVariants.{Max, Number}
use Rattle.cs_ddl.specs.declared.tree.TypeTree.{TypeTree}
use Rattle.cs_ddl.specs.declared.tree.TypeTree.TheVariants.{Bool as bool_tree, Int64 as int64_tree, Numeric as numeric_tree, Date as date_tree, Timestamp as timestamp_tree, Text as text_tree, Bytes as bytes_tree}
use Rattle.cs_schema.specs.Lengths.{length_of, size_of, no_length, limit_of, length_fault, type_of}
use Rattle.cs_schema.specs.Sound.{IsLengthTo, IsLimitOf}

length_within : (most : ℕ) (ds : List ℕ) → no_length (length_of most ds) ≡ None → IsLengthTo most (length_of most ds)
length_within most ds e = by (all_digits ds) (nat_le 1 (digits_value 10 ds)) (nat_le (digits_value 10 ds) most) refl refl e
  where
    by : (d a b : Bool) → nat_le 1 (digits_value 10 ds) ≡ a → nat_le (digits_value 10 ds) most ≡ b → no_length (cond d (cond (a && b) (Some (digits_value 10 ds)) None) None) ≡ None → IsLengthTo most (cond d (cond (a && b) (Some (digits_value 10 ds)) None) None)
    by true true true f g h = (grind arith, grind arith)
    by true true false f g h = absurd (true≢false (ap is_some h))
    by true false b f g h = absurd (true≢false (ap is_some h))
    by false a b f g h = absurd (true≢false (ap is_some h))

size_within : (most : ℕ) (s : Size) → 1 ≤ most → no_length (size_of most s) ≡ None → IsLengthTo most (size_of most s)
size_within most Max some e = (some, omega arith)
size_within most (Number ds) some e = length_within most ds e

pub limit_made : (ty : TypeTree) → length_fault ty ≡ None → IsLimitOf (type_of ty) (limit_of ty)
limit_made (text_tree s) e = size_within 2621440 s (omega arith) e
limit_made (bytes_tree s) e = size_within 10485760 s (omega arith) e
limit_made bool_tree e = refl
limit_made int64_tree e = refl
limit_made numeric_tree e = refl
limit_made date_tree e = refl
limit_made timestamp_tree e = refl
