-- Names and lists of names; two names are the same where they are the same bytes, in any case as they stand (the naming rules of Spanner's schema pages, but for case, which is this project's own).
use Rattle.std.specs.Prelude.{◌≡◌, ℕ, List, [], ◌∷◌, ◌++◌, Some, None, cond, Bool, true, false, is_some}
use Rattle.std.specs.declared.option.Option.{Option}
use Rattle.std.specs.Ordering.{nat_cmp}
use Rattle.std.specs.Cmp.Lexicographic.{slice_cmp}
use Rattle.std.specs.BTreeMap.{BTreeMap, is_at, get}
use Rattle.cs_types.specs.declared.cells.Cell.{Cell}

-- whether two names are the same bytes
abbrev pub is_same : List ℕ → List ℕ → Bool
is_same a b = is_at (slice_cmp nat_cmp a) b

-- whether a name stands in a list
abbrev pub is_among : List ℕ → List (List ℕ) → Bool
is_among name [] = false
is_among name (n ∷ ns) = cond (is_same n name) true (is_among name ns)

-- the first name of a list that stands among the earlier ones
abbrev pub first_again : List (List ℕ) → List (List ℕ) → Option (List ℕ)
first_again earlier [] = None
first_again earlier (n ∷ ns) = cond (is_among n earlier) (Some n) (first_again (earlier ++ n ∷ []) ns)

-- the columns that cells stand for, in their order
abbrev pub columns_of : List Cell → List (List ℕ)
columns_of [] = []
columns_of (c ∷ cs) = c.column ∷ columns_of cs

-- the set has just the names of the list
abbrev pub HoldsNames : List (List ℕ) → BTreeMap (List ℕ) (Unit {0}) → Type 0
HoldsNames names set = (n : List ℕ) → is_some (get (slice_cmp nat_cmp) set n) ≡ is_among n names
