-- Cells of which no column stands twice, and their rising order once they are sorted.
use Rattle.std.proofs.Common.{◌≡◌, ◌+◌, ◌<◌, ℕ, suc, List, [], ◌∷◌, ◌++◌, length, get_or, take, drop, map, Bool, true, false, not, cond, ◌||◌, Ordering, Less, Equal, Greater, nat_cmp, is_lt, is_eq, refl, ap, ◌∙◌, sym, subst, drop-cons, add-one, arith, All}
use Rattle.std.specs.Cmp.{IsEquivalence, eq_by_cmp_equiv, on_total}
use Rattle.std.specs.Cmp.Lexicographic.{slice_cmp, nat_list_cmp_total}
use Rattle.std.specs.List.{AllByRecursion, IsDistinct, list_any}
use Rattle.std.specs.List.Sorted.{IsStrictlySortedBy, IsSortedByKey, IsPermutation}
use Rattle.std.specs.Ordering.{ordering_reverse, eq_by_cmp}
use Rattle.std.proofs.lemmas.List.{take_more, take-append-drop}
use Rattle.std.proofs.lemmas.List.Folds.{list_any-append}
use Rattle.std.proofs.lemmas.Map.Keys.{IsDistinct-push, IsDistinct-IsPermutation, apart_from_distinct}
use Rattle.cs_types.specs.declared.cells.Cell.{Cell}
use Rattle.cs_types.specs.Value.{IsInRange}
use Rattle.cs_types.specs.Cells.{IsRising, same_column, AreApart, IsFirstTwice, IsFirstOutside}

columns_same : IsEquivalence same_column
columns_same = eq_by_cmp_equiv (on_total (λ (c : Cell). c.column) nat_list_cmp_total)

bytes_same : IsEquivalence (eq_by_cmp (slice_cmp nat_cmp))
bytes_same = eq_by_cmp_equiv nat_list_cmp_total

pub none_apart : AreApart []
unfolding IsDistinct
none_apart = tt

pub split_at : (cells : List Cell) (i : ℕ) (cell : Cell) → cell ≡ get_or cells i cell → i < length cells → cells ≡ take i cells ++ cell ∷ drop (i + 1) cells
split_at cells i cell is lt = sym (take-append-drop i cells) ∙ ap (λ (rest : List Cell). take i cells ++ rest) (drop-cons cells i cell lt ∙ rw (← is, add-one) refl)

more : (cells : List Cell) (i : ℕ) (cell : Cell) → cell ≡ get_or cells i cell → i < length cells → take (i + 1) cells ≡ take i cells ++ cell ∷ []
more cells i cell is lt = take_more cells i cell lt ∙ ap (λ (c : Cell). take i cells ++ c ∷ []) (sym is)

pub pushed_apart : (cells : List Cell) (i : ℕ) (cell : Cell) → cell ≡ get_or cells i cell → i < length cells → AreApart (take i cells) → list_any (same_column cell) (take i cells) ≡ false → AreApart (take (i + 1) cells)
pushed_apart cells i cell is lt apart none = subst AreApart (sym (more cells i cell is lt)) (IsDistinct-push columns_same (take i cells) cell apart none)

either : (a b : Bool) → cond a true b ≡ (b || (a || false))
either true true = refl
either true false = refl
either false true = refl
either false false = refl

pub pushed_seen : (cells : List Cell) (i : ℕ) (cell : Cell) (q : List ℕ) (now before : Bool) → cell ≡ get_or cells i cell → i < length cells → now ≡ cond (is_eq (slice_cmp nat_cmp cell.column q)) true before
    → before ≡ list_any (λ (c : Cell). is_eq (slice_cmp nat_cmp q c.column)) (take i cells) → now ≡ list_any (λ (c : Cell). is_eq (slice_cmp nat_cmp q c.column)) (take (i + 1) cells)
pushed_seen cells i cell q now before is lt step had =
    let test : Cell → Bool = λ (c : Cell). is_eq (slice_cmp nat_cmp q c.column) in
    let grown = ap (list_any (λ (c : Cell). is_eq (slice_cmp nat_cmp q c.column))) (more cells i cell is lt) ∙ list_any-append (λ (c : Cell). is_eq (slice_cmp nat_cmp q c.column)) (take i cells) (cell ∷ []) in
    let same : is_eq (slice_cmp nat_cmp cell.column q) ≡ is_eq (slice_cmp nat_cmp q cell.column) = bytes_same.symm cell.column q in
    step ∙ either (is_eq (slice_cmp nat_cmp cell.column q)) before ∙ rw (same, had) (sym grown)

pub was_true : (b : Bool) → not b ≡ false → b ≡ true
was_true true h = refl
was_true false h = cc

pub was_false : (b : Bool) → not b ≡ true → b ≡ false
was_false true h = cc
was_false false h = refl

pub first_twice : (cells : List Cell) (i : ℕ) (cell : Cell) (column : List ℕ) → cell ≡ get_or cells i cell → i < length cells → AreApart (take i cells) → list_any (same_column cell) (take i cells) ≡ true → cell.column ≡ column → IsFirstTwice cells column
first_twice cells i cell column is lt apart again named =
    record { before = take i cells; cell = cell; after = drop (i + 1) cells; split = split_at cells i cell is lt; named = named; again = again; first = apart }

pub first_outside : (cells : List Cell) (i : ℕ) (cell : Cell) (column : List ℕ) → cell ≡ get_or cells i cell → i < length cells → All (λ (c : Cell). IsInRange c.value) (take i cells) → ¬ (IsInRange cell.value) → cell.column ≡ column → IsFirstOutside cells column
first_outside cells i cell column is lt within outside named =
    record { before = take i cells; cell = cell; after = drop (i + 1) cells; split = split_at cells i cell is lt; named = named; outside = outside; first = within }

above_all : (x y : List ℕ) (zs : List (List ℕ)) → slice_cmp nat_cmp x y ≡ Less → AllByRecursion (λ z. slice_cmp nat_cmp y z ≡ Less) zs → AllByRecursion (λ z. slice_cmp nat_cmp x z ≡ Less) zs
above_all x y [] h all = tt
above_all x y (z ∷ zs) h all = (nat_list_cmp_total.trans x y z h all.0, above_all x y zs h all.1)

rising_from_adjacent : (cells : List Cell) → ((k : ℕ) (d : Cell) → suc k < length cells → slice_cmp nat_cmp (get_or cells k d).column (get_or cells (suc k) d).column ≡ Less) → IsRising cells
unfolding IsStrictlySortedBy
rising_from_adjacent [] h = tt
rising_from_adjacent (x ∷ []) h = (tt, tt)
rising_from_adjacent (x ∷ y ∷ cells) h =
    let rest : IsRising (y ∷ cells) = rising_from_adjacent (y ∷ cells) (λ k d lt. h (suc k) d (omega arith)) in
    let first : slice_cmp nat_cmp x.column y.column ≡ Less = h 0 x (omega arith) in
    ((first, above_all x.column y.column (map (λ c. c.column) cells) first rest.0), rest)

less_of : (x y : List ℕ) (o : Ordering) → slice_cmp nat_cmp x y ≡ o → is_lt (slice_cmp nat_cmp y x) ≡ false → is_eq (slice_cmp nat_cmp x y) ≡ false → o ≡ Less
less_of x y Less e f n = refl
less_of x y Equal e f n = let equal : true ≡ false = sym (ap is_eq e) ∙ n in cc
less_of x y Greater e f n =
    let back : slice_cmp nat_cmp y x ≡ Less = nat_list_cmp_total.antisymm y x ∙ ap ordering_reverse e in
    let less : true ≡ false = sym (ap is_lt back) ∙ f in cc

-- sorted cells rise where no column stands twice
pub rising_from_sorted : (given cells : List Cell) → AreApart given → IsPermutation given cells → IsSortedByKey (λ c. c.column) (slice_cmp nat_cmp) cells → IsRising cells
rising_from_sorted given cells apart same sorted =
    let differ = IsDistinct-IsPermutation same_column columns_same.symm given cells same apart in
    rising_from_adjacent cells (λ k d lt.
    let within : k + 1 < length cells = omega arith in
    let next = rw add-one at (sorted k d (omega arith) within) in
    less_of (get_or cells k d).column (get_or cells (suc k) d).column _ refl next (apart_from_distinct same_column cells k (suc k) d differ (omega arith) lt))
