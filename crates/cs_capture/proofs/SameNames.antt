-- Names among others, and lists of names in rising order that have the same members.
use Rattle.std.proofs.Common.{◌≡◌, ◌⊎◌, ℕ, Bool, true, false, cond, List, [], ◌∷◌, ⊎_elim, inl, inr, sym, refl, ap, ◌∙◌, subst, Contains, map, nat_cmp}
use Rattle.std.specs.List.{AllByRecursion}
use Rattle.std.specs.List.Sorted.{IsStrictlySortedBy}
use Rattle.std.specs.Cmp.{Equal-is}
use Rattle.std.specs.Cmp.Lexicographic.{slice_cmp, nat_list_cmp_total}
use Rattle.std.specs.Ordering.{ordering_reverse}
use Rattle.std.specs.declared.cmp.Ordering.TheVariants.{Less, Equal, Greater}
use Rattle.std.proofs.lemmas.Bool.{false≢true}
use Rattle.std.proofs.lemmas.Cmp.{tied_itself}
use Rattle.std.proofs.lemmas.Map.Lookups.{exact_bytes}
use Rattle.cs_types.specs.declared.cells.Cell.{Cell}
use Rattle.cs_types.specs.Names.{is_same, is_among, columns_of}
use Rattle.cs_types.specs.Members.{in_nil, in_head, in_tail, in_cons, in_map, from_map}

pub same_is : (a b : List ℕ) → is_same a b ≡ true → a ≡ b
same_is a b e = exact_bytes a b ((Equal-is (slice_cmp nat_cmp a b)).0 e)

pub same_itself : (a : List ℕ) → is_same a a ≡ true
same_itself a = (Equal-is (slice_cmp nat_cmp a a)).1 (tied_itself nat_list_cmp_total a)

pub among_in : (name : List ℕ) (names : List (List ℕ)) → is_among name names ≡ true → Contains names name
among_in name [] h = absurd (false≢true h)
among_in name (n ∷ names) h = by (is_same n name) refl h (among_in name names)
  where
    by : (b : Bool) → is_same n name ≡ b → cond b true (is_among name names) ≡ true → (is_among name names ≡ true → Contains names name) → Contains (n ∷ names) name
    by true e k f = subst (λ z. Contains (n ∷ names) z) (same_is n name e) (in_head n names)
    by false e k f = in_tail n name names (f k)

pub in_among : (name : List ℕ) (names : List (List ℕ)) → Contains names name → is_among name names ≡ true
in_among name [] h = absurd (in_nil name h)
in_among name (n ∷ names) h = by (is_same n name) refl (in_cons n name names h) (in_among name names)
  where
    by : (b : Bool) → is_same n name ≡ b → (name ≡ n) ⊎ Contains names name → (Contains names name → is_among name names ≡ true) → cond b true (is_among name names) ≡ true
    by true e k f = refl
    by false e (inl s) f = absurd (false≢true (sym e ∙ subst (λ z. is_same n z ≡ true) (sym s) (same_itself n)))
    by false e (inr k) f = f k

pub columns_are : (cells : List Cell) → columns_of cells ≡ map (λ c. c.column) cells
columns_are [] = refl
columns_are (c ∷ cells) = ap (λ l. c.column ∷ l) (columns_are cells)

-- the cell of a column
pub column_in : (name : List ℕ) (cells : List Cell) → is_among name (columns_of cells) ≡ true → (c : Cell) × Contains cells c × (name ≡ c.column)
column_in name cells h = from_map (λ (c : Cell). c.column) name cells (subst (λ l. Contains l name) (columns_are cells) (among_in name (columns_of cells) h))

pub in_columns : (c : Cell) (cells : List Cell) → Contains cells c → is_among c.column (columns_of cells) ≡ true
in_columns c cells h = in_among c.column (columns_of cells) (subst (λ l. Contains l c.column) (sym (columns_are cells)) (in_map (λ (c : Cell). c.column) c cells h))

-- two tests that follow from each other are one
pub both_ways : (a b : Bool) → (a ≡ true → b ≡ true) → (b ≡ true → a ≡ true) → a ≡ b
both_ways true b f g = sym (f refl)
both_ways false true f g = g refl
both_ways false false f g = refl

abbrev Below : List ℕ → List (List ℕ) → Type 0
Below x xs = AllByRecursion (λ y. slice_cmp nat_cmp x y ≡ Less) xs

below_all : (x y : List ℕ) (xs : List (List ℕ)) → Below x xs → Contains xs y → slice_cmp nat_cmp x y ≡ Less
below_all x y [] h i = absurd (in_nil y i)
below_all x y (z ∷ xs) h i = ⊎_elim (λ (s : y ≡ z). subst (λ w. slice_cmp nat_cmp x w ≡ Less) (sym s) h.0) (λ (j : Contains xs y). below_all x y xs h.1 j) (in_cons z y xs i)

less_equal : Less ≡ Equal → ⊥
less_equal e = cc

not_below_itself : (x : List ℕ) → slice_cmp nat_cmp x x ≡ Less → ⊥
not_below_itself x h = less_equal (sym h ∙ tied_itself nat_list_cmp_total x)

-- no two names are each below the other
not_both : (x y : List ℕ) → slice_cmp nat_cmp x y ≡ Less → slice_cmp nat_cmp y x ≡ Less → ⊥
not_both x y a b = greater_less (sym a ∙ nat_list_cmp_total.antisymm x y ∙ ap ordering_reverse b)
  where
    greater_less : Less ≡ Greater → ⊥
    greater_less e = cc

abbrev AreSorted : List (List ℕ) → Type 0
AreSorted names = IsStrictlySortedBy (slice_cmp nat_cmp) names

-- the first of two such lists are one
first_same : (x y : List ℕ) (xs ys : List (List ℕ)) → Below x xs → Below y ys → Contains (y ∷ ys) x → Contains (x ∷ xs) y → x ≡ y
first_same x y xs ys a b i j = ⊎_elim
    (λ (s : x ≡ y). s)
    (λ (k : Contains ys x). ⊎_elim
    (λ (s : y ≡ x). sym s)
    (λ (l : Contains xs y). absurd (not_both x y (below_all x y xs a l) (below_all y x ys b k)))
    (in_cons x y xs j))
    (in_cons y x ys i)

pub same_sorted : (a b : List (List ℕ)) → AreSorted a → AreSorted b → ((name : List ℕ) → Contains a name → Contains b name) → ((name : List ℕ) → Contains b name → Contains a name) → a ≡ b
unfolding IsStrictlySortedBy
same_sorted [] [] s t f g = refl
same_sorted [] (y ∷ ys) s t f g = absurd (in_nil y (g y (in_head y ys)))
same_sorted (x ∷ xs) [] s t f g = absurd (in_nil x (f x (in_head x xs)))
same_sorted (x ∷ xs) (y ∷ ys) s t f g =
    let first : x ≡ y = first_same x y xs ys s.0 t.0 (f x (in_head x xs)) (g y (in_head y ys)) in
    λ i. first i ∷ same_sorted xs ys s.1 t.1 (λ n j. rest n xs ys x y s.0 first j (f n (in_tail x n xs j))) (λ n j. rest n ys xs y x t.0 (sym first) j (g n (in_tail y n ys j))) i
  where
    rest : (n : List ℕ) (ns ks : List (List ℕ)) (a b : List ℕ) → Below a ns → a ≡ b → Contains ns n → Contains (b ∷ ks) n → Contains ks n
    rest n ns ks a b below e i j = ⊎_elim
        (λ (s : n ≡ b). absurd (not_below_itself n (subst (λ z. slice_cmp nat_cmp z n ≡ Less) (e ∙ sym s) (below_all a n ns below i))))
        (λ (k : Contains ks n). k)
        (in_cons b n ks j)
