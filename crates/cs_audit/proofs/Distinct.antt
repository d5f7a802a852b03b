-- Lists in which nothing stands twice, and their filters.
use Rattle.std.proofs.Common.{◌≡◌, ◌⊎◌, zero, suc, Bool, true, false, cond, List, [], ◌∷◌, ◌++◌, Contains, filter, refl, sym, ap, subst, ◌∙◌, arith, inl, inr, true≢false}
use Rattle.std.proofs.lemmas.List.Elements.{Contains-append_left}
use Rattle.cs_types.specs.declared.change.Change.{Change}
use Rattle.cs_output.specs.Line.{change_line}
use Rattle.cs_audit.specs.Index.{DifferInLines}

-- nothing stands twice
abbrev pub IsOnce : {X : Type 0} → List X → Type 0
IsOnce [] = Unit {0}
IsOnce (x ∷ xs) = (Contains xs x → ⊥) × IsOnce xs

pub contains_head : {X : Type 0} (x : X) (xs : List X) → Contains (x ∷ xs) x
contains_head x xs = (0, omega arith, refl)

pub contains_tail : {X : Type 0} (x : X) (xs : List X) (y : X) → Contains xs y → Contains (x ∷ xs) y
contains_tail x xs y (k, lt, is) = (suc k, omega (arith, lt), is)

pub contains_cons : {X : Type 0} (x : X) (xs : List X) (y : X) → Contains (x ∷ xs) y → (x ≡ y) ⊎ Contains xs y
contains_cons x xs y (zero, lt, is) = inl is
contains_cons x xs y (suc k, lt, is) = inr (k, omega (arith, lt), is)

pub contains_none : {X : Type 0} (y : X) → Contains [] y → ⊥
contains_none y (k, lt, is) = omega (arith, lt)

pub once_from_lines : (wanted : List Change) → DifferInLines wanted → IsOnce wanted
once_from_lines [] differ = tt
once_from_lines (c ∷ wanted) differ = (
  λ has. differ 0 (suc has.0) c (omega arith) (omega (arith, has.1)) (ap change_line (sym has.2)),
  once_from_lines wanted (λ i j d less within. differ (suc i) (suc j) d (omega (arith, less)) (omega (arith, within))),
)

-- an element has one place
pub once_middle : {X : Type 0} (front back : List X) (x : X) → IsOnce (front ++ x ∷ back) → Contains front x → ⊥
once_middle {X = X} [] back x once has = contains_none x has
once_middle {X = X} (y ∷ front) back x once has = by (contains_cons y front x has) (λ later. once_middle front back x once.1 later)
  where
    by : (y ≡ x) ⊎ Contains front x → (Contains front x → ⊥) → ⊥
    by (inl same) more = once.0 (subst (λ z. Contains (front ++ x ∷ back) z) (sym same) (in_middle front back x))
      where
        in_middle : (f b : List X) (z : X) → Contains (f ++ z ∷ b) z
        in_middle [] b z = contains_head z b
        in_middle (w ∷ f) b z = contains_tail w (f ++ z ∷ b) z (in_middle f b z)
    by (inr later) more = more later

pub filter_contains : {X : Type 0} (p : X → Bool) (xs : List X) (y : X) → Contains (filter p xs) y → Contains xs y
filter_contains p [] y has = has
filter_contains p (x ∷ xs) y has = by (p x) (λ later. filter_contains p xs y later) has
  where
    which : (Contains (filter p xs) y → Contains xs y) → (x ≡ y) ⊎ Contains (filter p xs) y → Contains (x ∷ xs) y
    which more (inl same) = subst (λ z. Contains (x ∷ xs) z) same (contains_head x xs)
    which more (inr later) = contains_tail x xs y (more later)

    by : (b : Bool) → (Contains (filter p xs) y → Contains xs y) → Contains (cond b (x ∷ filter p xs) (filter p xs)) y → Contains (x ∷ xs) y
    by true more has = which more (contains_cons x (filter p xs) y has)
    by false more has = contains_tail x xs y (more has)

pub contains_filter : {X : Type 0} (p : X → Bool) (xs : List X) (y : X) → p y ≡ true → Contains xs y → Contains (filter p xs) y
contains_filter p [] y t has = has
contains_filter p (x ∷ xs) y t has = by (p x) refl (λ later. contains_filter p xs y t later) (contains_cons x xs y has)
  where
    by : (b : Bool) → p x ≡ b → (Contains xs y → Contains (filter p xs) y) → (x ≡ y) ⊎ Contains xs y → Contains (cond b (x ∷ filter p xs) (filter p xs)) y
    by true e more (inl same) = subst (λ z. Contains (x ∷ filter p xs) z) same (contains_head x (filter p xs))
    by true e more (inr later) = contains_tail x (filter p xs) y (more later)
    by false e more (inl same) = absurd (true≢false (sym t ∙ ap p (sym same) ∙ e))
    by false e more (inr later) = more later

pub once_filter : {X : Type 0} (p : X → Bool) (xs : List X) → IsOnce xs → IsOnce (filter p xs)
once_filter p [] once = once
once_filter p (x ∷ xs) once = by (p x) (once_filter p xs once.1)
  where
    by : (b : Bool) → IsOnce (filter p xs) → IsOnce (cond b (x ∷ filter p xs) (filter p xs))
    by true more = (λ has. once.0 (filter_contains p xs x has), more)
    by false more = more

-- a filter's part before one of its elements is the filter of a part before it
pub filter_split : {X : Type 0} (p : X → Bool) (xs part more : List X) (c : X) → filter p xs ≡ part ++ c ∷ more → (front back : List X) × (xs ≡ front ++ c ∷ back) × (filter p front ≡ part)
filter_split {X = X} p [] [] more c e = cc
filter_split {X = X} p [] (y ∷ part) more c e = cc
filter_split {X = X} p (x ∷ xs) part more c e = by (p x) refl (λ part e. filter_split p xs part more c e) part e
  where
    by : (b : Bool) → p x ≡ b → ((part : List X) → filter p xs ≡ part ++ c ∷ more → (front back : List X) × (xs ≡ front ++ c ∷ back) × (filter p front ≡ part))
        → (part : List X) → cond b (x ∷ filter p xs) (filter p xs) ≡ part ++ c ∷ more → (front back : List X) × (x ∷ xs ≡ front ++ c ∷ back) × (filter p front ≡ part)
    by true t again [] e = let same : x ≡ c = cc in ([], xs, ap (λ y. y ∷ xs) same, refl)
    by true t again (y ∷ part) e =
        let same : x ≡ y = cc in
        let rest : filter p xs ≡ part ++ c ∷ more = cc in
        let (front, back, split, kept) = again part rest in
        (x ∷ front, back, ap (λ l. x ∷ l) split, ap (λ b. cond b (x ∷ filter p front) (filter p front)) t ∙ ap (λ l. x ∷ l) kept ∙ ap (λ z. z ∷ part) same)
    by false t again part e =
        let (front, back, split, kept) = again part e in
        (x ∷ front, back, ap (λ l. x ∷ l) split, ap (λ b. cond b (x ∷ filter p front) (filter p front)) t ∙ kept)

-- a front that has what stands before an element, and not the element, is what stands before it
pub front_is : {X : Type 0} (part rest front back : List X) (c : X) → part ++ rest ≡ front ++ c ∷ back → IsOnce (front ++ c ∷ back) → ((x : X) → Contains front x → Contains part x) → (Contains part c → ⊥) → part ≡ front
front_is {X = X} [] rest [] back c e once all none = refl
front_is {X = X} [] rest (f ∷ front) back c e once all none = absurd (contains_none f (all f (contains_head f front)))
front_is {X = X} (p ∷ part) rest [] back c e once all none = let same : p ≡ c = cc in absurd (none (subst (λ z. Contains (p ∷ part) z) same (contains_head p part)))
front_is {X = X} (p ∷ part) rest (f ∷ front) back c e once all none =
    let same : p ≡ f = cc in
    let more : part ++ rest ≡ front ++ c ∷ back = cc in
    let tail : part ≡ front = front_is part rest front back c more once.1 (λ x has. by x has (contains_cons p part x (all x (contains_tail f front x has)))) (λ has. none (contains_tail p part c has)) in
    cc (same, tail)
  where
    head : p ≡ f
    head = cc

    in_rest : (x : X) → Contains front x → Contains (front ++ c ∷ back) x
    in_rest x has = Contains-append_left front (c ∷ back) x has

    by : (x : X) → Contains front x → (p ≡ x) ⊎ Contains part x → Contains part x
    by x has (inl here) = absurd (once.0 (subst (λ z. Contains (front ++ c ∷ back) z) (sym here ∙ head) (in_rest x has)))
    by x has (inr later) = later
