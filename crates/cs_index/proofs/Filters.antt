-- What a filter keeps of a list when its test changes at one place, and sums over what it keeps.
use Rattle.std.proofs.Common.{◌≡◌, ◌≢◌, ℕ, zero, suc, ◌+◌, Bool, true, false, cond, List, [], ◌∷◌, filter, sum_by, refl, sym, ap, ◌∙◌, subst, arith, All}
use Rattle.std.specs.List.Sorted.{IsPermutation}
use Rattle.std.proofs.lemmas.List.Sorted.{IsPermutation-refl, IsPermutation-sym, IsPermutation-cons, IsPermutation-trans, IsPermutation-middle}
use Rattle.std.proofs.lemmas.List.Sums.{sum_by-cons}
use Rattle.std.proofs.lemmas.List.Elements.{All-head, All-tail}
use Rattle.cs_steps.specs.Cursor.{IsAt}

module _ {A : Type 0} where
  pub stands_behind : (x : A) (xs : List A) (k : ℕ) (y : A) → IsAt xs k y → IsAt (x ∷ xs) (suc k) y
  stands_behind x xs k y h = (omega (arith, h.0), h.1)

  module _ (p q : A → Bool) where
    -- two tests that agree at each place keep the same elements
    pub filter_same : (xs : List A) → ((j : ℕ) (y : A) → IsAt xs j y → q y ≡ p y) → filter q xs ≡ filter p xs
    filter_same [] h = refl
    filter_same (x ∷ xs) h =
        let here : q x ≡ p x = h 0 x (omega arith, refl) in
        let there : filter q xs ≡ filter p xs = filter_same xs (λ j y s. h (suc j) y (stands_behind x xs j y s)) in
        ap (λ b. cond b (x ∷ filter q xs) (filter q xs)) here ∙ ap (λ l. cond (p x) (x ∷ l) l) there

    -- one that passes at one place more keeps one element more
    pub filter_one : (xs : List A) (k : ℕ) (x : A) → IsAt xs k x → p x ≡ false → q x ≡ true → ((j : ℕ) (y : A) → IsAt xs j y → j ≢ k → q y ≡ p y) → IsPermutation (x ∷ filter p xs) (filter q xs)
    filter_one [] k x s f t h = absurd (omega (arith, s.0))
    filter_one (y ∷ ys) zero x s f t h =
        let same : filter q ys ≡ filter p ys = filter_same ys (λ j z u. h (suc j) z (stands_behind y ys j z u) (omega arith)) in
        let e : y ≡ x = s.1 in
        let left : filter p (y ∷ ys) ≡ filter p ys = ap (λ b. cond b (y ∷ filter p ys) (filter p ys)) (ap p e ∙ f) in
        let right : filter q (y ∷ ys) ≡ x ∷ filter p ys = ap (λ b. cond b (y ∷ filter q ys) (filter q ys)) (ap q e ∙ t) ∙ (λ i. e i ∷ same i) in
        subst (λ l. IsPermutation (x ∷ l) (filter q (y ∷ ys))) (sym left) (subst (λ l. IsPermutation (x ∷ filter p ys) l) (sym right) (IsPermutation-refl (x ∷ filter p ys)))
    filter_one (y ∷ ys) (suc k) x s f t h =
        let here : q y ≡ p y = h 0 y (omega arith, refl) (omega arith) in
        let more = filter_one ys k x (omega (arith, s.0), s.1) f t (λ j z u n. h (suc j) z (stands_behind y ys j z u) (omega (arith, n))) in
        by (p y) (q y) here more
      where
        by : (b c : Bool) → c ≡ b → IsPermutation (x ∷ filter p ys) (filter q ys) → IsPermutation (x ∷ cond b (y ∷ filter p ys) (filter p ys)) (cond c (y ∷ filter q ys) (filter q ys))
        by true true e m = IsPermutation-trans (x ∷ y ∷ filter p ys) (y ∷ x ∷ filter p ys) (y ∷ filter q ys) (IsPermutation-sym (y ∷ x ∷ filter p ys) (x ∷ y ∷ filter p ys) (IsPermutation-middle (y ∷ []) x (filter p ys))) (IsPermutation-cons y (x ∷ filter p ys) (filter q ys) m)
        by false false e m = m
        by true false e m = cc
        by false true e m = cc

  -- what is nothing where the test fails is summed over what it keeps
  pub sum_kept : (p : A → Bool) (f : A → ℕ) → ((x : A) → p x ≡ false → f x ≡ 0) → (xs : List A) → sum_by f xs ≡ sum_by f (filter p xs)
  sum_kept p f h [] = refl
  sum_kept p f h (x ∷ xs) = sum_by-cons f x xs ∙ by (p x) refl (sum_kept p f h xs)
    where
      by : (b : Bool) → p x ≡ b → sum_by f xs ≡ sum_by f (filter p xs) → f x + sum_by f xs ≡ sum_by f (cond b (x ∷ filter p xs) (filter p xs))
      by true e k = ap (λ n. f x + n) k ∙ sym (sum_by-cons f x (filter p xs))
      by false e k = let z : f x ≡ 0 = h x e in omega (arith, z, k)

  -- and what a test keeps is summed as what is nothing where it fails
  pub sum_filter : (b : A → Bool) (f : A → ℕ) (xs : List A) → sum_by f (filter b xs) ≡ sum_by (λ x. cond (b x) (f x) 0) xs
  sum_filter b f [] = refl
  sum_filter b f (x ∷ xs) = by (b x) (sum_filter b f xs) ∙ sym (sum_by-cons (λ y. cond (b y) (f y) 0) x xs)
    where
      by : (t : Bool) → sum_by f (filter b xs) ≡ sum_by (λ y. cond (b y) (f y) 0) xs → sum_by f (cond t (x ∷ filter b xs) (filter b xs)) ≡ cond t (f x) 0 + sum_by (λ y. cond (b y) (f y) 0) xs
      by true k = sum_by-cons f x (filter b xs) ∙ ap (λ n. f x + n) k
      by false k = k ∙ omega arith

  pub sum_same : (f g : A → ℕ) (xs : List A) → All (λ x. f x ≡ g x) xs → sum_by f xs ≡ sum_by g xs
  sum_same f g [] h = refl
  sum_same f g (x ∷ xs) h = sum_by-cons f x xs ∙ (let a = All-head (λ y. f y ≡ g y) x xs h in let b = sum_same f g xs (All-tail (λ y. f y ≡ g y) x xs h) in (λ i. a i + b i)) ∙ sym (sum_by-cons g x xs)
