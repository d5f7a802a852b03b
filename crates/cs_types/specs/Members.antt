-- Lemmas over members of lists, filters, maps, and lists each pair of which is related. They are
-- stated once for all crates.
use Rattle.std.proofs.Common.{◌≡◌, ◌⊎◌, ℕ, zero, suc, ◌≤◌, Bool, true, false, cond, List, [], ◌∷◌, ◌++◌, length, ⊎_elim, inl, inr, sym, refl, ap, ◌∙◌, subst, arith, true≢false, bytes_eq, filter, flat_map, map, Contains, All, AllPairs, append_assoc}
use Rattle.std.specs.Prelude.{⊤}
use Rattle.std.specs.Cmp.Lexicographic.{bytes_decides}
use Rattle.std.proofs.lemmas.List.Elements.{Contains-get_or, Contains-append_left, Contains-append_right, Contains-append_cases}

pub bytes_same : (xs ys : List ℕ) → bytes_eq xs ys ≡ true → xs ≡ ys
bytes_same xs ys h = (bytes_decides xs ys).0 h

pub bytes_itself : (xs : List ℕ) → bytes_eq xs xs ≡ true
bytes_itself xs = (bytes_decides xs xs).1 refl

-- R holds of each element and each later one
abbrev pub Pairwise : {A : Type 0} → (A → A → Type 0) → List A → Type 0
Pairwise R [] = ⊤
Pairwise R (x ∷ xs) = ((y : _) → Contains xs y → R x y) × Pairwise R xs

module _ {A : Type 0} where
  pub in_nil : (x : A) → Contains [] x → ⊥
  in_nil x h = grind arith

  pub in_head : (x : A) (xs : List A) → Contains (x ∷ xs) x
  in_head x xs = (0, omega arith, refl)

  pub in_tail : (x y : A) (xs : List A) → Contains xs y → Contains (x ∷ xs) y
  in_tail x y xs h = (suc h.0, omega (arith, h.1), h.2)

  pub in_cons : (x y : A) (xs : List A) → Contains (x ∷ xs) y → (y ≡ x) ⊎ Contains xs y
  in_cons x y xs (zero, l, e) = inl (sym e)
  in_cons x y xs (suc k, l, e) = inr (k, omega arith, e)

  pub in_filter : (p : A → Bool) (x : A) (xs : List A) → Contains xs x → p x ≡ true → Contains (filter p xs) x
  in_filter p x [] h t = h
  in_filter p x (y ∷ ys) h t = by (p y) refl (in_cons y x ys h) (λ k. in_filter p x ys k t)
    where
      by : (b : Bool) → p y ≡ b → (x ≡ y) ⊎ Contains ys x → (Contains ys x → Contains (filter p ys) x) → Contains (cond b (y ∷ filter p ys) (filter p ys)) x
      by true e (inl s) f = subst (λ z. Contains (y ∷ filter p ys) z) (sym s) (in_head y (filter p ys))
      by false e (inl s) f = absurd (true≢false (sym t ∙ ap p s ∙ e))
      by true e (inr k) f = in_tail y x (filter p ys) (f k)
      by false e (inr k) f = f k

  pub from_filter : (p : A → Bool) (x : A) (xs : List A) → Contains (filter p xs) x → Contains xs x × (p x ≡ true)
  from_filter p x [] h = absurd (in_nil x h)
  from_filter p x (y ∷ ys) h = by (p y) refl h (from_filter p x ys)
    where
      by : (b : Bool) → p y ≡ b → Contains (cond b (y ∷ filter p ys) (filter p ys)) x → (Contains (filter p ys) x → Contains ys x × (p x ≡ true)) → Contains (y ∷ ys) x × (p x ≡ true)
      by true e k f =
          ⊎_elim
          (λ (s : x ≡ y). (subst (λ z. Contains (y ∷ ys) z) (sym s) (in_head y ys), ap p s ∙ e))
          (λ (j : Contains (filter p ys) x). (in_tail y x ys (f j).0, (f j).1))
          (in_cons y x (filter p ys) k)
      by false e k f = (in_tail y x ys (f k).0, (f k).1)

  pub filter_shorter : (p : A → Bool) (xs : List A) → length (filter p xs) ≤ length xs
  filter_shorter p [] = omega arith
  filter_shorter p (x ∷ xs) = by (p x) (filter_shorter p xs)
    where
      by : (b : Bool) → length (filter p xs) ≤ length xs → length (cond b (x ∷ filter p xs) (filter p xs)) ≤ suc (length xs)
      by true h = omega arith
      by false h = omega arith

  -- what holds of each member holds of each element
  pub all_in : (P : A → Type 0) (xs : List A) → ((x : A) → Contains xs x → P x) → All P xs
  all_in P xs f k d lt = f _ (Contains-get_or xs k d lt)

  pub snoc_append : (xs ys : List A) (x : A) → (xs ++ x ∷ []) ++ ys ≡ xs ++ (x ∷ ys)
  snoc_append xs ys x = append_assoc xs (x ∷ []) ys

  module _ (R : A → A → Type 0) where
    -- the same by places
    pub pairs_to : (xs : List A) → Pairwise R xs → AllPairs R xs
    pairs_to [] h i j d lt in_j = absurd (omega arith)
    pairs_to (x ∷ xs) h zero zero d lt in_j = absurd (omega arith)
    pairs_to (x ∷ xs) h zero (suc j) d lt in_j = h.0 _ (Contains-get_or xs j d (omega arith))
    pairs_to (x ∷ xs) h (suc i) zero d lt in_j = absurd (omega arith)
    pairs_to (x ∷ xs) h (suc i) (suc j) d lt in_j = pairs_to xs h.1 i j d (omega arith) (omega arith)

    pub pairs_from : (xs : List A) → AllPairs R xs → Pairwise R xs
    pairs_from [] h = tt
    pairs_from (x ∷ xs) h = (λ y i. subst (R x) i.2 (h 0 (suc i.0) y (omega arith) (omega (arith, i.1))), pairs_from xs (λ i j d lt in_j. h (suc i) (suc j) d (omega arith) (omega arith)))

    pub pairs_append : (xs ys : List A) → Pairwise R xs → Pairwise R ys → ((x y : A) → Contains xs x → Contains ys y → R x y) → Pairwise R (xs ++ ys)
    pairs_append [] ys h k c = k
    pairs_append (x ∷ xs) ys h k c = (
      λ y j. ⊎_elim (λ (l : Contains xs y). h.0 y l) (λ (r : Contains ys y). c x y (in_head x xs) r) (Contains-append_cases xs ys y j),
      pairs_append xs ys h.1 k (λ a b i j. c a b (in_tail x a xs i) j),
    )

    pub pairs_right : (xs ys : List A) → Pairwise R (xs ++ ys) → Pairwise R ys
    pairs_right [] ys h = h
    pairs_right (x ∷ xs) ys h = pairs_right xs ys h.1

    pub pairs_left : (xs ys : List A) → Pairwise R (xs ++ ys) → Pairwise R xs
    pairs_left [] ys h = tt
    pairs_left (x ∷ xs) ys h = (λ y j. h.0 y (Contains-append_left xs ys y j), pairs_left xs ys h.1)

    pub pairs_across : (xs ys : List A) → Pairwise R (xs ++ ys) → (x y : A) → Contains xs x → Contains ys y → R x y
    pairs_across [] ys h x y i j = absurd (in_nil x i)
    pairs_across (z ∷ xs) ys h x y i j =
        ⊎_elim
        (λ (s : x ≡ z). subst (λ w. R w y) (sym s) (h.0 y (Contains-append_right xs ys y j)))
        (λ (k : Contains xs x). pairs_across xs ys h.1 x y k j)
        (in_cons z x xs i)

    -- of two members, one stands before the other or they are one
    pub pairs_two : (xs : List A) → Pairwise R xs → (x y : A) → Contains xs x → Contains xs y → (x ≡ y) ⊎ (R x y ⊎ R y x)
    pairs_two [] h x y i j = absurd (in_nil x i)
    pairs_two (z ∷ xs) h x y i j = by (in_cons z x xs i) (in_cons z y xs j) (pairs_two xs h.1 x y)
      where
        by : (x ≡ z) ⊎ Contains xs x → (y ≡ z) ⊎ Contains xs y → (Contains xs x → Contains xs y → (x ≡ y) ⊎ (R x y ⊎ R y x)) → (x ≡ y) ⊎ (R x y ⊎ R y x)
        by (inl a) (inl b) f = inl (a ∙ sym b)
        by (inl a) (inr k) f = inr (inl (subst (λ w. R w y) (sym a) (h.0 y k)))
        by (inr k) (inl b) f = inr (inr (subst (λ w. R w x) (sym b) (h.0 x k)))
        by (inr k) (inr l) f = f k l

    pub pairs_filter : (p : A → Bool) (xs : List A) → Pairwise R xs → Pairwise R (filter p xs)
    pairs_filter p [] h = tt
    pairs_filter p (x ∷ xs) h = by (p x) (pairs_filter p xs h.1)
      where
        by : (b : Bool) → Pairwise R (filter p xs) → Pairwise R (cond b (x ∷ filter p xs) (filter p xs))
        by true k = (λ y j. h.0 y (from_filter p y xs j).0, k)
        by false k = k

  -- a relation that the other one gives on the members
  pub pairs_weaker : (R S : A → A → Type 0) (xs : List A) → ((x y : A) → Contains xs x → Contains xs y → R x y → S x y) → Pairwise R xs → Pairwise S xs
  pairs_weaker R S [] f h = tt
  pairs_weaker R S (x ∷ xs) f h = (
    λ y j. f x y (in_head x xs) (in_tail x y xs j) (h.0 y j),
    pairs_weaker R S xs (λ a b i j. f a b (in_tail x a xs i) (in_tail x b xs j)) h.1,
  )

module _ {A B : Type 0} where
  pub in_flat : (f : B → List A) (x : A) (y : B) (ys : List B) → Contains ys y → Contains (f y) x → Contains (flat_map f ys) x
  in_flat f x y [] h k = absurd (in_nil y h)
  in_flat f x y (z ∷ ys) h k =
      ⊎_elim
      (λ (s : y ≡ z). Contains-append_left (f z) (flat_map f ys) x (subst (λ w. Contains (f w) x) s k))
      (λ (j : Contains ys y). Contains-append_right (f z) (flat_map f ys) x (in_flat f x y ys j k))
      (in_cons z y ys h)

  pub from_flat : (f : B → List A) (x : A) (ys : List B) → Contains (flat_map f ys) x → (y : B) × Contains ys y × Contains (f y) x
  from_flat f x [] h = absurd (in_nil x h)
  from_flat f x (z ∷ ys) h =
      ⊎_elim
      (λ (j : Contains (f z) x). (z, in_head z ys, j))
      (λ (j : Contains (flat_map f ys) x). let r = from_flat f x ys j in (r.0, in_tail z r.0 ys r.1, r.2))
      (Contains-append_cases (f z) (flat_map f ys) x h)

  pub in_map : (f : B → A) (y : B) (ys : List B) → Contains ys y → Contains (map f ys) (f y)
  in_map f y [] h = absurd (in_nil y h)
  in_map f y (z ∷ ys) h =
      ⊎_elim
      (λ (s : y ≡ z). subst (λ w. Contains (f z ∷ map f ys) (f w)) (sym s) (in_head (f z) (map f ys)))
      (λ (j : Contains ys y). in_tail (f z) (f y) (map f ys) (in_map f y ys j))
      (in_cons z y ys h)

  pub from_map : (f : B → A) (x : A) (ys : List B) → Contains (map f ys) x → (y : B) × Contains ys y × (x ≡ f y)
  from_map f x [] h = absurd (in_nil x h)
  from_map f x (z ∷ ys) h =
      ⊎_elim
      (λ (s : x ≡ f z). (z, in_head z ys, s))
      (λ (j : Contains (map f ys) x). let r = from_map f x ys j in (r.0, in_tail z r.0 ys r.1, r.2))
      (in_cons (f z) x (map f ys) h)
