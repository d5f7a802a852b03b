-- Facts of all pairs of a list, and elements that one of their parts tells apart.
use Rattle.std.proofs.Common.{◌≡◌, ◌≢◌, ℕ, zero, suc, ◌-◌, ◌<◌, ◌≤◌, List, [], ◌∷◌, ◌++◌, map, length, get_or, Contains, ⊎_elim, sym, refl, ap, ◌∙◌, subst, arith}
use Rattle.std.specs.declared.cmp.Ordering.{Ordering}
use Rattle.std.specs.declared.cmp.Ordering.TheVariants.{Less, Equal, Greater}
use Rattle.std.specs.Ordering.{nat_cmp, MatchOrdering}
use Rattle.std.specs.List.{AllPairs}
use Rattle.std.proofs.lemmas.Cmp.{ranked}
use Rattle.std.proofs.lemmas.Bool.{cases_lt}
use Rattle.std.proofs.lemmas.List.{get_or_default, get_or-map, get_or_append_left, get_or-append_right, length-append, length-map}
use Rattle.std.proofs.lemmas.List.Elements.{Contains-get_or}
use Rattle.cs_place.specs.declared.part.Part.{Part}
use Rattle.cs_place.specs.Layout.{IsSoundLayout}

module _ {A : Type 0} (R : A → A → Type 0) where
  pub pairs_cons : (x : A) (xs : List A) → ((y : A) → Contains xs y → R x y) → AllPairs R xs → AllPairs R (x ∷ xs)
  pairs_cons x xs f h zero zero d l m = absurd (omega (arith, l))
  pairs_cons x xs f h zero (suc j) d l m = f (get_or xs j d) (Contains-get_or xs j d (omega (arith, m)))
  pairs_cons x xs f h (suc i) zero d l m = absurd (omega (arith, l))
  pairs_cons x xs f h (suc i) (suc j) d l m = h i j d (omega (arith, l)) (omega (arith, m))

  pub pairs_append : (xs ys : List A) → AllPairs R xs → AllPairs R ys → ((x y : A) → Contains xs x → Contains ys y → R x y) → AllPairs R (xs ++ ys)
  pairs_append xs ys h k f i j d l m =
      ⊎_elim
      (λ (early : j < length xs).
      let at_i = get_or_append_left xs ys d i (omega (arith, early, l)) in
      let at_j = get_or_append_left xs ys d j early in
      subst (λ z. R z (get_or (xs ++ ys) j d)) (sym at_i) (subst (λ z. R (get_or xs i d) z) (sym at_j) (h i j d l early)))
      (λ (late : length xs ≤ j). ⊎_elim (λ (here : i < length xs). across here late) (λ (there : length xs ≤ i). behind there late) (cases_lt i (length xs)))
      (cases_lt j (length xs))
    where
      across : i < length xs → length xs ≤ j → R (get_or (xs ++ ys) i d) (get_or (xs ++ ys) j d)
      across here late =
          let at_i = get_or_append_left xs ys d i here in
          let at_j = get_or-append_right xs ys (length xs) j d refl late in
          let inside : j - length xs < length ys = omega (arith, m, late, length-append xs ys) in
          subst (λ z. R z (get_or (xs ++ ys) j d)) (sym at_i) (subst (λ z. R (get_or xs i d) z) (sym at_j) (f (get_or xs i d) (get_or ys (j - length xs) d) (Contains-get_or xs i d here) (Contains-get_or ys (j - length xs) d inside)))

      behind : length xs ≤ i → length xs ≤ j → R (get_or (xs ++ ys) i d) (get_or (xs ++ ys) j d)
      behind there late =
          let at_i = get_or-append_right xs ys (length xs) i d refl there in
          let at_j = get_or-append_right xs ys (length xs) j d refl late in
          let inside : j - length xs < length ys = omega (arith, m, late, length-append xs ys) in
          subst (λ z. R z (get_or (xs ++ ys) j d)) (sym at_i) (subst (λ z. R (get_or ys (i - length xs) d) z) (sym at_j) (k (i - length xs) (j - length xs) d (omega (arith, l, there, late)) inside))

  -- another fact that follows for elements of the list
  pub pairs_more : (S : A → A → Type 0) (xs : List A) → ((x y : A) → Contains xs x → Contains xs y → R x y → S x y) → AllPairs R xs → AllPairs S xs
  pairs_more S xs f h i j d l m = f (get_or xs i d) (get_or xs j d) (Contains-get_or xs i d (omega (arith, l, m))) (Contains-get_or xs j d m) (h i j d l m)

pub pairs_map : {A B : Type 0} (R : B → B → Type 0) (f : A → B) (xs : List A) → AllPairs (λ x y. R (f x) (f y)) xs → AllPairs R (map f xs)
pairs_map R f [] h i j d l m = absurd (omega (arith, m))
pairs_map R f (x ∷ xs) h i j d l m =
    let inside : j < length (x ∷ xs) = omega (arith, m, length-map (x ∷ xs) f) in
    let at_i = get_or-map f (x ∷ xs) i x d (omega (arith, l, inside)) in
    let at_j = get_or-map f (x ∷ xs) j x d inside in
    subst (λ z. R z (get_or (map f (x ∷ xs)) j d)) (sym at_i) (subst (λ z. R (f (get_or (x ∷ xs) i x)) z) (sym at_j) (h i j x l inside))

-- elements that differ in what f gives of them are the same where it gives the same
pub one_with : {A B : Type 0} (f : A → B) (xs : List A) → AllPairs (λ a b. f a ≢ f b) xs → (a b : A) → Contains xs a → Contains xs b → f a ≡ f b → a ≡ b
one_with f xs h a b in_a in_b e = by (nat_cmp in_a.0 in_b.0) (ranked in_a.0 in_b.0 (nat_cmp in_a.0 in_b.0) refl)
  where
    at_b : get_or xs in_b.0 a ≡ b
    at_b = get_or_default xs in_b.0 a b in_b.1 ∙ in_b.2

    same : f (get_or xs in_a.0 a) ≡ f (get_or xs in_b.0 a)
    same = ap f in_a.2 ∙ e ∙ sym (ap f at_b)

    by : (o : Ordering) → MatchOrdering o (in_a.0 < in_b.0) (in_a.0 ≡ in_b.0) (in_b.0 < in_a.0) → a ≡ b
    by Less less = absurd (h in_a.0 in_b.0 a less in_b.1 same)
    by Equal place = sym in_a.2 ∙ ap (λ k. get_or xs k a) place ∙ at_b
    by Greater greater = absurd (h in_b.0 in_a.0 a greater in_a.1 (sym same))

-- the parts of a sound layout are told apart by their tokens
pub one_of_a_token : (created : ℕ) (parts : List Part) → IsSoundLayout created parts → (a b : Part) → Contains parts a → Contains parts b → a.token ≡ b.token → a ≡ b
one_of_a_token created parts h = one_with (λ (x : Part). x.token) parts h.tokens
