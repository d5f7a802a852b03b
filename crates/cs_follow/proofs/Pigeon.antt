-- Different elements of a list are no more than the list has.
use Rattle.std.proofs.Common.{◌≡◌, ◌≢◌, ⊎_elim, ℕ, zero, suc, ◌<◌, ◌≤◌, List, [], ◌∷◌, length, get_or, sym, refl, subst, ap, ◌∙◌, arith, Contains}
use Rattle.cs_types.specs.Members.{Pairwise, in_nil, in_head, in_tail, in_cons}

module _ {A : Type 0} where
  -- the list without the element at a place
  abbrev without : ℕ → List A → List A
  without k [] = []
  without zero (u ∷ us) = us
  without (suc k) (u ∷ us) = u ∷ without k us

  without_length : (k : ℕ) (us : List A) → k < length us → suc (length (without k us)) ≡ length us
  without_length k [] l = absurd (omega (arith, l))
  without_length zero (u ∷ us) l = refl
  without_length (suc k) (u ∷ us) l = ap suc (without_length k us (omega (arith, l)))

  -- another element stays
  without_kept : (x y : A) (k : ℕ) (us : List A) → k < length us → get_or us k x ≡ x → x ≢ y → Contains us y → Contains (without k us) y
  without_kept x y k [] l at differs i = absurd (in_nil y i)
  without_kept x y zero (u ∷ us) l at differs i = ⊎_elim (λ (e : y ≡ u). absurd (differs (sym at ∙ sym e))) (λ (j : Contains us y). j) (in_cons u y us i)
  without_kept x y (suc k) (u ∷ us) l at differs i =
      ⊎_elim
      (λ (e : y ≡ u). subst (λ z. Contains (u ∷ without k us) z) (sym e) (in_head u (without k us)))
      (λ (j : Contains us y). in_tail u y (without k us) (without_kept x y k us (omega (arith, l)) at differs j))
      (in_cons u y us i)

  pub no_more : (xs us : List A) → Pairwise (λ x y. x ≢ y) xs → ((x : A) → Contains xs x → Contains us x) → length xs ≤ length us
  no_more [] us P f = omega arith
  no_more (x ∷ xs) us P f =
      let at = f x (in_head x xs) in
      let rest = no_more xs (without at.0 us) P.1 (λ y i. without_kept x y at.0 us at.1 at.2 (P.0 y i) (f y (in_tail x y xs i))) in
      let one = without_length at.0 us at.1 in
      omega (arith, rest, one)
