-- What holds of the elements of a list up to a place.
use Rattle.std.proofs.Common.{◌≡◌, ⊎_elim, ℕ, zero, suc, ◌<◌, ◌≤◌, ◌+◌, List, [], ◌∷◌, length, get_or, refl, subst, arith, nat_le, true}
use Rattle.std.specs.List.{AllByRecursion}
use Rattle.std.proofs.lemmas.Bool.{cases_lt}
use Rattle.cs_schedule.specs.Spelling.{IsList}
use Rattle.cs_book.proofs.Tools.{le_true}

abbrev pub UpTo : {A : Type 0} → (A → Type 0) → ℕ → List A → Type 0
UpTo P i xs = (k : ℕ) (d : _) → k < i → k < length xs → P (get_or xs k d)

module _ {A : Type 0} (P : A → Type 0) where
  same_at : (xs : List A) (k : ℕ) (d e : A) → k < length xs → get_or xs k d ≡ get_or xs k e
  same_at [] k d e l = absurd (omega (arith, l))
  same_at (x ∷ xs) zero d e l = refl
  same_at (x ∷ xs) (suc k) d e l = same_at xs k d e (omega (arith, l))

  pub upto_none : (xs : List A) → UpTo P 0 xs
  upto_none xs k d l m = absurd (omega (arith, l))

  pub upto_more : (xs : List A) (i : ℕ) (x : A) → UpTo P i xs → x ≡ get_or xs i x → P x → UpTo P (i + 1) xs
  upto_more xs i x h at p k d l m =
      ⊎_elim
      (λ (j : k < i). h k d j m)
      (λ (j : i ≤ k).
      let same : i ≡ k = omega (arith, l, j) in
      let there : i < length xs = omega (arith, same, m) in
      let is : x ≡ get_or xs k d = subst (λ z. x ≡ get_or xs z d) same (subst (λ z. x ≡ z) (same_at xs i x d there) at) in
      subst P is p)
      (cases_lt k i)

  all_at : (xs : List A) → ((k : ℕ) (d : A) → k < length xs → P (get_or xs k d)) → AllByRecursion P xs
  all_at [] h = tt
  all_at (x ∷ xs) h = (h 0 x (omega arith), all_at xs (λ k d l. h (suc k) d (omega (arith, l))))

  pub upto_all : (xs : List A) (i : ℕ) → length xs ≤ i → UpTo P i xs → AllByRecursion P xs
  upto_all xs i last h = all_at xs (λ k d l. h k d (omega (arith, l, last)) l)

  -- a list whose count has four bytes
  pub fits_list : (xs : List A) (i : ℕ) → length xs ≤ i → UpTo P i xs → nat_le (length xs) 4294967295 ≡ true → IsList P xs
  fits_list xs i last h few = let short = le_true (length xs) 4294967295 few in (omega (arith, short), upto_all xs i last h)
