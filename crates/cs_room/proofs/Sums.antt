-- Sums over lists that get smaller.
use Rattle.std.proofs.Common.{◌≡◌, ℕ, ◌+◌, ◌*◌, ◌≤◌, Bool, true, false, cond, List, [], ◌∷◌, length, ⊎_elim, sym, refl, subst, arith, Contains}
use Rattle.std.proofs.Math.Nat.{suc-mul}
use Rattle.cs_types.specs.Members.{Pairwise, in_nil, in_head, in_tail, in_cons}
use Rattle.cs_schedule.specs.Size.{total}

module _ {A : Type 0} where
  pub sum_less : (g h : A → ℕ) (xs : List A) → ((x : A) → Contains xs x → g x ≤ h x) → total g xs ≤ total h xs
  sum_less g h [] l = omega arith
  sum_less g h (x ∷ xs) l =
      let a = l x (in_head x xs) in
      let b = sum_less g h xs (λ y i. l y (in_tail x y xs i)) in
      omega (arith, a, b)

  -- where one of them falls by so much, so does the sum
  pub sum_falls : (g h : A → ℕ) (n : ℕ) (xs : List A) (x : A) → Contains xs x → ((y : A) → Contains xs y → g y ≤ h y) → g x + n ≤ h x → total g xs + n ≤ total h xs
  sum_falls g h n [] x i l m = absurd (in_nil x i)
  sum_falls g h n (y ∷ xs) x i l m =
      ⊎_elim
      (λ (q : x ≡ y).
      let a = subst (λ z. g z + n ≤ h z) q m in
      let b = sum_less g h xs (λ z j. l z (in_tail y z xs j)) in
      omega (arith, a, b))
      (λ (j : Contains xs x).
      let a = l y (in_head y xs) in
      let b = sum_falls g h n xs x j (λ z k. l z (in_tail y z xs k)) m in
      omega (arith, a, b))
      (in_cons y x xs i)

  pub sum_most : (g : A → ℕ) (n : ℕ) (xs : List A) → ((x : A) → Contains xs x → g x ≤ n) → total g xs ≤ length xs * n
  sum_most g n [] l = omega arith
  sum_most g n (x ∷ xs) l =
      let a = l x (in_head x xs) in
      let b = sum_most g n xs (λ y i. l y (in_tail x y xs i)) in
      let c = suc-mul (length xs) n in
      omega (arith, a, b, c)

module _ {A B : Type 0} (pays : A → B → Bool) where
  abbrev half : (A → ℕ) → (A → ℕ) → B → A → ℕ
  half g h y x = cond (pays x y) (g x) (h x)

  -- each of the second list is paid by a member of the first that pays for no other
  pub all_paid : (g h : A → ℕ) (cost : B → ℕ) (xs : List A) (ys : List B) → ((x : A) → Contains xs x → g x ≤ h x) → ((y : B) → Contains ys y → (x : A) × Contains xs x × (pays x y ≡ true) × (g x + cost y ≤ h x)) → Pairwise (λ y z. (x : A) → Contains xs x → pays x y ≡ true → pays x z ≡ true → ⊥) ys → total g xs + total cost ys ≤ total h xs
  all_paid g h cost xs [] l p a = let b = sum_less g h xs l in omega (arith, b)
  all_paid g h cost xs (y ∷ ys) l p a =
      let u = p y (in_head y ys) in
      let first : total (half g h y) xs + cost y ≤ total h xs = sum_falls (half g h y) h (cost y) xs u.0 u.1 half_less (subst (λ c. cond c (g u.0) (h u.0) + cost y ≤ h u.0) (sym u.2) u.3) in
      let rest : total g xs + total cost ys ≤ total (half g h y) xs = all_paid g (half g h y) cost xs ys less_half
      (λ z i. let v = p z (in_tail y z ys i) in (v.0, v.1, v.2, subst (λ c. g v.0 + cost z ≤ cond c (g v.0) (h v.0)) (sym (other z i v.0 v.1 v.2)) v.3)) a.1 in
      omega (arith, first, rest)
    where
      half_less : (x : A) → Contains xs x → half g h y x ≤ h x
      half_less x i = by (pays x y) (l x i)
        where
          by : (c : Bool) → g x ≤ h x → cond c (g x) (h x) ≤ h x
          by true k = k
          by false k = omega arith

      less_half : (x : A) → Contains xs x → g x ≤ half g h y x
      less_half x i = by (pays x y) (l x i)
        where
          by : (c : Bool) → g x ≤ h x → g x ≤ cond c (g x) (h x)
          by true k = omega arith
          by false k = k

      other : (z : B) → Contains ys z → (x : A) → Contains xs x → pays x z ≡ true → pays x y ≡ false
      other z i x j h = by (pays x y) refl
        where
          by : (c : Bool) → pays x y ≡ c → pays x y ≡ false
          by true k = absurd (a.0 z i x j k h)
          by false k = k

-- each of a list with so much more
pub sum_more : {A : Type 0} (g : A → ℕ) (n : ℕ) (xs : List A) → total (λ x. g x + n) xs ≡ total g xs + n * length xs
sum_more g n [] = omega arith
sum_more g n (x ∷ xs) =
    let h = sum_more g n xs in
    omega (arith, h)
