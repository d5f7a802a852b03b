-- How many groups of a size a list has.
use Rattle.std.proofs.Common.{◌≡◌, ℕ, ◌+◌, ◌*◌, ◌<◌, ◌≤◌, Bool, true, false, cond, nat_lt, List, [], ◌∷◌, ◌++◌, length, refl, arith, length-append}
use Rattle.std.proofs.lemmas.Bool.{ltb-true, ltb-false}
use Rattle.cs_steps.specs.Cutting.{cut_behind, cut}

abbrev Enough : ℕ → ℕ → Type 0
Enough n groups = (1024 * groups < n + 1024) × (n ≤ 1024 * groups)

module _ {A : Type 0} where
  abbrev fewer : List A → A → Bool
  fewer group x = nat_lt (length group) 1024

  behind : (group xs : List A) → 1 ≤ length group → length group ≤ 1024 → Enough (length group + length xs) (length (cut_behind fewer group xs))
  behind group [] some few = (omega arith, omega arith)
  behind group (x ∷ xs) some few = by (nat_lt (length group) 1024) refl (λ l. behind (group ++ x ∷ []) xs (omega (arith, length-append group (x ∷ []))) l) (behind (x ∷ []) xs (omega arith) (omega arith))
    where
      by : (b : Bool) → nat_lt (length group) 1024 ≡ b → (length (group ++ x ∷ []) ≤ 1024 → Enough (length (group ++ x ∷ []) + length xs) (length (cut_behind fewer (group ++ x ∷ []) xs)))
          → Enough (1 + length xs) (length (cut_behind fewer (x ∷ []) xs))
          → Enough (length group + length (x ∷ xs)) (length (cond b (cut_behind fewer (group ++ x ∷ []) xs) (group ∷ cut_behind fewer (x ∷ []) xs)))
      by true e f k =
          let l = ltb-true (length group) 1024 e in
          let h = f (omega (arith, l, length-append group (x ∷ []))) in
          (omega (arith, h.0, length-append group (x ∷ [])), omega (arith, h.1, length-append group (x ∷ [])))
      by false e f k = let l = ltb-false (length group) 1024 e in (omega (arith, k.0, l), omega (arith, k.1, few))

  pub enough : (xs : List A) → Enough (length xs) (length (cut fewer xs))
  enough [] = (omega arith, omega arith)
  enough (x ∷ xs) = let h = behind (x ∷ []) xs (omega arith) (omega arith) in (omega (arith, h.0), omega (arith, h.1))

  -- so many groups are all of them
  pub count_is : (xs : List A) (n : ℕ) → 1024 * n < length xs + 1024 → length xs ≤ 1024 * n → n ≡ length (cut fewer xs)
  count_is xs n less most = let h = enough xs in omega (arith, h.0, h.1, less, most)
