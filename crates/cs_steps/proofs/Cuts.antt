-- Lists cut into neighbours: nothing is lost, and what holds of one element and goes on with each that is taken holds of each group.
use Rattle.std.proofs.Common.{◌≡◌, ℕ, ◌+◌, ◌*◌, ◌<◌, ◌≤◌, Bool, true, false, cond, nat_lt, List, [], ◌∷◌, ◌++◌, length, ⊎_elim, refl, sym, ap, ◌∙◌, subst, arith, Contains, length-append}
use Rattle.std.proofs.lemmas.Bool.{ltb-false}
use Rattle.std.proofs.Math.Nat.{mul-suc}
use Rattle.cs_types.specs.Members.{in_nil, in_cons, snoc_append, in_flat}
use Rattle.cs_steps.specs.Cutting.{cut_behind, cut, joined}

module _ {A : Type 0} (takes : List A → A → Bool) where
  joined_behind : (group xs : List A) → joined (cut_behind takes group xs) ≡ group ++ xs
  joined_behind group [] = refl
  joined_behind group (x ∷ xs) = by (takes group x) (joined_behind (group ++ x ∷ []) xs ∙ snoc_append group xs x) (joined_behind (x ∷ []) xs)
    where
      by : (b : Bool) → joined (cut_behind takes (group ++ x ∷ []) xs) ≡ group ++ x ∷ xs → joined (cut_behind takes (x ∷ []) xs) ≡ x ∷ xs
          → joined (cond b (cut_behind takes (group ++ x ∷ []) xs) (group ∷ cut_behind takes (x ∷ []) xs)) ≡ group ++ x ∷ xs
      by true h k = h
      by false h k = ap (λ l. group ++ l) k

  pub whole : (xs : List A) → joined (cut takes xs) ≡ xs
  whole [] = refl
  whole (x ∷ xs) = joined_behind (x ∷ []) xs

  -- what stands in a group stands in the list
  pub in_whole : (xs g : List A) (x : A) → Contains (cut takes xs) g → Contains g x → Contains xs x
  in_whole xs g x i j = subst (λ l. Contains l x) (whole xs) (in_flat (λ l. l) x g (cut takes xs) i j)

  module _ (P : List A → Type 0) (one : (x : A) → P (x ∷ [])) (more : (group : List A) (x : A) → P group → takes group x ≡ true → P (group ++ x ∷ [])) where
    each_behind : (group xs : List A) → P group → (g : List A) → Contains (cut_behind takes group xs) g → P g
    each_behind group [] h g i = ⊎_elim (λ (s : g ≡ group). subst P (sym s) h) (λ (n : Contains [] g). absurd (in_nil g n)) (in_cons group g [] i)
    each_behind group (x ∷ xs) h g i = by (takes group x) refl (λ k. each_behind (group ++ x ∷ []) xs k g) (each_behind (x ∷ []) xs (one x) g) i
      where
        by : (b : Bool) → takes group x ≡ b → (P (group ++ x ∷ []) → Contains (cut_behind takes (group ++ x ∷ []) xs) g → P g) → (Contains (cut_behind takes (x ∷ []) xs) g → P g)
            → Contains (cond b (cut_behind takes (group ++ x ∷ []) xs) (group ∷ cut_behind takes (x ∷ []) xs)) g → P g
        by true e f k j = f (more group x h e) j
        by false e f k j = ⊎_elim (λ (s : g ≡ group). subst P (sym s) h) k (in_cons group g _ j)

    pub each : (xs g : List A) → Contains (cut takes xs) g → P g
    each [] g i = absurd (in_nil g i)
    each (x ∷ xs) g i = each_behind (x ∷ []) xs (one x) g i

-- groups of a size: the list is so many times as long
module _ {A : Type 0} (size : ℕ) where
  abbrev fewer : List A → A → Bool
  fewer group x = nat_lt (length group) size

  count_behind : (group xs : List A) → 1 ≤ length group → size * length (cut_behind fewer group xs) < length group + length xs + size
  count_behind group [] h = omega (arith, mul-suc size 0)
  count_behind group (x ∷ xs) h = by (nat_lt (length group) size) refl (count_behind (group ++ x ∷ []) xs (omega (arith, length-append group (x ∷ [])))) (count_behind (x ∷ []) xs (omega arith))
    where
      by : (b : Bool) → nat_lt (length group) size ≡ b → size * length (cut_behind fewer (group ++ x ∷ []) xs) < length (group ++ x ∷ []) + length xs + size
          → size * length (cut_behind fewer (x ∷ []) xs) < 1 + length xs + size → size * length (cond b (cut_behind fewer (group ++ x ∷ []) xs) (group ∷ cut_behind fewer (x ∷ []) xs)) < length group + length (x ∷ xs) + size
      by true e f k = omega (arith, f, length-append group (x ∷ []))
      by false e f k = omega (arith, k, ltb-false (length group) size e, mul-suc size (length (cut_behind fewer (x ∷ []) xs)))

  pub count : (xs : List A) → size * length (cut fewer xs) < length xs + size + 1
  count [] = omega arith
  count (x ∷ xs) = omega (arith, count_behind (x ∷ []) xs (omega arith))
