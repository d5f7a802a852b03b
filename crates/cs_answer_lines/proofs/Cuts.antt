-- Lists cut into neighbours: nothing is lost, and what holds of one element and goes on with each that is taken holds of each group.
use Rattle.std.proofs.Common.{◌≡◌, suc, ◌+◌, ◌≤◌, Bool, true, false, cond, List, [], ◌∷◌, ◌++◌, length, filter, ⊎_elim, refl, sym, ap, ◌∙◌, subst, arith, Contains, length-append, append_assoc}
use Rattle.std.proofs.lemmas.List.Elements.{filter-append}
use Rattle.cs_types.specs.Members.{in_nil, in_cons, in_flat}
use Rattle.cs_steps.specs.Cutting.{cut_behind, cut, joined}

module _ {A : Type 0} (takes : List A → A → Bool) where
  joined_behind : (group xs : List A) → joined (cut_behind takes group xs) ≡ group ++ xs
  joined_behind group [] = refl
  joined_behind group (x ∷ xs) = by (takes group x) (joined_behind (group ++ x ∷ []) xs ∙ append_assoc group (x ∷ []) xs) (joined_behind (x ∷ []) xs)
    where
      by : (b : Bool) → joined (cut_behind takes (group ++ x ∷ []) xs) ≡ group ++ x ∷ xs → joined (cut_behind takes (x ∷ []) xs) ≡ x ∷ xs
          → joined (cond b (cut_behind takes (group ++ x ∷ []) xs) (group ∷ cut_behind takes (x ∷ []) xs)) ≡ group ++ x ∷ xs
      by true h k = h
      by false h k = ap (λ l. group ++ l) k

  pub whole : (xs : List A) → joined (cut takes xs) ≡ xs
  whole [] = refl
  whole (x ∷ xs) = joined_behind (x ∷ []) xs

  -- what stands in a group stands in the list
  pub in_whole : (xs g : List A) (x : A) → Contains (cut takes xs) g → Contains g x → Contains xs x
  in_whole xs g x i j = subst (λ l. Contains l x) (whole xs) (in_flat (λ l. l) x g (cut takes xs) i j)

  module _ (P : List A → Type 0) (one : (x : A) → P (x ∷ [])) (more : (group : List A) (x : A) → P group → takes group x ≡ true → P (group ++ x ∷ [])) where
    each_behind : (group xs : List A) → P group → (g : List A) → Contains (cut_behind takes group xs) g → P g
    each_behind group [] h g i = ⊎_elim (λ (s : g ≡ group). subst P (sym s) h) (λ (n : Contains [] g). absurd (in_nil g n)) (in_cons group g [] i)
    each_behind group (x ∷ xs) h g i = by (takes group x) refl (λ k. each_behind (group ++ x ∷ []) xs k g) (each_behind (x ∷ []) xs (one x) g) i
      where
        by : (b : Bool) → takes group x ≡ b → (P (group ++ x ∷ []) → Contains (cut_behind takes (group ++ x ∷ []) xs) g → P g) → (Contains (cut_behind takes (x ∷ []) xs) g → P g)
            → Contains (cond b (cut_behind takes (group ++ x ∷ []) xs) (group ∷ cut_behind takes (x ∷ []) xs)) g → P g
        by true e f k j = f (more group x h e) j
        by false e f k j = ⊎_elim (λ (s : g ≡ group). subst P (sym s) h) k (in_cons group g _ j)

    pub each : (xs g : List A) → Contains (cut takes xs) g → P g
    each [] g i = absurd (in_nil g i)
    each (x ∷ xs) g i = each_behind (x ∷ []) xs (one x) g i

  -- there are no more groups than elements
  fewer_behind : (group xs : List A) → length (cut_behind takes group xs) ≤ suc (length xs)
  fewer_behind group [] = omega arith
  fewer_behind group (x ∷ xs) = by (takes group x) (fewer_behind (group ++ x ∷ []) xs) (fewer_behind (x ∷ []) xs)
    where
      by : (b : Bool) → length (cut_behind takes (group ++ x ∷ []) xs) ≤ suc (length xs) → length (cut_behind takes (x ∷ []) xs) ≤ suc (length xs)
          → length (cond b (cut_behind takes (group ++ x ∷ []) xs) (group ∷ cut_behind takes (x ∷ []) xs)) ≤ suc (suc (length xs))
      by true h k = omega (arith, h)
      by false h k = omega (arith, k)

  pub fewer : (xs : List A) → length (cut takes xs) ≤ length xs
  fewer [] = omega arith
  fewer (x ∷ xs) = fewer_behind (x ∷ []) xs

-- of one of lists that stand one behind another no more pass than of all
pub fewer_pass : {A : Type 0} (p : A → Bool) (g : List A) (gs : List (List A)) → Contains gs g → length (filter p g) ≤ length (filter p (joined gs))
fewer_pass p g [] i = absurd (in_nil g i)
fewer_pass p g (k ∷ gs) i =
    let parted : length (filter p (k ++ joined gs)) ≡ length (filter p k) + length (filter p (joined gs)) = ap length (filter-append p k (joined gs)) ∙ length-append (filter p k) (filter p (joined gs)) in
    ⊎_elim
    (λ (s : g ≡ k). let here : length (filter p g) ≡ length (filter p k) = ap (λ l. length (filter p l)) s in omega (arith, parted, here))
    (λ (j : Contains gs g). let rest = fewer_pass p g gs j in omega (arith, parted, rest))
    (in_cons k g gs i)
