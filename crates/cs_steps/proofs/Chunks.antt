-- Groups of a size are slices of the list.
use Rattle.std.proofs.Common.{◌≡◌, ℕ, zero, suc, ◌+◌, ◌*◌, ◌<◌, ◌≤◌, Bool, true, false, cond, nat_lt, List, [], ◌∷◌, ◌++◌, length, take, drop, refl, sym, ap, ◌∙◌, arith, length-append, append-nil, min, ⊎_elim}
use Rattle.std.proofs.Math.Nat.{mul-suc}
use Rattle.std.proofs.lemmas.Bool.{ltb-true, ltb-false, cases_lt}
use Rattle.std.proofs.lemmas.List.{drop-drop}
use Rattle.cs_types.specs.Members.{snoc_append}
use Rattle.cs_steps.specs.Cutting.{cut_behind, cut}
use Rattle.cs_steps.specs.Cursor.{IsAt}

module _ {A : Type 0} where
  pub take_front : (g ys : List A) (n : ℕ) → length g ≡ n → take n (g ++ ys) ≡ g
  take_front [] ys zero e = refl
  take_front [] ys (suc n) e = absurd (omega arith)
  take_front (x ∷ g) ys zero e = absurd (omega arith)
  take_front (x ∷ g) ys (suc n) e = ap (λ l. x ∷ l) (take_front g ys n (omega arith))

  drop_front : (g ys : List A) (n : ℕ) → length g ≡ n → drop n (g ++ ys) ≡ ys
  drop_front [] ys zero e = refl
  drop_front [] ys (suc n) e = absurd (omega arith)
  drop_front (x ∷ g) ys zero e = absurd (omega arith)
  drop_front (x ∷ g) ys (suc n) e = drop_front g ys n (omega arith)

  pub take_all : (xs : List A) (n : ℕ) → length xs ≤ n → take n xs ≡ xs
  take_all [] zero h = refl
  take_all [] (suc n) h = refl
  take_all (x ∷ xs) zero h = absurd (omega arith)
  take_all (x ∷ xs) (suc n) h = ap (λ l. x ∷ l) (take_all xs n (omega arith))

  module _ (size : ℕ) where
    abbrev fewer : List A → A → Bool
    fewer group x = nat_lt (length group) size

    chunk_behind : (g xs : List A) → 1 ≤ length g → length g ≤ size → (k : ℕ) (group : List A) → IsAt (cut_behind fewer g xs) k group → group ≡ take size (drop (size * k) (g ++ xs))
    chunk_behind g [] some few zero group i = sym i.1 ∙ sym (ap (λ n. take size (drop n (g ++ []))) none ∙ ap (take size) (append-nil g) ∙ take_all g size few)
      where
        none : size * 0 ≡ 0
        none = omega arith
    chunk_behind g [] some few (suc k) group i = absurd (omega (arith, i.0))
    chunk_behind g (x ∷ xs) some few k group i = by (nat_lt (length g) size) refl i
        (λ l j. chunk_behind (g ++ x ∷ []) xs (omega (arith, length-append g (x ∷ []))) l k group j)
        (λ n j. chunk_behind (x ∷ []) xs (omega arith) (omega (arith, some, few)) n group j)
      where
        by : (b : Bool) → nat_lt (length g) size ≡ b → IsAt (cond b (cut_behind fewer (g ++ x ∷ []) xs) (g ∷ cut_behind fewer (x ∷ []) xs)) k group
            → (length (g ++ x ∷ []) ≤ size → IsAt (cut_behind fewer (g ++ x ∷ []) xs) k group → group ≡ take size (drop (size * k) ((g ++ x ∷ []) ++ xs)))
            → ((n : ℕ) → IsAt (cut_behind fewer (x ∷ []) xs) n group → group ≡ take size (drop (size * n) (x ∷ xs)))
            → group ≡ take size (drop (size * k) (g ++ x ∷ xs))
        by true t j f h = f (let l = ltb-true (length g) size t in omega (arith, l, length-append g (x ∷ []))) j ∙ ap (λ l. take size (drop (size * k) l)) (snoc_append g xs x)
        by false t j f h = at k j
          where
            whole : length g ≡ size
            whole = let l = ltb-false (length g) size t in omega (arith, l, few)

            at : (k : ℕ) → IsAt (g ∷ cut_behind fewer (x ∷ []) xs) k group → group ≡ take size (drop (size * k) (g ++ x ∷ xs))
            at zero j = sym j.1 ∙ sym (ap (λ n. take size (drop n (g ++ x ∷ xs))) none ∙ take_front g (x ∷ xs) size whole)
              where
                none : size * 0 ≡ 0
                none = omega arith
            at (suc n) j = h n (omega (arith, j.0), j.1) ∙ ap (take size) (sym (ap (λ m. drop m (g ++ x ∷ xs)) sum ∙ sym (drop-drop (size * n) size (g ++ x ∷ xs)) ∙ ap (drop (size * n)) (drop_front g (x ∷ xs) size whole)))
              where
                sum : size * suc n ≡ size + size * n
                sum = mul-suc size n ∙ omega arith

    pub chunk : (xs : List A) → 1 ≤ size → (k : ℕ) (group : List A) → IsAt (cut fewer xs) k group → group ≡ take size (drop (size * k) xs)
    chunk [] some k group i = absurd (omega (arith, i.0))
    chunk (x ∷ xs) some k group i = chunk_behind (x ∷ []) xs (omega arith) (omega (arith, some)) k group i

-- as many as there are, and no more than these
pub take_least : {A : Type 0} (xs : List A) (n most : ℕ) → n ≡ min (length xs) most → take n xs ≡ take most xs
take_least xs n most e = ⊎_elim
    (λ (h : length xs < most). take_all xs n (omega (arith, e)) ∙ sym (take_all xs most (omega arith)))
    (λ (h : most ≤ length xs). let same : n ≡ most = omega (arith, e) in ap (λ k. take k xs) same)
    (cases_lt (length xs) most)
