-- Elements at places of lists.
use Rattle.std.proofs.Common.{◌≡◌, ℕ, zero, suc, ◌<◌, List, [], ◌∷◌, length, sym, refl, ◌∙◌, arith, Contains}
use Rattle.std.proofs.lemmas.List.{get_or_default}
use Rattle.cs_steps.specs.Cursor.{IsAt}

module _ {A : Type 0} where
  pub some_at : (xs : List A) (k : ℕ) → k < length xs → (x : A) × IsAt xs k x
  some_at [] k lt = absurd (omega arith)
  some_at (x ∷ xs) zero lt = (x, (lt, refl))
  some_at (x ∷ xs) (suc k) lt = let r = some_at xs k (omega arith) in (r.0, (lt, r.1.1))

  pub one_at : (xs : List A) (k : ℕ) (x y : A) → IsAt xs k x → IsAt xs k y → x ≡ y
  one_at xs k x y i j = sym i.1 ∙ get_or_default xs k x y i.0 ∙ j.1

  pub is_in : (xs : List A) (k : ℕ) (x : A) → IsAt xs k x → Contains xs x
  is_in xs k x i = (k, i.0, i.1)
