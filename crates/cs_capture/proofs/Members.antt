-- Lists any two members of which are related.
use Rattle.std.proofs.Common.{List, [], ◌∷◌, Contains}
use Rattle.cs_types.specs.Members.{Pairwise, in_head, in_tail}

module _ {A : Type 0} (R : A → A → Type 0) where
  -- where any two members are related
  pub pairs_of_members : (xs : List A) → ((x y : A) → Contains xs x → Contains xs y → R x y) → Pairwise R xs
  pairs_of_members [] f = tt
  pairs_of_members (x ∷ xs) f = (λ y j. f x y (in_head x xs) (in_tail x y xs j), pairs_of_members xs (λ a b i j. f a b (in_tail x a xs i) (in_tail x b xs j)))
