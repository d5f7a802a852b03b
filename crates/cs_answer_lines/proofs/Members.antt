-- Filters that leave nothing out, and members of lists that stand one behind another.
use Rattle.std.proofs.Common.{◌≡◌, Bool, true, List, [], ◌∷◌, refl, ap, filter, flat_map, Contains, All}
use Rattle.std.proofs.lemmas.List.Elements.{All-nil, All-append}
use Rattle.cs_types.specs.Members.{in_head, in_tail}

module _ {A : Type 0} where
  -- where all pass nothing is left out
  pub all_pass : (p : A → Bool) (xs : List A) → ((x : A) → Contains xs x → p x ≡ true) → filter p xs ≡ xs
  all_pass p [] h = refl
  all_pass p (x ∷ xs) h = rw (h x (in_head x xs)) (ap (λ l. x ∷ l) (all_pass p xs (λ y i. h y (in_tail x y xs i))))

module _ {A B : Type 0} where
  pub all_flat : (P : A → Type 0) (f : B → List A) (ys : List B) → ((y : B) → Contains ys y → All P (f y)) → All P (flat_map f ys)
  all_flat P f [] h = All-nil P
  all_flat P f (y ∷ ys) h = All-append P (f y) (flat_map f ys) (h y (in_head y ys)) (all_flat P f ys (λ z i. h z (in_tail y z ys i)))
