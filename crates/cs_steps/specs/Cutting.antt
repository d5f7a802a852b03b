-- Lists cut into neighbours that stand together.
use Rattle.std.specs.Prelude.{Bool, false, cond, List, [], ◌∷◌, ◌++◌, flat_map}

-- a test of the first element of a list
abbrev pub first_is : {A : Type 0} → (A → Bool) → List A → Bool
first_is test [] = false
first_is test (x ∷ xs) = test x

-- an element stands with those before it where they take it, and else begins anew
abbrev pub cut_behind : {A : Type 0} → (List A → A → Bool) → List A → List A → List (List A)
cut_behind takes group [] = group ∷ []
cut_behind takes group (x ∷ xs) = cond (takes group x) (cut_behind takes (group ++ x ∷ []) xs) (group ∷ cut_behind takes (x ∷ []) xs)

-- the groups of neighbours of a list
abbrev pub cut : {A : Type 0} → (List A → A → Bool) → List A → List (List A)
cut takes [] = []
cut takes (x ∷ xs) = cut_behind takes (x ∷ []) xs

-- lists one behind another
abbrev pub joined : {A : Type 0} → List (List A) → List A
joined gs = flat_map (λ g. g) gs
