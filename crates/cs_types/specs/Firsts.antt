-- Refusals that are tried one after another: the first that holds is answered (this project's own order).
use Rattle.std.specs.Prelude.{List, [], ◌∷◌, None}
use Rattle.std.specs.declared.option.Option.{Option}
use Rattle.std.specs.Option.{option_or}

-- what the first element has that has something
abbrev pub first_of : {X F : Type 0} → (X → Option F) → List X → Option F
first_of f [] = None
first_of f (x ∷ xs) = option_or (f x) (first_of f xs)
