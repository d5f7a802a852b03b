-- How far two lists of bytes agree. This project's own.
use Rattle.std.specs.Prelude.{ℕ, suc, List, [], ◌∷◌, cond, nat_eq}

-- how many bytes are the same in both, from the front up to the first that differs or to an end
abbrev pub agreeing : List ℕ → List ℕ → ℕ
agreeing [] other = 0
agreeing (b ∷ one) [] = 0
agreeing (b ∷ one) (c ∷ other) = cond (nat_eq b c) (suc (agreeing one other)) 0
