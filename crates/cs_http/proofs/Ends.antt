-- The rest of a slice.
use Rattle.std.proofs.Common.{◌≡◌, ◌∙◌, sym, ap, ℕ, ◌-◌, List, length, take, drop, length-drop}
use Rattle.std.proofs.Math.Seq.{take-length}

-- the bytes from a place on, as a slice has them
pub rest_is : (bytes : List ℕ) (seen : ℕ) → take (length bytes - seen) (drop seen bytes) ≡ drop seen bytes
rest_is bytes seen = ap (λ k. take k (drop seen bytes)) (sym (length-drop seen bytes)) ∙ take-length (drop seen bytes)
