use Rattle.std.proofs.Common.{◌≡◌, ◌≢◌, ◌∙◌, sym, ap, subst, ℕ, ◌+◌, ◌-◌, ◌≤◌, List, ◌∷◌, ◌++◌, length, take, drop, arith, length-drop, take-add}
use Rattle.std.proofs.lemmas.List.{take-append-drop, drop-drop, append_assoc}
use Rattle.std.proofs.Math.Seq.{take-length}
use Rattle.std.proofs.lemmas.List.Elements.{All-append}
use Rattle.cs_wire.specs.Held.{EndsAt}
use Rattle.cs_types.specs.Texts.{HasNoEnd}

-- the bytes from a place on, as a slice has them
pub rest_is : (bytes : List ℕ) (seen : ℕ) → take (length bytes - seen) (drop seen bytes) ≡ drop seen bytes
rest_is bytes seen = ap (λ k. take k (drop seen bytes)) (sym (length-drop seen bytes)) ∙ take-length (drop seen bytes)

-- no line ends in two pieces
pub none_behind : (bytes : List ℕ) (seen : ℕ) → HasNoEnd (take seen bytes) → HasNoEnd (drop seen bytes) → HasNoEnd bytes
none_behind bytes seen f b = subst HasNoEnd (take-append-drop seen bytes) (All-append (λ b. b ≢ 10) _ _ f b)

-- the first line end of the second piece, where none is in the first
pub ends_behind : (bytes : List ℕ) (seen n : ℕ) → seen ≤ length bytes → HasNoEnd (take seen bytes) → EndsAt (drop seen bytes) n → EndsAt bytes (seen + n)
ends_behind bytes seen n fits f e =
    let d = drop seen bytes in
    let front : take (seen + n) bytes ≡ take seen bytes ++ take n d = take-add seen n bytes in
    let at : seen + (n + 1) ≡ seen + n + 1 = omega arith in
    let behind : drop (n + 1) d ≡ drop (seen + n + 1) bytes = drop-drop (n + 1) seen bytes ∙ ap (λ k. drop k bytes) at in
    record {
      there = omega (arith, e.there, length-drop seen bytes);
      first = subst HasNoEnd (sym front) (All-append (λ b. b ≢ 10) _ _ f e.first);
      parts = sym (take-append-drop seen bytes) ∙ ap (λ xs. take seen bytes ++ xs) e.parts ∙ sym (append_assoc (take seen bytes) (take n d) (10 ∷ drop (n + 1) d))
          ∙ ap (λ xs. xs ++ 10 ∷ drop (n + 1) d) (sym front) ∙ ap (λ xs. take (seen + n) bytes ++ 10 ∷ xs) behind;
    }
