-- Tokens are slices, in order.
use Rattle.std.proofs.Common.{◌≡◌, ℕ, zero, suc, ◌+◌, ◌≤◌, inl, inr, List, [], ◌∷◌, length, take, drop, refl, sym, ap, ◌∙◌, arith}
use Rattle.std.proofs.lemmas.List.{drop-drop, length-take}
use Rattle.cs_ddl.specs.Lex.{is_blank, kind_and_len, cut, AreSpans, tokens_of}
use Rattle.cs_ddl.proofs.Laws.{true_or_false}

-- what was taken is as long as it is
take_again : (n : ℕ) (xs : List ℕ) → take (length (take n xs)) xs ≡ take n xs
take_again zero xs = refl
take_again (suc n) [] = refl
take_again (suc n) (x ∷ xs) = ap (λ ys. x ∷ ys) (take_again n xs)

step_rest : (bytes rest : List ℕ) (at b : ℕ) → drop at bytes ≡ b ∷ rest → drop (at + 1) bytes ≡ rest
step_rest bytes rest at b e = sym (drop-drop 1 at bytes) ∙ ap (λ (xs : List ℕ). drop 1 xs) e

slice_is : (bytes rest : List ℕ) (at b n : ℕ) → drop at bytes ≡ b ∷ rest → take (suc (length (take n rest))) (drop at bytes) ≡ b ∷ take n rest
slice_is bytes rest at b n e = rw e (ap (λ ys. b ∷ ys) (take_again n rest))

spans : (bytes : List ℕ) (skip at from : ℕ) (rest : List ℕ) → drop at bytes ≡ rest → from ≤ at + skip → AreSpans bytes from (cut skip at rest)
unfolding cut
spans bytes skip at from [] e le = tt
spans bytes (suc skip) at from (b ∷ rest) e le = spans bytes skip (at + 1) from rest (step_rest bytes rest at b e) (omega arith)
spans bytes zero at from (b ∷ rest) e le =
    elim (true_or_false (is_blank b)) [
      | inl h ↦ rw h (spans bytes zero (at + 1) from rest (step_rest bytes rest at b e) (omega arith))
      | inr h ↦
          let n = (kind_and_len b rest).1 in
          let len : length (take n rest) ≤ n = omega (arith, length-take n rest) in
          rw h (omega arith, omega arith, slice_is bytes rest at b n e, spans bytes n (at + 1) (at + suc (length (take n rest))) rest (step_rest bytes rest at b e) (omega arith))
    ]

pub tokens_are_spans : (bytes : List ℕ) → AreSpans bytes 0 (tokens_of bytes)
tokens_are_spans bytes = spans bytes 0 0 0 bytes refl (omega arith)
