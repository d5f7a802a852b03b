-- Blocks of text, one for each number.
use Rattle.std.proofs.Common.{◌≡◌, ℕ, ◌+◌, List, [], ◌∷◌, ◌++◌, map, append_assoc, append-nil, sym, ap, ◌∙◌, arith}
use Rattle.std.specs.List.{concat, range_with_len}
use Rattle.std.proofs.lemmas.List.FromFn.{map-range_with_len_more}
use Rattle.std.proofs.lemmas.List.Folds.{concat-append}

blocks_more : (f : ℕ → List ℕ) (i : ℕ) → concat (map f (range_with_len 0 (i + 1))) ≡ concat (map f (range_with_len 0 i)) ++ f i
blocks_more f i = ap concat (map-range_with_len_more f 0 i i (omega arith)) ∙ concat-append (map f (range_with_len 0 i)) (f i ∷ []) ∙ ap (λ l. concat (map f (range_with_len 0 i)) ++ l) (append-nil (f i))

-- one block more, added in two parts
pub block_added : (f : ℕ → List ℕ) (i : ℕ) (front before middle after first second : List ℕ)
    → before ≡ front ++ concat (map f (range_with_len 0 i)) → middle ≡ before ++ first → after ≡ middle ++ second → f i ≡ first ++ second
    → after ≡ front ++ concat (map f (range_with_len 0 (i + 1)))
block_added f i front before middle after first second e1 e2 e3 e4 =
    e3 ∙ ap (λ l. l ++ second) (e2 ∙ ap (λ l. l ++ first) e1)
    ∙ append_assoc (front ++ concat (map f (range_with_len 0 i))) first second
    ∙ append_assoc front (concat (map f (range_with_len 0 i))) (first ++ second)
    ∙ ap (λ l. front ++ (concat (map f (range_with_len 0 i)) ++ l)) (sym e4)
    ∙ ap (λ l. front ++ l) (sym (blocks_more f i))
