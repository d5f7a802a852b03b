-- The bytes of a piece, up to the end of its first line and behind it.
use Rattle.std.proofs.Common.{◌≡◌, ◌<◌, ◌≤◌, ◌+◌, ◌-◌, ℕ, List, [], ◌∷◌, ◌++◌, length, take, drop, get_or, sym, ap, ◌∙◌, append_assoc, arith}
use Rattle.std.proofs.Math.Seq.{take-add}
use Rattle.std.proofs.lemmas.List.{get_or_at, length-append, length-drop, length-take-le, take_all, take_more, take-append-drop}

-- a piece up to a place, and what stands behind it
both_parts : (before piece : List ℕ) (i : ℕ) → (before ++ take i piece) ++ drop i piece ≡ before ++ piece
both_parts before piece i = append_assoc before (take i piece) (drop i piece) ∙ ap (λ l. before ++ l) (take-append-drop i piece)

-- what `&piece[i..]` is
left_is : (piece : List ℕ) (i : ℕ) → take (length piece - i) (drop i piece) ≡ drop i piece
left_is piece i = take_all (length piece - i) (drop i piece) (omega (arith, length-drop i piece))

-- the piece up to a place, and what is left of it
pub piece_whole : (before piece : List ℕ) (i : ℕ) → (before ++ take i piece) ++ take (length piece - i) (drop i piece) ≡ before ++ piece
piece_whole before piece i = ap (λ l. (before ++ take i piece) ++ l) (left_is piece i) ∙ both_parts before piece i

-- a part more
pub piece_more : (before piece : List ℕ) (i n : ℕ) → (before ++ take i piece) ++ take n (take (length piece - i) (drop i piece)) ≡ before ++ take (i + n) piece
piece_more before piece i n =
    ap (λ l. (before ++ take i piece) ++ take n l) (left_is piece i)
    ∙ append_assoc before (take i piece) (take n (drop i piece)) ∙ ap (λ l. before ++ l) (sym (take-add i n piece))

module _ (before piece : List ℕ) (n : ℕ) (within : n < length piece) (is : piece ≡ take n piece ++ 10 ∷ drop (n + 1) piece) where
  end_at : get_or piece n 0 ≡ 10
  end_at = ap (λ (l : List ℕ). get_or l n 0) is ∙ get_or_at (take n piece) 10 (drop (n + 1) piece) 0 n (length-take-le n piece (omega (arith, within)))

  -- the line with its end
  pub line_more : (before ++ take n piece) ++ 10 ∷ [] ≡ before ++ take (n + 1) piece
  line_more =
      append_assoc before (take n piece) (10 ∷ [])
      ∙ ap (λ l. before ++ l) (ap (λ x. take n piece ++ x ∷ []) (sym end_at) ∙ sym (take_more piece n 0 within))

  pub line_short : (most : ℕ) → length (before ++ piece) ≤ most → length ((before ++ take n piece) ++ 10 ∷ []) ≤ most
  line_short most short = omega (
    arith,
    ap length line_more,
    length-append before (take (n + 1) piece),
    length-append before piece,
    length-take-le (n + 1) piece (omega (arith, within)),
    short,
  )

  -- what stands behind it
  pub line_rest : (rest : List ℕ) → ((before ++ take n piece) ++ 10 ∷ []) ++ (drop (n + 1) piece ++ rest) ≡ (before ++ piece) ++ rest
  line_rest rest =
      ap (λ l. l ++ (drop (n + 1) piece ++ rest)) line_more
      ∙ sym (append_assoc (before ++ take (n + 1) piece) (drop (n + 1) piece) rest)
      ∙ ap (λ l. l ++ rest) (both_parts before piece (n + 1))
