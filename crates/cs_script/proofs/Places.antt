-- The first place of a byte, and what stands before and behind it.
use Rattle.std.proofs.Common.{◌≡◌, ◌≢◌, ◌<◌, ◌+◌, ◌==◌, ℕ, List, Option, None, Some, MatchOption, ◌∷◌, ◌++◌, All, length, take, drop, true, sym, ap, ◌∙◌, arith}
use Rattle.std.proofs.lemmas.List.{get_or-take, get_or_default, drop_more, take-append-drop, length-take}
use Rattle.memchr.specs.Find.{Nowhere, Passes, IsFirstByte, is_byte}

same_passes : (a b : ℕ) → a ≡ b → (a == b) ≡ true
same_passes a b e = grind (arith, e)

passes_same : (a b : ℕ) → (a == b) ≡ true → a ≡ b
passes_same a b h = grind (arith, h)

-- the byte stands nowhere
nowhere : (a : ℕ) (bytes : List ℕ) → Nowhere (Passes (is_byte a) bytes) 0 (length bytes) → All (λ x. x ≢ a) bytes
nowhere a bytes none = λ k d lt e. none k (omega arith) lt (same_passes _ a (get_or_default bytes k 0 d lt ∙ e))

module _ (a : ℕ) (bytes : List ℕ) (n : ℕ) (within : n < length bytes) where
  -- it stands nowhere before n
  nowhere_before : Nowhere (Passes (is_byte a) bytes) 0 n → All (λ x. x ≢ a) (take n bytes)
  nowhere_before none = λ k d lt e.
      let below : k < n = omega (arith, lt, length-take {A = ℕ} n bytes, within) in
      none k (omega arith) below (same_passes _ a (get_or_default bytes k 0 d (omega (arith, below, within)) ∙ sym (get_or-take n bytes k d below) ∙ e))

  -- it stands at n
  parts_at : Passes (is_byte a) bytes n → bytes ≡ take n bytes ++ a ∷ drop (n + 1) bytes
  parts_at is = sym (take-append-drop n bytes) ∙ ap (λ l. take n bytes ++ l) (drop_more bytes n 0 within ∙ ap (λ x. x ∷ drop (n + 1) bytes) (passes_same _ a is))

pub first_place : (a : ℕ) (bytes : List ℕ) (r : Option ℕ) → IsFirstByte (is_byte a) bytes r
    → MatchOption r (All (λ x. x ≢ a) bytes) (λ n. (n < length bytes) × All (λ x. x ≢ a) (take n bytes) × (bytes ≡ take n bytes ++ a ∷ drop (n + 1) bytes))
first_place a bytes None h = nowhere a bytes h
first_place a bytes (Some n) h = (h.0.high, nowhere_before a bytes n h.0.high h.0.before, parts_at a bytes n h.0.high h.1)
