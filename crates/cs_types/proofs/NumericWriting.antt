-- The text that is written for a NUMERIC, digit by digit.
use Rattle.std.proofs.Common.{◌≡◌, ◌<◌, ◌≤◌, ◌^◌, ℕ, zero, suc, ◌+◌, ◌-◌, ◌*◌, ◌/◌, ◌%◌, List, [], ◌∷◌, ◌++◌, false, ◌==◌, append_assoc, append-nil, refl, ap, sym, ◌∙◌, arith}
use Rattle.std.proofs.Math.Nat.{pow-suc, mod-lt}
use Rattle.std.proofs.lemmas.Nat.{div_below}
use Rattle.cs_types.specs.Numeric.{fraction_digits}

pub ten_pow_pos : (k : ℕ) → 0 < 10 ^ k
ten_pow_pos zero = omega arith
ten_pow_pos (suc k) = let more : 0 < 10 ^ k = ten_pow_pos k in rw (pow-suc 10 k) (omega arith)

pub digit_below : (places r : ℕ) → 0 < r → r < 10 ^ places → r / 10 ^ (places - 1) < 10
digit_below zero r some low = absurd (omega (arith, some, low))
digit_below (suc k) r some low =
    let one : suc k - 1 ≡ k = omega arith in let below : r < 10 ^ k * 10 = rw (pow-suc 10 k) at low in
    rw one (div_below r (10 ^ k) 10 (ten_pow_pos k) (omega arith))

pub rest_below : (k r : ℕ) → r % 10 ^ k < 10 ^ k
rest_below k r = mod-lt r (ten_pow_pos k)

pub not_zero : (r : ℕ) → 0 < r → (r == 0) ≡ false
not_zero r h = grind (arith, h)

pub fraction_step : (places r : ℕ) → 0 < r → r < 10 ^ places → fraction_digits places r ≡ (48 + r / 10 ^ (places - 1)) ∷ fraction_digits (places - 1) (r % 10 ^ (places - 1))
unfolding fraction_digits
fraction_step zero r some low = absurd (omega (arith, some, low))
fraction_step (suc k) r some low = let one : suc k - 1 ≡ k = omega arith in rw (one, not_zero r some) refl

pub pushed : (text longer total : List ℕ) (places r unit : ℕ) → longer ≡ text ++ ((48 + r / unit) ∷ []) → unit ≡ 10 ^ (places - 1) → 0 < r → r < 10 ^ places → text ++ fraction_digits places r ≡ total
    → longer ++ fraction_digits (places - 1) (r % unit) ≡ total
pushed text longer total places r unit e u some low h =
    let step = fraction_step places r some low in
    rw (e, u) (append_assoc text _ _ ∙ ap (λ (rest : List ℕ). text ++ rest) (sym step) ∙ h)

pub nothing_left : (places : ℕ) → fraction_digits places 0 ≡ []
unfolding fraction_digits
nothing_left zero = refl
nothing_left (suc k) = refl

pub fraction_end : (text : List ℕ) (places r : ℕ) (total : List ℕ) → r ≤ 0 → text ++ fraction_digits places r ≡ total → text ≡ total
fraction_end text places r total none h =
    let is : r ≡ 0 = omega arith in
    sym (append-nil text) ∙ ap (λ (rest : List ℕ). text ++ rest) (sym (ap (fraction_digits places) is ∙ nothing_left places)) ∙ h
