-- How many digits a number has, counted by dividing.
use Rattle.std.proofs.Common.{◌≡◌, ◌<◌, ◌≤◌, ◌^◌, ◌+◌, ◌/◌, ◌%◌, ℕ, [], ◌∷◌, decimal, length, length-append, ap, ◌∙◌, arith}
use Rattle.std.proofs.lemmas.Fmt.{decimal_digit, decimal_step, length-decimal-le}

pub one_more : (n : ℕ) → 10 ≤ n → n < 2 ^ 64 → length (decimal n) ≡ length (decimal (n / 10)) + 1
one_more n long fits = ap length (decimal_step n long fits) ∙ length-append (decimal (n / 10)) ((48 + n % 10) ∷ [])

pub one_digit : (n : ℕ) → n < 10 → length (decimal n) ≡ 1
one_digit n short = ap length (decimal_digit n short)

pub few : (n : ℕ) → n < 2 ^ 64 → length (decimal n) ≤ 20
few n fits = length-decimal-le 20 n (omega arith) (omega (arith, fits)) fits
