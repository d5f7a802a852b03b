-- Tests on numbers.
use Rattle.std.proofs.Common.{◌≡◌, ◌≤◌, ℕ, true, arith, nat_le}
use Rattle.std.proofs.lemmas.Bool.Decides.{nat_tests}

pub le_true : (a b : ℕ) → nat_le a b ≡ true → a ≤ b
le_true a b e = grind (arith, nat_tests)
