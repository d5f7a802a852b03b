-- How many entries a row can still have.
use Rattle.std.proofs.Common.{ℕ, suc, ◌+◌, ◌-◌, ◌/◌, ◌<◌, ◌≤◌, Bool, true, false, arith}
use Rattle.std.proofs.lemmas.Nat.{le-div}
use Rattle.std.proofs.Math.Nat.{suc-mul, div-mul-le_self, add-div_left}
use Rattle.cs_room.specs.Room.{pace, entries_left}

module _ (k : ℕ) (positive : 0 < k) where
  pub quotient_less : (a b : ℕ) → a ≤ b → a / k ≤ b / k
  quotient_less a b l = let u = div-mul-le_self a k in le-div (a / k) b k positive (omega (arith, u, l))

  -- a step further is one less
  pub quotient_falls : (a b : ℕ) → a + k ≤ b → suc (a / k) ≤ b / k
  quotient_falls a b l =
      let u = div-mul-le_self a k in
      let v = suc-mul (a / k) k in
      le-div (suc (a / k)) b k positive (omega (arith, u, v, l))

  pub quotient_next : (a b : ℕ) → a ≤ suc b → a / k ≤ suc (b / k)
  quotient_next a b l =
      let u = quotient_less a (k + b) (omega (arith, l, positive)) in
      let v = add-div_left b positive in
      omega (arith, u, v)

pub left_less : (e m n : ℕ) (fin : Bool) → n ≤ m → entries_left e m fin ≤ entries_left e n false
left_less e m n true l = omega arith
left_less e m n false l = let u = quotient_less pace (omega arith) (suc e - m) (suc e - n) (omega (arith, l)) in omega (arith, u)

pub left_falls : (e m n : ℕ) (fin : Bool) → n + pace ≤ m → m ≤ suc e → suc (entries_left e m fin) ≤ entries_left e n false
left_falls e m n true l h = omega arith
left_falls e m n false l h = let u = quotient_falls pace (omega arith) (suc e - m) (suc e - n) (omega (arith, l, h)) in omega (arith, u)

pub left_most : (s e n : ℕ) (fin : Bool) → s ≤ n → entries_left e n fin ≤ 2 + (e - s) / pace
left_most s e n true l = omega arith
left_most s e n false l = let u = quotient_next pace (omega arith) (suc e - n) (e - s) (omega (arith, l)) in omega (arith, u)
