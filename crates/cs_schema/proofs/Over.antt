-- A number that has grown past its range stays past it.
use Rattle.std.proofs.Common.{◌≡◌, ◌∙◌, ap, refl, ℕ, ◌+◌, ◌*◌, ◌-◌, ◌<◌, List, [], ◌∷◌, Some, None, cond, false, true, Bool, arith, rules, nat_le, ◌&&◌, ◌==◌}
use Rattle.cs_schema.specs.Lengths.{is_digit, length_from}
use Rattle.cs_schema.specs.Options.{hours, days, unit_of, retention_from}

not_le : (n most : ℕ) → most < n → nat_le n most ≡ false
not_le n most lt = search rules

and_false : {A : Type 0} (a b : Bool) (x : A) → b ≡ false → cond (a && b) (Some x) None ≡ None
and_false true b x e = ap (λ c. cond c (Some x) None) e
and_false false b x e = refl

pub too_long : (most n : ℕ) (cs : List ℕ) → most < n → length_from most n cs ≡ None
too_long most n [] lt = and_false (nat_le 1 n) (nat_le n most) n (not_le n most lt)
too_long most n (c ∷ cs) lt = elim (is_digit c) as (λ b. cond b (length_from most (n * 10 + (c - 48)) cs) None ≡ None) [ true ↦ too_long most (n * 10 + (c - 48)) cs (omega (arith, lt)) | false ↦ refl ]

pub over_step : (most n c : ℕ) (cs : List ℕ) → is_digit c ≡ true → most < n * 10 + (c - 48) → length_from most n (c ∷ cs) ≡ None
over_step most n c cs e lt = ap (λ b. cond b (length_from most (n * 10 + (c - 48)) cs) None) e ∙ too_long most (n * 10 + (c - 48)) cs lt

hours_over : (n : ℕ) → 168 < n → hours n ≡ None
hours_over n lt = and_false (nat_le 24 n) (nat_le n 168) (n * 3600000000) (not_le n 168 lt)

days_over : (n : ℕ) → 168 < n → days n ≡ None
days_over n lt = and_false (nat_le 1 n) (nat_le n 7) (n * 86400000000) (not_le n 7 (omega (arith, lt)))

unit_over : (n c : ℕ) (cs : List ℕ) → 168 < n → unit_of n c cs ≡ None
unit_over n c [] lt = elim (c == 104) as (λ b. cond b (hours n) (cond (c == 100) (days n) None) ≡ None) [ true ↦ hours_over n lt | false ↦ elim (c == 100) as (λ b. cond b (days n) None ≡ None) [ true ↦ days_over n lt | false ↦ refl ] ]
unit_over n c (d ∷ cs) lt = refl

pub retention_over : (n : ℕ) (cs : List ℕ) → 168 < n → retention_from n cs ≡ None
retention_over n [] lt = refl
retention_over n (c ∷ cs) lt = elim (is_digit c) as (λ b. cond b (retention_from (n * 10 + (c - 48)) cs) (unit_of n c cs) ≡ None) [ true ↦ retention_over (n * 10 + (c - 48)) cs (omega (arith, lt)) | false ↦ unit_over n c cs lt ]

pub retention_step : (n c : ℕ) (cs : List ℕ) → is_digit c ≡ true → 168 < n * 10 + (c - 48) → retention_from n (c ∷ cs) ≡ None
retention_step n c cs e lt = ap (λ b. cond b (retention_from (n * 10 + (c - 48)) cs) (unit_of n c cs)) e ∙ retention_over (n * 10 + (c - 48)) cs lt
