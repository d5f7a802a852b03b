-- Tests on numbers, tokens, and lengths of lists.
use Rattle.std.proofs.Common.{◌≡◌, ◌≢◌, ℕ, suc, ◌<◌, ◌≤◌, true, false, List, [], ◌∷◌, sym, refl, ap, ◌∙◌, subst, arith, true≢false, map, length, Contains, nat_lt, nat_le}
use Rattle.std.specs.Cmp.Lexicographic.{slice_cmp, nat_list_cmp_total}
use Rattle.std.specs.declared.cmp.Ordering.{Ordering}
use Rattle.std.specs.declared.cmp.Ordering.TheVariants.{Less, Equal, Greater}
use Rattle.std.specs.Ordering.{nat_cmp, ordering_reverse, is_eq, is_lt}
use Rattle.std.proofs.lemmas.Bool.Decides.{nat_tests}
use Rattle.std.proofs.lemmas.Map.Lookups.{exact_bytes}

pub lt_true : (a b : ℕ) → nat_lt a b ≡ true → a < b
lt_true a b e = grind (arith, nat_tests)

pub lt_false : (a b : ℕ) → nat_lt a b ≡ false → b ≤ a
lt_false a b e = grind (arith, nat_tests)

pub le_true : (a b : ℕ) → nat_le a b ≡ true → a ≤ b
le_true a b e = grind (arith, nat_tests)

pub le_false : (a b : ℕ) → nat_le a b ≡ false → b < a
le_false a b e = grind (arith, nat_tests)

pub true_le : (a b : ℕ) → a ≤ b → nat_le a b ≡ true
true_le a b e = grind (arith, nat_tests)

abbrev pub Below : List ℕ → List ℕ → Type 0
Below a b = slice_cmp nat_cmp a b ≡ Less

pub token_itself : (a : List ℕ) → is_eq (slice_cmp nat_cmp a a) ≡ true
token_itself a = by (slice_cmp nat_cmp a a) (nat_list_cmp_total.antisymm a a)
  where
    by : (o : Ordering) → o ≡ ordering_reverse o → is_eq o ≡ true
    by Less h = absurd (true≢false (ap is_lt h))
    by Equal h = refl
    by Greater h = absurd (true≢false (sym (ap is_lt h)))

pub token_equal : (a b : List ℕ) → is_eq (slice_cmp nat_cmp a b) ≡ true → a ≡ b
token_equal a b h = exact_bytes a b (by (slice_cmp nat_cmp a b) h)
  where
    by : (o : Ordering) → is_eq o ≡ true → o ≡ Equal
    by Less k = absurd (true≢false (sym k))
    by Equal k = refl
    by Greater k = absurd (true≢false (sym k))

pub below_apart : (a b : List ℕ) → Below a b → a ≢ b
below_apart a b h e = true≢false (sym (token_itself a) ∙ ap is_eq (subst (λ z. slice_cmp nat_cmp a z ≡ Less) (sym e) h))

pub below_trans : (a b c : List ℕ) → Below a b → Below b c → Below a c
below_trans a b c h k = nat_list_cmp_total.trans a b c h k

module _ {A : Type 0} where
  pub some_length : (x : A) (xs : List A) → Contains xs x → 0 < length xs
  some_length x xs h = omega (arith, h.1)

module _ {A B : Type 0} where
  pub map_length : (g : A → B) (xs : List A) → length (map g xs) ≡ length xs
  map_length g [] = refl
  map_length g (x ∷ xs) = ap suc (map_length g xs)
