-- The order of places.
use Rattle.std.proofs.Common.{◌≡◌, ◌⊎◌, true, false, Option, Some, None, inl, inr, ⊎_elim, sym, refl, ap, ◌∙◌, subst, true≢false, List, ℕ}
use Rattle.std.specs.declared.cmp.Ordering.{Ordering}
use Rattle.std.specs.declared.cmp.Ordering.TheVariants.{Less, Equal, Greater}
use Rattle.std.specs.Ordering.{nat_cmp, is_lt, is_eq, ordering_reverse}
use Rattle.std.specs.Cmp.Lexicographic.{slice_cmp, nat_list_cmp_total}
use Rattle.std.proofs.lemmas.Cmp.{tied_itself}
use Rattle.std.proofs.lemmas.Map.Lookups.{exact_bytes}
use Rattle.cs_place.specs.declared.place.Place.{Place}
use Rattle.cs_place.specs.Part.{is_below, IsBelowHigh}

pub is_less : (o : Ordering) → is_lt o ≡ true → o ≡ Less
is_less Less e = refl
is_less Equal e = absurd (true≢false (sym e))
is_less Greater e = absurd (true≢false (sym e))

pub is_equal : (o : Ordering) → is_eq o ≡ true → o ≡ Equal
is_equal Less e = absurd (true≢false (sym e))
is_equal Equal e = refl
is_equal Greater e = absurd (true≢false (sym e))

pub same_place : (a b : Place) → a.bytes ≡ b.bytes → a ≡ b
same_place a b e = ap (λ (x : List ℕ). record { bytes = x }) e

pub below_not_itself : (a : Place) → is_below a a ≡ false
below_not_itself a = ap is_lt (tied_itself nat_list_cmp_total a.bytes)

pub below_then : (a b c : Place) → is_below a b ≡ true → is_below b c ≡ true → is_below a c ≡ true
below_then a b c p q = ap is_lt (nat_list_cmp_total.trans a.bytes b.bytes c.bytes (is_less _ p) (is_less _ q))

pub below_not_above : (a b : Place) → is_below a b ≡ true → is_below b a ≡ false
below_not_above a b p = ap is_lt (nat_list_cmp_total.antisymm b.bytes a.bytes ∙ ap ordering_reverse (is_less _ p))

pub same_or_above : (a b : Place) → is_below a b ≡ false → (a ≡ b) ⊎ (is_below b a ≡ true)
same_or_above a b p = by (slice_cmp nat_cmp a.bytes b.bytes) refl
  where
    by : (o : Ordering) → slice_cmp nat_cmp a.bytes b.bytes ≡ o → (a ≡ b) ⊎ (is_below b a ≡ true)
    by Less e = absurd (true≢false (sym (ap is_lt e) ∙ p))
    by Equal e = inl (same_place a b (exact_bytes a.bytes b.bytes e))
    by Greater e = inr (ap is_lt (nat_list_cmp_total.antisymm b.bytes a.bytes ∙ ap ordering_reverse e))

-- a is not above b, which is below c
pub from_then : (a b c : Place) → is_below b a ≡ false → is_below b c ≡ true → is_below a c ≡ true
from_then a b c p q = ⊎_elim (λ (s : b ≡ a). subst (λ x. is_below x c ≡ true) s q) (λ (l : is_below a b ≡ true). below_then a b c l q) (same_or_above b a p)

-- a is below b, which is not above c
pub then_from : (a b c : Place) → is_below a b ≡ true → is_below c b ≡ false → is_below a c ≡ true
then_from a b c p q = ⊎_elim (λ (s : c ≡ b). subst (λ x. is_below a x ≡ true) (sym s) p) (λ (l : is_below b c ≡ true). below_then a b c p l) (same_or_above c b q)

-- a is not above b, which is not above c
pub from_from : (a b c : Place) → is_below b a ≡ false → is_below c b ≡ false → is_below c a ≡ false
from_from a b c p q = ⊎_elim (λ (s : b ≡ a). subst (λ x. is_below c x ≡ false) s q) (λ (l : is_below a b ≡ true). below_not_above a c (then_from a b c l q)) (same_or_above b a p)

pub below_high : (a b : Place) (high : Option Place) → is_below a b ≡ true → IsBelowHigh b high → IsBelowHigh a high
below_high a b None p h = tt
below_high a b (Some high) p h = below_then a b high p h

pub from_high : (a b : Place) (high : Option Place) → is_below b a ≡ false → IsBelowHigh b high → IsBelowHigh a high
from_high a b None p h = tt
from_high a b (Some high) p h = from_then a b high p h
