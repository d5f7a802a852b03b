-- Parts in order of low are the same parts.
use Rattle.std.proofs.Common.{◌≡◌, ◌⊎◌, suc, Bool, true, false, cond, List, [], ◌∷◌, length, ⊎_elim, inl, inr, refl, sym, ap, ◌∙◌, subst, Contains}
use Rattle.cs_types.specs.Members.{Pairwise, in_nil, in_head, in_tail, in_cons}
use Rattle.cs_place.specs.declared.part.Part.{Part}
use Rattle.cs_place.specs.Part.{is_below}
use Rattle.cs_steps.specs.Steps.{put_by_low, by_low}

from_put : (p : Part) (ps : List Part) (x : Part) → Contains (put_by_low p ps) x → (x ≡ p) ⊎ Contains ps x
from_put p [] x h = in_cons p x [] h
from_put p (q ∷ qs) x h = by (is_below p.range.low q.range.low) (from_put p qs x) h
  where
    by : (b : Bool) → (Contains (put_by_low p qs) x → (x ≡ p) ⊎ Contains qs x) → Contains (cond b (p ∷ q ∷ qs) (q ∷ put_by_low p qs)) x → (x ≡ p) ⊎ Contains (q ∷ qs) x
    by true f k = in_cons p x (q ∷ qs) k
    by false f k = ⊎_elim
        (λ (s : x ≡ q). inr (subst (λ z. Contains (q ∷ qs) z) (sym s) (in_head q qs)))
        (λ (j : Contains (put_by_low p qs) x). ⊎_elim (λ (s : x ≡ p). inl s) (λ (i : Contains qs x). inr (in_tail q x qs i)) (f j))
        (in_cons q x (put_by_low p qs) k)

into_put : (p : Part) (ps : List Part) (x : Part) → (x ≡ p) ⊎ Contains ps x → Contains (put_by_low p ps) x
into_put p [] x (inl s) = subst (λ z. Contains (p ∷ []) z) (sym s) (in_head p [])
into_put p [] x (inr h) = absurd (in_nil x h)
into_put p (q ∷ qs) x h = by (is_below p.range.low q.range.low) (into_put p qs x) h
  where
    by : (b : Bool) → ((x ≡ p) ⊎ Contains qs x → Contains (put_by_low p qs) x) → (x ≡ p) ⊎ Contains (q ∷ qs) x → Contains (cond b (p ∷ q ∷ qs) (q ∷ put_by_low p qs)) x
    by true f (inl s) = subst (λ z. Contains (p ∷ q ∷ qs) z) (sym s) (in_head p (q ∷ qs))
    by true f (inr k) = in_tail p x (q ∷ qs) k
    by false f (inl s) = in_tail q x (put_by_low p qs) (f (inl s))
    by false f (inr k) = ⊎_elim
        (λ (s : x ≡ q). subst (λ z. Contains (q ∷ put_by_low p qs) z) (sym s) (in_head q (put_by_low p qs)))
        (λ (j : Contains qs x). in_tail q x (put_by_low p qs) (f (inr j)))
        (in_cons q x qs k)

pub from_low : (ps : List Part) (x : Part) → Contains (by_low ps) x → Contains ps x
from_low [] x h = h
from_low (p ∷ ps) x h = ⊎_elim
    (λ (s : x ≡ p). subst (λ z. Contains (p ∷ ps) z) (sym s) (in_head p ps))
    (λ (j : Contains (by_low ps) x). in_tail p x ps (from_low ps x j))
    (from_put p (by_low ps) x h)

pub into_low : (ps : List Part) (x : Part) → Contains ps x → Contains (by_low ps) x
into_low [] x h = h
into_low (p ∷ ps) x h = into_put p (by_low ps) x (⊎_elim (λ (s : x ≡ p). inl s) (λ (j : Contains ps x). inr (into_low ps x j)) (in_cons p x ps h))

length_put : (p : Part) (ps : List Part) → length (put_by_low p ps) ≡ suc (length ps)
length_put p [] = refl
length_put p (q ∷ qs) = by (is_below p.range.low q.range.low) (length_put p qs)
  where
    by : (b : Bool) → length (put_by_low p qs) ≡ suc (length qs) → length (cond b (p ∷ q ∷ qs) (q ∷ put_by_low p qs)) ≡ suc (suc (length qs))
    by true h = refl
    by false h = ap suc h

pub length_low : (ps : List Part) → length (by_low ps) ≡ length ps
length_low [] = refl
length_low (p ∷ ps) = length_put p (by_low ps) ∙ ap suc (length_low ps)

module _ (R : Part → Part → Type 0) (either : (a b : Part) → R a b → R b a) where
  pairs_put : (p : Part) (ps : List Part) → Pairwise R ps → ((x : Part) → Contains ps x → R p x) → Pairwise R (put_by_low p ps)
  pairs_put p [] h k = (λ y j. absurd (in_nil y j), tt)
  pairs_put p (q ∷ qs) h k = by (is_below p.range.low q.range.low) (pairs_put p qs h.1 (λ x j. k x (in_tail q x qs j)))
    where
      by : (b : Bool) → Pairwise R (put_by_low p qs) → Pairwise R (cond b (p ∷ q ∷ qs) (q ∷ put_by_low p qs))
      by true f = (k, h)
      by false f = (
        λ y j. ⊎_elim (λ (s : y ≡ p). subst (R q) (sym s) (either p q (k q (in_head q qs)))) (λ (i : Contains qs y). h.0 y i) (from_put p qs y j),
        f,
      )

  pub pairs_low : (ps : List Part) → Pairwise R ps → Pairwise R (by_low ps)
  pairs_low [] h = h
  pairs_low (p ∷ ps) h = pairs_put p (by_low ps) (pairs_low ps h.1) (λ x j. h.0 x (from_low ps x j))
