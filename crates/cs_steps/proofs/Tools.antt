-- Related pairs of a list that is mapped, and names among others.
use Rattle.std.proofs.Common.{◌≡◌, ◌⊎◌, ℕ, Bool, true, false, cond, List, [], ◌∷◌, ⊎_elim, sym, refl, ◌∙◌, subst, true≢false, Contains, map}
use Rattle.cs_types.specs.Names.{is_same, is_among}
use Rattle.cs_types.specs.Exact.{same_name-is}
use Rattle.cs_types.specs.Members.{Pairwise, in_nil, in_head, in_tail, in_cons, from_map}

module _ {A B : Type 0} where
  pub pairs_map : (R : A → A → Type 0) (f : B → A) (ys : List B) → Pairwise (λ a b. R (f a) (f b)) ys → Pairwise R (map f ys)
  pairs_map R f [] h = tt
  pairs_map R f (y ∷ ys) h = (λ x i. let u = from_map f x ys i in subst (R (f y)) (sym u.2) (h.0 u.0 u.1), pairs_map R f ys h.1)

pub in_among : (name : List ℕ) (names : List (List ℕ)) → Contains names name → is_among name names ≡ true
in_among name [] h = absurd (in_nil name h)
in_among name (n ∷ ns) h = by (is_same n name) refl (in_cons n name ns h) (in_among name ns)
  where
    by : (b : Bool) → is_same n name ≡ b → (name ≡ n) ⊎ Contains ns name → (Contains ns name → is_among name ns ≡ true) → cond b true (is_among name ns) ≡ true
    by true t c f = refl
    by false t c f = ⊎_elim (λ (s : name ≡ n). absurd (true≢false (sym ((same_name-is n name).1 (sym s)) ∙ t))) f c

pub from_among : (name : List ℕ) (names : List (List ℕ)) → is_among name names ≡ true → Contains names name
from_among name [] h = absurd (true≢false (sym h))
from_among name (n ∷ ns) h = by (is_same n name) refl h (from_among name ns)
  where
    by : (b : Bool) → is_same n name ≡ b → cond b true (is_among name ns) ≡ true → (is_among name ns ≡ true → Contains ns name) → Contains (n ∷ ns) name
    by true t k f = subst (Contains (n ∷ ns)) ((same_name-is n name).0 t) (in_head n ns)
    by false t k f = in_tail n name ns (f k)
