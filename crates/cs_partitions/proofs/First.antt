-- The layout of a new stream.
use Rattle.std.proofs.Common.{◌≡◌, ◌≢◌, ℕ, ◌<◌, ◌≤◌, true, false, List, [], ◌∷◌, ⊎_elim, sym, refl, ap, subst, arith, Contains}
use Rattle.std.specs.List.{AllPairs}
use Rattle.std.specs.Ordering.{nat_cmp, is_lt}
use Rattle.std.specs.Cmp.Lexicographic.{slice_cmp}
use Rattle.cs_types.specs.Token.{is_token}
use Rattle.cs_types.specs.Members.{in_nil, in_head, in_cons}
use Rattle.cs_place.specs.declared.place.Place.{Place}
use Rattle.cs_place.specs.declared.part.Part.{Part}
use Rattle.cs_place.specs.Part.{Holds, IsBefore, IsBelowHigh}
use Rattle.cs_place.specs.Layout.{IsSoundLayout}
use Rattle.cs_partitions.specs.Tokens.{token_of}
use Rattle.cs_partitions.specs.Layout.{IsLayout, AreNamedByLow, first_part, new_layout}

none_below : (xs : List ℕ) → is_lt (slice_cmp nat_cmp xs []) ≡ false
none_below [] = refl
none_below (x ∷ xs) = refl

module _ (stream : List ℕ) (created : ℕ) where
  one : (p : Part) → Contains (first_part stream created ∷ []) p → p ≡ first_part stream created
  one p i = ⊎_elim (λ (e : p ≡ first_part stream created). e) (λ (k : Contains [] p). absurd (in_nil p k)) (in_cons (first_part stream created) p [] i)

  holds : (x : Place) (t : ℕ) → created ≤ t → Holds (first_part stream created) x t
  holds x t late = record { inside = (none_below x.bytes, tt); live = record { born = late; lives = tt } }

  sound : IsSoundLayout created (first_part stream created ∷ [])
  sound = record {
    tokens = λ i j d l m. absurd (omega (arith, l, m));
    lives = λ p i. subst (λ (z : Part). IsBefore z.from z.until) (sym (one p i)) tt;
    ranges = λ p i. subst (λ (z : Part). IsBelowHigh z.range.low z.range.high) (sym (one p i)) tt;
    begins = λ p i. subst (λ (z : Part). created ≤ z.from) (sym (one p i)) (omega arith);
    first = λ p i e. ap (λ (z : Part). z.parents) (one p i);
    held = λ x t late. (first_part stream created, in_head (first_part stream created) [], holds x t late, λ other i h. one other i);
    parents = λ p i late token. absurd (later p i late);
    parents_once = λ p i. subst (λ (z : Part). AllPairs (λ a b. a ≢ b) z.parents) (sym (one p i)) (λ j k d l m. absurd (omega (arith, m)));
  }
    where
      later : (p : Part) → Contains (first_part stream created ∷ []) p → created < p.from → ⊥
      later p i late = let e : p.from ≡ created = ap (λ (z : Part). z.from) (one p i) in omega (arith, late, e)

  pub new_is_layout : is_token (token_of stream 0) ≡ true → IsLayout (new_layout stream created)
  new_is_layout h = record {
    sound = sound;
    tokens = (refl, tt);
    children = λ i j d l m. absurd (omega (arith, l, m));
    parents = λ p i. subst (λ (z : Part). AreNamedByLow (first_part stream created ∷ []) z.parents) (sym (one p i)) (λ j k d l m. absurd (omega (arith, m)));
    count = omega arith;
    name = h;
  }
