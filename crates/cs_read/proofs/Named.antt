-- The part of a token stands at its index.
use Rattle.std.proofs.Common.{◌≡◌, ℕ, suc, ◌<◌, Bool, true, false, cond, List, [], ◌∷◌, Option, None, Some, length, refl, sym, ap, ◌∙◌, subst, arith, Contains}
use Rattle.cs_types.specs.Names.{is_same}
use Rattle.cs_types.specs.Exact.{same_name-is}
use Rattle.cs_types.specs.Members.{in_head, in_tail}
use Rattle.cs_place.specs.declared.part.Part.{Part}
use Rattle.cs_partitions.specs.Reshape.{part_named, index_named, next_index}
use Rattle.cs_steps.specs.Cursor.{IsAt}

same_index : (a b : ℕ) → Some a ≡ Some b → a ≡ b
same_index a b e = cc

abbrev IsFoundAt : List ℕ → List Part → ℕ → Type 0
IsFoundAt token parts i = (p : Part) × IsAt parts i p × (part_named token parts ≡ Some p)

some_behind : (token : List ℕ) (q : Part) (qs : List Part) (i : ℕ) (o : Option ℕ) → index_named token qs ≡ o → next_index o ≡ Some i → ((j : ℕ) → index_named token qs ≡ Some j → IsFoundAt token qs j) → (p : Part) × IsAt (q ∷ qs) i p × (part_named token qs ≡ Some p)
some_behind token q qs i None s k f = cc
some_behind token q qs i (Some j) s k f = let r = f j s in (r.0, subst (λ n. IsAt (q ∷ qs) n r.0) (same_index (suc j) i k) (omega (arith, r.1.0), r.1.1), r.2)

pub index_some : (token : List ℕ) (parts : List Part) (i : ℕ) → index_named token parts ≡ Some i → (p : Part) × IsAt parts i p × (part_named token parts ≡ Some p)
index_some token [] i e = cc
index_some token (q ∷ qs) i e = by (is_same q.token token) e (λ j s. index_some token qs j s)
  where
    by : (b : Bool) → cond b (Some 0) (next_index (index_named token qs)) ≡ Some i → ((j : ℕ) → index_named token qs ≡ Some j → IsFoundAt token qs j) → (p : Part) × IsAt (q ∷ qs) i p × (cond b (Some q) (part_named token qs) ≡ Some p)
    by true k f = (q, subst (λ n. IsAt (q ∷ qs) n q) (same_index 0 i k) (omega arith, refl), refl)
    by false k f = some_behind token q qs i (index_named token qs) refl k f

none_behind : (o : Option ℕ) → next_index o ≡ None → o ≡ None
none_behind None k = refl
none_behind (Some j) k = cc

pub index_none : (token : List ℕ) (parts : List Part) → index_named token parts ≡ None → part_named token parts ≡ None
index_none token [] e = refl
index_none token (q ∷ qs) e = by (is_same q.token token) e (index_none token qs)
  where
    by : (b : Bool) → cond b (Some 0) (next_index (index_named token qs)) ≡ None → (index_named token qs ≡ None → part_named token qs ≡ None) → cond b (Some q) (part_named token qs) ≡ None
    by true k f = cc
    by false k f = f (none_behind (index_named token qs) k)

pub named_some : (token : List ℕ) (parts : List Part) (p : Part) → part_named token parts ≡ Some p → Contains parts p × (p.token ≡ token)
named_some token [] p h = cc
named_some token (q ∷ qs) p h = by (is_same q.token token) refl h (named_some token qs p)
  where
    some_same : (a b : Part) → Some a ≡ Some b → a ≡ b
    some_same a b e = cc

    by : (b : Bool) → is_same q.token token ≡ b → cond b (Some q) (part_named token qs) ≡ Some p → (part_named token qs ≡ Some p → Contains qs p × (p.token ≡ token)) → Contains (q ∷ qs) p × (p.token ≡ token)
    by true t k f = let s = some_same q p k in (subst (Contains (q ∷ qs)) s (in_head q qs), subst (λ (z : Part). z.token ≡ token) s ((same_name-is q.token token).0 t))
    by false t k f = let r = f k in (in_tail q p qs r.0, r.1)
