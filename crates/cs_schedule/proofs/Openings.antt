-- The tokens of children in rising order.
use Rattle.std.proofs.Common.{◌≡◌, ◌⊎◌, ℕ, true, List, [], ◌∷◌, ⊎_elim, inl, inr, sym, refl, ap, ◌∙◌, subst, Contains}
use Rattle.std.specs.declared.cmp.Ordering.{Ordering}
use Rattle.std.specs.declared.cmp.Ordering.TheVariants.{Less, Equal, Greater}
use Rattle.std.specs.Ordering.{nat_cmp, ordering_reverse, match_ordering, is_lt}
use Rattle.std.specs.BTreeSet.{insert_key}
use Rattle.std.specs.Cmp.Lexicographic.{slice_cmp, nat_list_cmp_total}
use Rattle.std.proofs.lemmas.Bool.{and_parts, and_from}
use Rattle.std.proofs.lemmas.Map.Lookups.{exact_bytes}
use Rattle.cs_types.specs.Members.{in_nil, in_head, in_tail, in_cons}
use Rattle.cs_link.specs.declared.batch.NewChild.{NewChild}
use Rattle.cs_schedule.specs.Opening.{tokens_with}
use Rattle.cs_schedule.specs.Spelling.{is_above, are_rising}
use Rattle.cs_schedule.specs.Update.{Opens}

turned : (a b : List ℕ) → slice_cmp nat_cmp a b ≡ Greater → slice_cmp nat_cmp b a ≡ Less
turned a b h = nat_list_cmp_total.antisymm b a ∙ ap ordering_reverse h

-- a token below which there is another stays below where that one is put among the rest
above_put : (x k : List ℕ) (ks : List (List ℕ)) → slice_cmp nat_cmp x k ≡ Less → is_above x ks ≡ true → is_above x (insert_key (slice_cmp nat_cmp) ks k) ≡ true
above_put x k [] low h = ap is_lt low
above_put x k (y ∷ ks) low h = by (slice_cmp nat_cmp k y)
  where
    by : (o : Ordering) → is_above x (match_ordering o (k ∷ y ∷ ks) (y ∷ ks) (y ∷ insert_key (slice_cmp nat_cmp) ks k)) ≡ true
    by Less = ap is_lt low
    by Equal = h
    by Greater = h

put_rising : (k : List ℕ) (ks : List (List ℕ)) → are_rising ks ≡ true → are_rising (insert_key (slice_cmp nat_cmp) ks k) ≡ true
put_rising k [] h = refl
put_rising k (x ∷ ks) h = by (slice_cmp nat_cmp k x) refl (put_rising k ks p.1)
  where
    p : (is_above x ks ≡ true) × (are_rising ks ≡ true)
    p = and_parts (is_above x ks) (are_rising ks) h

    by : (o : Ordering) → slice_cmp nat_cmp k x ≡ o → are_rising (insert_key (slice_cmp nat_cmp) ks k) ≡ true → are_rising (match_ordering o (k ∷ x ∷ ks) (x ∷ ks) (x ∷ insert_key (slice_cmp nat_cmp) ks k)) ≡ true
    by Less e f = and_from (is_lt (slice_cmp nat_cmp k x)) (are_rising (x ∷ ks)) (ap is_lt e) h
    by Equal e f = h
    by Greater e f = and_from (is_above x (insert_key (slice_cmp nat_cmp) ks k)) (are_rising (insert_key (slice_cmp nat_cmp) ks k)) (above_put x k ks (turned k x e) p.0) f

put_has : (k : List ℕ) (ks : List (List ℕ)) → Contains (insert_key (slice_cmp nat_cmp) ks k) k
put_has k [] = in_head k []
put_has k (x ∷ ks) = by (slice_cmp nat_cmp k x) refl (put_has k ks)
  where
    by : (o : Ordering) → slice_cmp nat_cmp k x ≡ o → Contains (insert_key (slice_cmp nat_cmp) ks k) k → Contains (match_ordering o (k ∷ x ∷ ks) (x ∷ ks) (x ∷ insert_key (slice_cmp nat_cmp) ks k)) k
    by Less e f = in_head k (x ∷ ks)
    by Equal e f = subst (λ z. Contains (x ∷ ks) z) (sym (exact_bytes k x e)) (in_head x ks)
    by Greater e f = in_tail x k (insert_key (slice_cmp nat_cmp) ks k) f

put_keeps : (k : List ℕ) (ks : List (List ℕ)) (t : List ℕ) → Contains ks t → Contains (insert_key (slice_cmp nat_cmp) ks k) t
put_keeps k [] t i = absurd (in_nil t i)
put_keeps k (x ∷ ks) t i = by (slice_cmp nat_cmp k x) (put_keeps k ks t)
  where
    by : (o : Ordering) → (Contains ks t → Contains (insert_key (slice_cmp nat_cmp) ks k) t) → Contains (match_ordering o (k ∷ x ∷ ks) (x ∷ ks) (x ∷ insert_key (slice_cmp nat_cmp) ks k)) t
    by Less f = in_tail k t (x ∷ ks) i
    by Equal f = i
    by Greater f = ⊎_elim
        (λ (e : t ≡ x). subst (λ z. Contains (x ∷ insert_key (slice_cmp nat_cmp) ks k) z) (sym e) (in_head x (insert_key (slice_cmp nat_cmp) ks k)))
        (λ (j : Contains ks t). in_tail x t (insert_key (slice_cmp nat_cmp) ks k) (f j))
        (in_cons x t ks i)

put_from : (k : List ℕ) (ks : List (List ℕ)) (t : List ℕ) → Contains (insert_key (slice_cmp nat_cmp) ks k) t → (t ≡ k) ⊎ Contains ks t
put_from k [] t i = in_cons k t [] i
put_from k (x ∷ ks) t i = by (slice_cmp nat_cmp k x) i (put_from k ks t)
  where
    by : (o : Ordering) → Contains (match_ordering o (k ∷ x ∷ ks) (x ∷ ks) (x ∷ insert_key (slice_cmp nat_cmp) ks k)) t → (Contains (insert_key (slice_cmp nat_cmp) ks k) t → (t ≡ k) ⊎ Contains ks t) → (t ≡ k) ⊎ Contains (x ∷ ks) t
    by Less j f = in_cons k t (x ∷ ks) j
    by Equal j f = inr j
    by Greater j f = ⊎_elim
        (λ (e : t ≡ x). inr (subst (λ z. Contains (x ∷ ks) z) (sym e) (in_head x ks)))
        (λ (l : Contains (insert_key (slice_cmp nat_cmp) ks k) t). ⊎_elim (λ (e : t ≡ k). inl e) (λ (m : Contains ks t). inr (in_tail x t ks m)) (f l))
        (in_cons x t (insert_key (slice_cmp nat_cmp) ks k) j)

with_rising : (ks : List (List ℕ)) (xs : List NewChild) → are_rising ks ≡ true → are_rising (tokens_with ks xs) ≡ true
with_rising ks [] h = h
with_rising ks (x ∷ xs) h = with_rising (insert_key (slice_cmp nat_cmp) ks x.token) xs (put_rising x.token ks h)

abbrev OfChild : List NewChild → List ℕ → Type 0
OfChild xs t = (y : NewChild) × Contains xs y × (y.token ≡ t)

with_kept : (ks : List (List ℕ)) (xs : List NewChild) (t : List ℕ) → Contains ks t → Contains (tokens_with ks xs) t
with_kept ks [] t i = i
with_kept ks (x ∷ xs) t i = with_kept (insert_key (slice_cmp nat_cmp) ks x.token) xs t (put_keeps x.token ks t i)

with_from : (ks : List (List ℕ)) (xs : List NewChild) (t : List ℕ) → Contains (tokens_with ks xs) t → Contains ks t ⊎ OfChild xs t
with_from ks [] t i = inl i
with_from ks (x ∷ xs) t i =
    ⊎_elim
    (λ (j : Contains (insert_key (slice_cmp nat_cmp) ks x.token) t). ⊎_elim
    (λ (e : t ≡ x.token). inr (x, in_head x xs, sym e))
    (λ (k : Contains ks t). inl k)
    (put_from x.token ks t j))
    (λ (j : OfChild xs t). inr (j.0, in_tail x j.0 xs j.1, j.2))
    (with_from (insert_key (slice_cmp nat_cmp) ks x.token) xs t i)

with_mine : (ks : List (List ℕ)) (xs : List NewChild) (y : NewChild) → Contains xs y → Contains (tokens_with ks xs) y.token
with_mine ks [] y i = absurd (in_nil y i)
with_mine ks (x ∷ xs) y i =
    ⊎_elim
    (λ (e : y ≡ x). with_kept (insert_key (slice_cmp nat_cmp) ks x.token) xs y.token (subst (λ (z : NewChild). Contains (insert_key (slice_cmp nat_cmp) ks x.token) z.token) (sym e) (put_has x.token ks)))
    (λ (j : Contains xs y). with_mine (insert_key (slice_cmp nat_cmp) ks x.token) xs y j)
    (in_cons x y xs i)

pub opens : (xs : List NewChild) → Opens (tokens_with [] xs) xs
opens xs = record {
  rising = with_rising [] xs refl;
  same = λ t. (
    λ i. ⊎_elim (λ (j : Contains [] t). absurd (in_nil t j)) (λ (j : OfChild xs t). j) (with_from [] xs t i),
    λ (y : OfChild xs t). subst (λ z. Contains (tokens_with [] xs) z) y.2 (with_mine [] xs y.0 y.1),
  );
}
