-- Entries that are put at their places.
use Rattle.std.proofs.Common.{◌≡◌, ℕ, zero, suc, ◌+◌, ◌<◌, ◌≤◌, List, [], ◌∷◌, ◌++◌, length, map, get_or, slice_set, Result, Ok, Err, Ordering, Less, Equal, Greater, nat_cmp, refl, sym, ap, subst, ◌∙◌, arith, append-nil}
use Rattle.std.specs.Cmp.Lexicographic.{slice_cmp}
use Rattle.std.specs.List.{insert}
use Rattle.std.specs.List.Sorted.{IsStrictlySortedBy}
use Rattle.std.specs.Ordering.{match_ordering}
use Rattle.std.specs.BTreeMap.{insert_entry}
use Rattle.cs_tree.specs.Order.{Name, name_cmp, names, IsRising, put_entry, put_all, seek, one_further}
use Rattle.cs_tree.specs.declared.entries.Entry.{Entry}
use Rattle.cs_tree.proofs.Names.{Below, turned, turned_back, Below-trans}

-- the same variant, n indexes on
abbrev pub further : ℕ → Result ℕ ℕ → Result ℕ ℕ
further n (Ok i) = Ok (n + i)
further n (Err i) = Err (n + i)

pub further-none : (r : Result ℕ ℕ) → r ≡ further 0 r
further-none (Ok i) = ap Ok (omega arith)
further-none (Err i) = ap Err (omega arith)

pub further-one : (n : ℕ) (r : Result ℕ ℕ) → further n (one_further r) ≡ further (n + 1) r
further-one n (Ok i) = ap Ok (omega arith)
further-one n (Err i) = ap Err (omega arith)

pub none_rises : (T : Type 0) → IsRising {T = T} []
unfolding IsStrictlySortedBy
none_rises T = tt

-- the index of either variant
abbrev index_of : Result ℕ ℕ → ℕ
index_of (Ok i) = i
index_of (Err i) = i

before_ok : (r : Result ℕ ℕ) (i : ℕ) → one_further r ≡ Ok i → (j : ℕ) × (r ≡ Ok j) × (i ≡ suc j)
before_ok (Ok j) i h = (j, refl, sym (ap index_of h))
before_ok (Err j) i h = absurd (cc)

before_err : (r : Result ℕ ℕ) (i : ℕ) → one_further r ≡ Err i → (j : ℕ) × (r ≡ Err j) × (i ≡ suc j)
before_err (Ok j) i h = absurd (cc)
before_err (Err j) i h = (j, refl, sym (ap index_of h))

module _ {T : Type 0} where
  -- what f's name becomes where e is put at it
  abbrev pub replaced : Entry Name T → Entry Name T → Entry Name T
  replaced e f = record { name = f.name; tree = e.tree }

  -- ---- the order is kept

  put_below-at : (k : Name) (o : Ordering) (e f : Entry Name T) (fs more : List (Entry Name T)) → name_cmp k e.name ≡ Less → Below k (names (f ∷ fs)) → Below k (names more)
      → Below k (names (match_ordering o (e ∷ f ∷ fs) (replaced e f ∷ fs) (f ∷ more)))
  put_below-at k Less e f fs more less h m = (less, h)
  put_below-at k Equal e f fs more less h m = h
  put_below-at k Greater e f fs more less h m = (h.0, m)

  put_below : (k : Name) (e : Entry Name T) (es : List (Entry Name T)) → name_cmp k e.name ≡ Less → Below k (names es) → Below k (names (put_entry e es))
  put_below k e [] less h = (less, tt)
  put_below k e (f ∷ fs) less h = put_below-at k (name_cmp e.name f.name) e f fs (put_entry e fs) less h (put_below k e fs less h.1)

  put_rising-at : (o : Ordering) (e f : Entry Name T) (fs : List (Entry Name T)) → name_cmp e.name f.name ≡ o → IsRising (f ∷ fs) → IsRising (put_entry e fs)
      → IsRising (match_ordering o (e ∷ f ∷ fs) (replaced e f ∷ fs) (f ∷ put_entry e fs))
  unfolding IsStrictlySortedBy
  put_rising-at Less e f fs is h m = ((is, Below-trans e.name f.name (names fs) is h.0), h)
  put_rising-at Equal e f fs is h m = h
  put_rising-at Greater e f fs is h m = (put_below f.name e fs (turned e.name f.name is) h.0, m)

  put_rising : (e : Entry Name T) (es : List (Entry Name T)) → IsRising es → IsRising (put_entry e es)
  unfolding IsStrictlySortedBy
  put_rising e [] h = (tt, tt)
  put_rising e (f ∷ fs) h = put_rising-at (name_cmp e.name f.name) e f fs refl h (put_rising e fs h.1)

  all_rising : (es more : List (Entry Name T)) → IsRising es → IsRising (put_all es more)
  all_rising es [] h = h
  all_rising es (e ∷ more) h = all_rising (put_entry e es) more (put_rising e es h)

  -- what is put one after another rises
  pub put_all-rising : (more : List (Entry Name T)) → IsRising (put_all [] more)
  put_all-rising more = all_rising [] more (none_rises T)

  -- ---- names that rise stay where they are

  below_middle : (k : Name) (done : List (Entry Name T)) (e : Entry Name T) (more : List (Entry Name T)) → Below k (names (done ++ e ∷ more)) → name_cmp k e.name ≡ Less
  below_middle k [] e more h = h.0
  below_middle k (x ∷ done) e more h = below_middle k done e more h.1

  put_last : (done : List (Entry Name T)) (e : Entry Name T) (more : List (Entry Name T)) → IsRising (done ++ e ∷ more) → put_entry e done ≡ done ++ e ∷ []
  unfolding IsStrictlySortedBy
  put_last [] e more h = refl
  put_last (f ∷ done) e more h = rw (turned_back e.name f.name (below_middle f.name done e more h.0)) (ap (λ es. f ∷ es) (put_last done e more h.1))

  one_by_one : (done : List (Entry Name T)) (e : Entry Name T) (more : List (Entry Name T)) → (done ++ e ∷ []) ++ more ≡ done ++ e ∷ more
  one_by_one [] e more = refl
  one_by_one (f ∷ done) e more = ap (λ es. f ∷ es) (one_by_one done e more)

  all_stay : (done more : List (Entry Name T)) → IsRising (done ++ more) → put_all done more ≡ done ++ more
  all_stay done [] h = sym (append-nil done)
  all_stay done (e ∷ more) h =
      ap (λ es. put_all es more) (put_last done e more h)
      ∙ all_stay (done ++ e ∷ []) more (subst IsRising (sym (one_by_one done e more)) h)
      ∙ one_by_one done e more

  pub rising_stay : (es : List (Entry Name T)) → IsRising es → es ≡ put_all [] es
  rising_stay es h = sym (all_stay [] es h)

  -- ---- one more

  put_all-push : (es done : List (Entry Name T)) (e : Entry Name T) → put_all es (done ++ e ∷ []) ≡ put_entry e (put_all es done)
  put_all-push es [] e = refl
  put_all-push es (f ∷ done) e = put_all-push (put_entry f es) done e

  -- one more of a text
  pub one_more : (before after done : List (Entry Name T)) (e : Entry Name T) → after ≡ put_entry e before → before ≡ put_all [] done → after ≡ put_all [] (done ++ e ∷ [])
  one_more before after done e put had = put ∙ ap (put_entry e) had ∙ sym (put_all-push [] done e)

  -- ---- one at its place

  -- x stands at i, and e's tree takes the place of x's
  abbrev pub IsReplaced : Entry Name T → List (Entry Name T) → ℕ → Entry Name T → Type 0
  IsReplaced e es i x = (i < length es) × (slice_set es i (replaced e x) ≡ put_entry e es)

  at_first : (e f x : Entry Name T) (fs : List (Entry Name T)) (i : ℕ) → 0 ≡ i → x ≡ get_or (f ∷ fs) i x → (i < length (f ∷ fs)) × (slice_set (f ∷ fs) i (replaced e x) ≡ replaced e f ∷ fs)
  at_first e f x fs zero is g = (omega arith, ap (λ (y : Entry Name T). replaced e y ∷ fs) g)
  at_first e f x fs (suc i) is g = absurd (omega (arith, is))

  put_at-by : (o : Ordering) (e f x : Entry Name T) (fs : List (Entry Name T)) (i : ℕ)
      → match_ordering o (Err 0) (Ok 0) (one_further (seek e.name.now (names fs))) ≡ Ok i → x ≡ get_or (f ∷ fs) i x
      → ((j : ℕ) → seek e.name.now (names fs) ≡ Ok j → x ≡ get_or fs j x → IsReplaced e fs j x)
      → (i < length (f ∷ fs)) × (slice_set (f ∷ fs) i (replaced e x) ≡ match_ordering o (e ∷ f ∷ fs) (replaced e f ∷ fs) (f ∷ put_entry e fs))
  put_at-by Less e f x fs i h g later = absurd (cc)
  put_at-by Equal e f x fs i h g later = at_first e f x fs i (ap index_of h) g
  put_at-by Greater e f x fs i h g later =
      let (j, found, is) = before_ok (seek e.name.now (names fs)) i h in
      subst (λ i. x ≡ get_or (f ∷ fs) i x → (i < length (f ∷ fs)) × (slice_set (f ∷ fs) i (replaced e x) ≡ f ∷ put_entry e fs)) (sym is)
      (λ g'. let r = later j found g' in (omega (arith, r.0), ap (λ es. f ∷ es) r.1)) g

  pub put_at : (e : Entry Name T) (es : List (Entry Name T)) (x : Entry Name T) (i : ℕ) → seek e.name.now (names es) ≡ Ok i → x ≡ get_or es i x → IsReplaced e es i x
  put_at e [] x i h g = absurd (cc)
  put_at e (f ∷ fs) x i h g = put_at-by (name_cmp e.name f.name) e f x fs i h g (put_at e fs x)

  -- e goes before i
  abbrev pub IsInserted : Entry Name T → List (Entry Name T) → ℕ → Type 0
  IsInserted e es i = (i ≤ length es) × (insert es i e ≡ put_entry e es)

  put_before-by : (o : Ordering) (e f : Entry Name T) (fs : List (Entry Name T)) (i : ℕ)
      → match_ordering o (Err 0) (Ok 0) (one_further (seek e.name.now (names fs))) ≡ Err i
      → ((j : ℕ) → seek e.name.now (names fs) ≡ Err j → IsInserted e fs j)
      → (i ≤ length (f ∷ fs)) × (insert (f ∷ fs) i e ≡ match_ordering o (e ∷ f ∷ fs) (replaced e f ∷ fs) (f ∷ put_entry e fs))
  put_before-by Less e f fs i h later = subst (λ i. (i ≤ length (f ∷ fs)) × (insert (f ∷ fs) i e ≡ e ∷ f ∷ fs)) (ap index_of h) (omega arith, refl)
  put_before-by Equal e f fs i h later = absurd (cc)
  put_before-by Greater e f fs i h later =
      let (j, found, is) = before_err (seek e.name.now (names fs)) i h in
      let r = later j found in
      subst (λ i. (i ≤ length (f ∷ fs)) × (insert (f ∷ fs) i e ≡ f ∷ put_entry e fs)) (sym is) (omega (arith, r.0), ap (λ es. f ∷ es) r.1)

  pub put_before : (e : Entry Name T) (es : List (Entry Name T)) (i : ℕ) → seek e.name.now (names es) ≡ Err i → IsInserted e es i
  put_before e [] i h = subst (λ i. (i ≤ 0) × (insert [] i e ≡ e ∷ [])) (ap index_of h) (omega arith, refl)
  put_before e (f ∷ fs) i h = put_before-by (name_cmp e.name f.name) e f fs i h (put_before e fs)

  pub put_now : (e : Entry Name T) (es after : List (Entry Name T)) (i : ℕ) → seek e.name.now (names es) ≡ Err i → after ≡ insert es i e → after ≡ put_entry e es
  put_now e es after i found is = is ∙ (put_before e es i found).1

  seek_within-by : (o : Ordering) (k : List ℕ) (f : Entry Name T) (fs : List (Entry Name T)) (i : ℕ)
      → match_ordering o (Err 0) (Ok 0) (one_further (seek k (names fs))) ≡ Ok i → ((j : ℕ) → seek k (names fs) ≡ Ok j → j < length fs) → i < length (f ∷ fs)
  seek_within-by Less k f fs i h later = absurd (cc)
  seek_within-by Equal k f fs i h later = omega (arith, ap index_of h)
  seek_within-by Greater k f fs i h later = let (j, found, is) = before_ok (seek k (names fs)) i h in omega (arith, is, later j found)

  pub seek_within : (k : List ℕ) (es : List (Entry Name T)) (i : ℕ) → seek k (names es) ≡ Ok i → i < length es
  seek_within k [] i h = absurd (cc)
  seek_within k (f ∷ fs) i h = seek_within-by (slice_cmp nat_cmp k f.name.now) k f fs i h (seek_within k fs)

  -- ---- the entries of a map

  abbrev pub of_pair : Name × T → Entry Name T
  of_pair p = record { name = p.0; tree = p.1 }

  abbrev pub of_pairs : List (Name × T) → List (Entry Name T)
  of_pairs ps = map of_pair ps

  of_pairs-match : (o : Ordering) (a b c : List (Name × T)) → of_pairs (match_ordering o a b c) ≡ match_ordering o (of_pairs a) (of_pairs b) (of_pairs c)
  of_pairs-match Less a b c = refl
  of_pairs-match Equal a b c = refl
  of_pairs-match Greater a b c = refl

  of_pairs-insert : (ps : List (Name × T)) (k : Name) (t : T) → of_pairs (insert_entry name_cmp ps k t) ≡ put_entry (of_pair (k, t)) (of_pairs ps)
  of_pairs-insert [] k t = refl
  of_pairs-insert (p ∷ ps) k t = of_pairs-match (name_cmp k p.0) _ _ _ ∙ rw (of_pairs-insert ps k t)

  -- one more of a text, in a map
  pub one_more_pair : (before after : List (Name × T)) (done : List (Entry Name T)) (e : Entry Name T)
      → after ≡ insert_entry name_cmp before e.name e.tree → of_pairs before ≡ put_all [] done → of_pairs after ≡ put_all [] (done ++ e ∷ [])
  one_more_pair before after done e put had = one_more (of_pairs before) (of_pairs after) done e (ap of_pairs put ∙ of_pairs-insert before e.name e.tree) had
