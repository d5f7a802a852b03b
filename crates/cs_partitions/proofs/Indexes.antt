-- The index of the part of a token.
use Rattle.std.proofs.Common.{◌≡◌, ◌≢◌, ℕ, zero, suc, ◌+◌, ◌<◌, ◌≤◌, Bool, true, false, cond, List, [], ◌∷◌, ◌++◌, length, map, get_or, set, take, Option, Some, None, sym, refl, ap, ◌∙◌, subst, true≢false, Contains, ⊎_elim, arith}
use Rattle.std.specs.List.{slice_get}
use Rattle.cs_place.specs.declared.part.Part.{Part}
use Rattle.cs_types.specs.Names.{is_same, is_among}
use Rattle.cs_types.specs.Members.{in_nil, in_cons}
use Rattle.cs_partitions.specs.Tokens.{token_of, AreNumbered, AreOfOneStream}
use Rattle.cs_partitions.specs.Reshape.{part_named, index_named, next_index, with_end}
use Rattle.std.proofs.lemmas.List.{take_more}
use Rattle.cs_partitions.proofs.Naming.{same_is, same_itself, same_not}
use Rattle.cs_partitions.proofs.Numbering.{tokens_differ}

-- what stands at the index of a token
pub record IsIndexOf (stream token : List ℕ) (n : ℕ) (ps : List Part) (i : ℕ) (p : Part) : Type 0 where
  pub stands : slice_get ps i ≡ Some p
  pub same : p.token ≡ token
  pub number : token ≡ token_of stream (n + i)
  pub inside : i < length ps

pub index_of : (stream token : List ℕ) (n : ℕ) (ps : List Part) (i : ℕ) → AreNumbered stream n ps → index_named token ps ≡ Some i → (p : Part) × IsIndexOf stream token n ps i p
index_of stream token n [] i h e = cc
index_of stream token n (p ∷ ps) i h e = by (is_same p.token token) refl e (λ j k. index_of stream token (suc n) ps j h.1 k)
  where
    later : (o : Option ℕ) → index_named token ps ≡ o → next_index o ≡ Some i → ((j : ℕ) → index_named token ps ≡ Some j → (q : Part) × IsIndexOf stream token (suc n) ps j q) → (q : Part) × IsIndexOf stream token n (p ∷ ps) i q
    later None o e f = cc
    later (Some j) o e f =
        let r = f j o in
        let k : suc j ≡ i = cc in
        subst (λ m. (q : Part) × IsIndexOf stream token n (p ∷ ps) m q) k
        (r.0, record { stands = r.1.stands; same = r.1.same; number = r.1.number ∙ ap (token_of stream) (omega arith); inside = omega (arith, r.1.inside) })

    by : (b : Bool) → is_same p.token token ≡ b → cond b (Some 0) (next_index (index_named token ps)) ≡ Some i → ((j : ℕ) → index_named token ps ≡ Some j → (q : Part) × IsIndexOf stream token (suc n) ps j q) → (q : Part) × IsIndexOf stream token n (p ∷ ps) i q
    by true s e f =
        let k : 0 ≡ i = cc in
        let t = same_is p.token token s in
        subst (λ m. (q : Part) × IsIndexOf stream token n (p ∷ ps) m q) k (p, record { stands = refl; same = t; number = sym t ∙ h.0 ∙ ap (token_of stream) (omega arith); inside = omega arith })
    by false s e f = later (index_named token ps) refl e f

pub none_there : (token : List ℕ) (ps : List Part) (i : ℕ) (p : Part) → index_named token ps ≡ None → slice_get ps i ≡ Some p → p.token ≡ token → ⊥
none_there token [] i p e s t = cc
none_there token (q ∷ qs) i p e s t = by (is_same q.token token) refl e i s (λ j o k. none_there token qs j p o k t)
  where
    none : (o : Option ℕ) → next_index o ≡ None → o ≡ None
    none None e = refl
    none (Some j) e = cc

    by : (b : Bool) → is_same q.token token ≡ b → cond b (Some 0) (next_index (index_named token qs)) ≡ None → (i : ℕ) → slice_get (q ∷ qs) i ≡ Some p → ((j : ℕ) → index_named token qs ≡ None → slice_get qs j ≡ Some p → ⊥) → ⊥
    by true m e i s f = cc
    by false m e zero s f =
        let r : q ≡ p = cc in
        true≢false (sym (ap (λ (z : Part). is_same z.token token) r ∙ ap (λ z. is_same z token) t ∙ same_itself token) ∙ m)
    by false m e (suc j) s f = f j (none (index_named token qs) e) s

module _ (parts : List Part) (h : AreOfOneStream parts) (token : List ℕ) (index : ℕ) (number : (stream : List ℕ) (n : ℕ) → n < 100000 → token ≡ token_of stream n → index ≡ n) where
  found_at : (i : ℕ) → index_named token parts ≡ Some i → (p : Part) × IsIndexOf h.0 token 0 parts index p
  found_at i e =
      let r = index_of h.0 token 0 parts i h.1 e in
      let level : index ≡ i = number h.0 i (omega (arith, h.2, r.1.inside)) (r.1.number ∙ ap (token_of h.0) (omega arith)) in
      subst (λ m. (p : Part) × IsIndexOf h.0 token 0 parts m p) (sym level) r

  some_same : (i : ℕ) → index_named token parts ≡ Some i → index ≡ i
  some_same i e =
      let r = index_of h.0 token 0 parts i h.1 e in
      number h.0 i (omega (arith, h.2, r.1.inside)) (r.1.number ∙ ap (token_of h.0) (omega arith))

  pub found_here : (p : Part) → slice_get parts index ≡ Some p → is_same p.token token ≡ true → Some index ≡ index_named token parts
  found_here p s m = by (index_named token parts) refl
    where
      by : (o : Option ℕ) → index_named token parts ≡ o → Some index ≡ o
      by None e = absurd (none_there token parts index p e s (same_is p.token token m))
      by (Some i) e = ap Some (some_same i e)

  pub found_other : (p : Part) → slice_get parts index ≡ Some p → is_same p.token token ≡ false → None ≡ index_named token parts
  found_other p s m = by (index_named token parts) refl
    where
      by : (o : Option ℕ) → index_named token parts ≡ o → None ≡ o
      by None e = refl
      by (Some i) e =
          let r = found_at i e in
          let q : r.0 ≡ p = some_one (sym r.1.stands ∙ s) in
          absurd (true≢false (sym (ap (λ (z : Part). is_same z.token token) (sym q) ∙ ap (λ z. is_same z token) r.1.same ∙ same_itself token) ∙ m))
        where
          some_one : {a b : Part} → Some a ≡ Some b → a ≡ b
          some_one k = cc

  pub found_nowhere : slice_get parts index ≡ None → None ≡ index_named token parts
  found_nowhere s = by (index_named token parts) refl
    where
      none_some : {a : Part} → None ≡ Some a → ⊥
      none_some k = cc

      by : (o : Option ℕ) → index_named token parts ≡ o → None ≡ o
      by None e = refl
      by (Some i) e = let r = found_at i e in absurd (none_some (sym s ∙ r.1.stands))

pub stands_inside : (ps : List Part) (i : ℕ) (p : Part) → slice_get ps i ≡ Some p → i < length ps
stands_inside [] i p e = cc
stands_inside (q ∷ qs) zero p e = omega arith
stands_inside (q ∷ qs) (suc i) p e = omega (arith, stands_inside qs i p e)

-- the part at an index, if there is one
abbrev pub standing : List Part → Option ℕ → Option Part
standing ps None = None
standing ps (Some i) = slice_get ps i

pub stands_at : (token : List ℕ) (ps : List Part) → standing ps (index_named token ps) ≡ part_named token ps
stands_at token [] = refl
stands_at token (p ∷ ps) = by (is_same p.token token) (index_named token ps) (stands_at token ps)
  where
    by : (b : Bool) (o : Option ℕ) → standing ps o ≡ part_named token ps → standing (p ∷ ps) (cond b (Some 0) (next_index o)) ≡ cond b (Some p) (part_named token ps)
    by true o e = refl
    by false None e = e
    by false (Some i) e = e

-- ends, one after another

ends_none : (t : List ℕ) (at : ℕ) (ps : List Part) → index_named t ps ≡ None → map (with_end (t ∷ []) at) ps ≡ ps
ends_none t at [] e = refl
ends_none t at (p ∷ ps) e = by (is_same p.token t) refl e (λ k. ends_none t at ps k)
  where
    none : (o : Option ℕ) → next_index o ≡ None → o ≡ None
    none None e = refl
    none (Some j) e = cc

    other : is_same t p.token ≡ false → with_end (t ∷ []) at p ≡ p
    other m = ap (λ b. cond (cond b true false) (record p { until = Some at }) p) m

    by : (b : Bool) → is_same p.token t ≡ b → cond b (Some 0) (next_index (index_named t ps)) ≡ None → (index_named t ps ≡ None → map (with_end (t ∷ []) at) ps ≡ ps) → map (with_end (t ∷ []) at) (p ∷ ps) ≡ p ∷ ps
    by true m e f = cc
    by false m e f =
        ap (λ q. q ∷ map (with_end (t ∷ []) at) ps) (other (same_not t p.token m)) ∙ ap (λ qs. p ∷ qs) (f (none (index_named t ps) e))

none_later : (stream t : List ℕ) (m n : ℕ) (ps : List Part) → AreNumbered stream n ps → t ≡ token_of stream m → m < n → n + length ps ≤ 65536 → index_named t ps ≡ None
none_later stream t m n ps h is less most = by (index_named t ps) refl
  where
    by : (o : Option ℕ) → index_named t ps ≡ o → o ≡ None
    by None e = refl
    by (Some j) e =
        let r = index_of stream t n ps j h e in
        let level : m ≡ n + j = tokens_differ stream m (n + j) (omega (arith, less, most)) (omega (arith, most, r.1.inside)) (sym is ∙ r.1.number) in
        absurd (omega (arith, level, less))

ends_at : (stream t : List ℕ) (at n : ℕ) (ps : List Part) (i : ℕ) (d : Part) → AreNumbered stream n ps → n + length ps ≤ 65536 → index_named t ps ≡ Some i → set ps i (record (get_or ps i d) { until = Some at }) ≡ map (with_end (t ∷ []) at) ps
ends_at stream t at n [] i d h most e = cc
ends_at stream t at n (p ∷ ps) i d h most e = by (is_same p.token t) refl e (λ j k. ends_at stream t at (suc n) ps j d h.1 (omega (arith, most)) k)
  where
    here : is_same t p.token ≡ true → with_end (t ∷ []) at p ≡ record p { until = Some at }
    here m = ap (λ b. cond (cond b true false) (record p { until = Some at }) p) m

    other : is_same t p.token ≡ false → with_end (t ∷ []) at p ≡ p
    other m = ap (λ b. cond (cond b true false) (record p { until = Some at }) p) m

    later : (o : Option ℕ) → index_named t ps ≡ o → next_index o ≡ Some i → is_same p.token t ≡ false → ((j : ℕ) → index_named t ps ≡ Some j → set ps j (record (get_or ps j d) { until = Some at }) ≡ map (with_end (t ∷ []) at) ps) → set (p ∷ ps) i (record (get_or (p ∷ ps) i d) { until = Some at }) ≡ map (with_end (t ∷ []) at) (p ∷ ps)
    later None o e m f = cc
    later (Some j) o e m f =
        let k : suc j ≡ i = cc in
        subst (λ z. set (p ∷ ps) z (record (get_or (p ∷ ps) z d) { until = Some at }) ≡ map (with_end (t ∷ []) at) (p ∷ ps)) k
        (ap (λ qs. p ∷ qs) (f j o) ∙ ap (λ q. q ∷ map (with_end (t ∷ []) at) ps) (sym (other (same_not t p.token m))))

    by : (b : Bool) → is_same p.token t ≡ b → cond b (Some 0) (next_index (index_named t ps)) ≡ Some i → ((j : ℕ) → index_named t ps ≡ Some j → set ps j (record (get_or ps j d) { until = Some at }) ≡ map (with_end (t ∷ []) at) ps) → set (p ∷ ps) i (record (get_or (p ∷ ps) i d) { until = Some at }) ≡ map (with_end (t ∷ []) at) (p ∷ ps)
    by true m e f =
        let k : 0 ≡ i = cc in
        let same : t ≡ token_of stream n = sym (same_is p.token t m) ∙ h.0 in
        let back : is_same t p.token ≡ true = ap (λ z. is_same t z) (same_is p.token t m) ∙ same_itself t in
        subst (λ z. set (p ∷ ps) z (record (get_or (p ∷ ps) z d) { until = Some at }) ≡ map (with_end (t ∷ []) at) (p ∷ ps)) k
        (ap (λ q. q ∷ ps) (sym (here back)) ∙ ap (λ qs. with_end (t ∷ []) at p ∷ qs) (sym (ends_none t at ps (none_later stream t n (suc n) ps h.1 same (omega arith) (omega (arith, most))))))
    by false m e f = later (index_named t ps) refl e m f

pub among_more : (token t : List ℕ) (ts : List (List ℕ)) → is_among token (ts ++ t ∷ []) ≡ cond (is_among token (t ∷ [])) true (is_among token ts)
among_more token t [] = elim (is_same t token) as (λ b. cond b true false ≡ cond (cond b true false) true false) [ true ↦ refl | false ↦ refl ]
among_more token t (s ∷ ts) = by (is_same s token) (is_among token (t ∷ [])) (among_more token t ts)
  where
    by : (b c : Bool) → is_among token (ts ++ t ∷ []) ≡ cond c true (is_among token ts) → cond b true (is_among token (ts ++ t ∷ [])) ≡ cond c true (cond b true (is_among token ts))
    by true true e = refl
    by true false e = refl
    by false c e = e

one_more : (at : ℕ) (t : List ℕ) (ts : List (List ℕ)) (p : Part) → with_end (ts ++ t ∷ []) at p ≡ with_end (t ∷ []) at (with_end ts at p)
one_more at t ts p =
    ap (λ b. cond b (record p { until = Some at }) p) (among_more p.token t ts) ∙ by (is_among p.token ts) (is_among p.token (t ∷ [])) refl refl
  where
    by : (b c : Bool) → is_among p.token ts ≡ b → is_among p.token (t ∷ []) ≡ c → cond (cond c true b) (record p { until = Some at }) p ≡ with_end (t ∷ []) at (cond b (record p { until = Some at }) p)
    by true true e f = sym (ap (λ z. cond z (record p { until = Some at }) (record p { until = Some at })) f)
    by true false e f = sym (ap (λ z. cond z (record p { until = Some at }) (record p { until = Some at })) f)
    by false true e f = sym (ap (λ z. cond z (record p { until = Some at }) p) f)
    by false false e f = sym (ap (λ z. cond z (record p { until = Some at }) p) f)

ends_more : (at : ℕ) (t : List ℕ) (ts : List (List ℕ)) (ps : List Part) → map (with_end (ts ++ t ∷ []) at) ps ≡ map (with_end (t ∷ []) at) (map (with_end ts at) ps)
ends_more at t ts [] = refl
ends_more at t ts (p ∷ ps) = ap (λ q. q ∷ map (with_end (ts ++ t ∷ []) at) ps) (one_more at t ts p) ∙ ap (λ qs. with_end (t ∷ []) at (with_end ts at p) ∷ qs) (ends_more at t ts ps)

pub ends_start : (at : ℕ) (ps : List Part) → map (with_end [] at) ps ≡ ps
ends_start at [] = refl
ends_start at (p ∷ ps) = ap (λ qs. p ∷ qs) (ends_start at ps)

numbered_same : (stream : List ℕ) (n : ℕ) (ts : List (List ℕ)) (at : ℕ) (ps : List Part) → AreNumbered stream n ps → AreNumbered stream n (map (with_end ts at) ps)
numbered_same stream n ts at [] h = tt
numbered_same stream n ts at (p ∷ ps) h = (elim (is_among p.token ts) as (λ b. (cond b (record p { until = Some at }) p).token ≡ token_of stream n) [ true ↦ h.0 | false ↦ h.0 ], numbered_same stream (suc n) ts at ps h.1)

pub length_ends : (ts : List (List ℕ)) (at : ℕ) (ps : List Part) → length (map (with_end ts at) ps) ≡ length ps
length_ends ts at [] = refl
length_ends ts at (p ∷ ps) = ap suc (length_ends ts at ps)

pub of_one_stream : (ts : List (List ℕ)) (at : ℕ) (ps qs : List Part) → AreOfOneStream ps → qs ≡ map (with_end ts at) ps → AreOfOneStream qs
of_one_stream ts at ps qs h e = subst AreOfOneStream (sym e) (h.0, numbered_same h.0 0 ts at ps h.1, omega (arith, h.2, length_ends ts at ps))

take_one : (ts : List (List ℕ)) (i : ℕ) (t : List ℕ) → i < length ts → t ≡ get_or ts i t → take (i + 1) ts ≡ take i ts ++ t ∷ []
take_one ts i t l e = take_more ts i t l ∙ ap (λ z. take i ts ++ z ∷ []) (sym e)

module _ (ps qs : List Part) (h : AreOfOneStream ps) (at : ℕ) (ts : List (List ℕ)) (i : ℕ) (t : List ℕ) (l : i < length ts) (is : t ≡ get_or ts i t) (e : qs ≡ map (with_end (take i ts) at) ps) where
  here_more : map (with_end (take (i + 1) ts) at) ps ≡ map (with_end (t ∷ []) at) qs
  here_more = ap (λ z. map (with_end z at) ps) (take_one ts i t l is) ∙ ends_more at t (take i ts) ps ∙ ap (map (with_end (t ∷ []) at)) (sym e)

  pub end_none : index_named t qs ≡ None → qs ≡ map (with_end (take (i + 1) ts) at) ps
  end_none n = sym (here_more ∙ ends_none t at qs n)

  pub end_some : (k : ℕ) (d : Part) → index_named t qs ≡ Some k → set qs k (record (get_or qs k d) { until = Some at }) ≡ map (with_end (take (i + 1) ts) at) ps
  end_some k d n =
      let o = of_one_stream (take i ts) at ps qs h e in
      ends_at o.0 t at 0 qs k d o.1 (omega (arith, o.2)) n ∙ sym here_more

-- what is found by a token has it, and where nothing is found no part has it

next_none : (o : Option ℕ) → next_index o ≡ None → o ≡ None
next_none None e = refl
next_none (Some j) e = cc

pub index_found : (token : List ℕ) (ps : List Part) (i : ℕ) → index_named token ps ≡ Some i → (i < length ps) × ((d : Part) → (get_or ps i d).token ≡ token)
index_found token [] i e = cc
index_found token (p ∷ ps) i e = by (is_same p.token token) refl e (λ j k. index_found token ps j k)
  where
    later : (o : Option ℕ) → index_named token ps ≡ o → next_index o ≡ Some i → ((j : ℕ) → index_named token ps ≡ Some j → (j < length ps) × ((d : Part) → (get_or ps j d).token ≡ token)) → (i < length (p ∷ ps)) × ((d : Part) → (get_or (p ∷ ps) i d).token ≡ token)
    later None o e f = cc
    later (Some j) o e f =
        let k : suc j ≡ i = cc in
        subst (λ m. (m < length (p ∷ ps)) × ((d : Part) → (get_or (p ∷ ps) m d).token ≡ token)) k (omega (arith, (f j o).0), (f j o).1)

    by : (b : Bool) → is_same p.token token ≡ b → cond b (Some 0) (next_index (index_named token ps)) ≡ Some i → ((j : ℕ) → index_named token ps ≡ Some j → (j < length ps) × ((d : Part) → (get_or ps j d).token ≡ token)) → (i < length (p ∷ ps)) × ((d : Part) → (get_or (p ∷ ps) i d).token ≡ token)
    by true s e f =
        let k : 0 ≡ i = cc in
        subst (λ m. (m < length (p ∷ ps)) × ((d : Part) → (get_or (p ∷ ps) m d).token ≡ token)) k (omega arith, λ d. same_is p.token token s)
    by false s e f = later (index_named token ps) refl e f

pub index_none : (token : List ℕ) (ps : List Part) → index_named token ps ≡ None → (p : Part) → Contains ps p → p.token ≢ token
index_none token [] e p i t = in_nil p i
index_none token (q ∷ qs) e p i t = by (is_same q.token token) refl e (λ k j. index_none token qs k p j t)
  where
    by : (b : Bool) → is_same q.token token ≡ b → cond b (Some 0) (next_index (index_named token qs)) ≡ None → (index_named token qs ≡ None → Contains qs p → ⊥) → ⊥
    by true s e f = cc
    by false s e f =
        ⊎_elim
        (λ (k : p ≡ q). true≢false (sym (ap (λ z. is_same z token) (sym (ap (λ (z : Part). z.token) k) ∙ t) ∙ same_itself token) ∙ s))
        (λ (k : Contains qs p). f (next_none (index_named token qs) e) k)
        (in_cons q p qs i)
