-- What an honest READ has brought so far gives a faithful batch.
use Rattle.std.proofs.Common.{◌≡◌, ◌≢◌, ◌⊎◌, ◌↔◌, ℕ, suc, ◌-◌, ◌<◌, ◌≤◌, max, Bool, true, false, cond, not, ◌||◌, List, [], ◌∷◌, ◌++◌, Option, Some, None, ⊎_elim, inl, inr, refl, ap, ◌∙◌, sym, subst, arith, true≢false, is_eq, filter, Contains, append-nil}
use Rattle.std.specs.declared.cmp.Ordering.{Ordering}
use Rattle.std.specs.declared.cmp.Ordering.TheVariants.{Less, Equal, Greater}
use Rattle.std.specs.Cmp.Lexicographic.{slice_cmp}
use Rattle.std.specs.Ordering.{nat_cmp, ordering_then}
use Rattle.std.proofs.lemmas.Bool.{cases_lt, le-leb, or_left, false_from_ne_true}
use Rattle.std.proofs.lemmas.List.Elements.{Contains-append_left, Contains-append_cases}
use Rattle.std.proofs.lemmas.Map.Lookups.{exact_bytes}
use Rattle.cs_types.specs.Exact.{same_row-is}
use Rattle.cs_types.specs.Row.{row_cmp}
use Rattle.cs_types.specs.declared.change.Change.{Change}
use Rattle.cs_types.specs.Members.{Pairwise, in_nil, in_head, in_tail, in_cons, in_filter, from_filter, snoc_append, pairs_to, pairs_from, pairs_append, pairs_two, pairs_filter, pairs_weaker, from_map}
use Rattle.cs_place.specs.declared.part.Part.{Part}
use Rattle.cs_place.specs.Part.{IsBefore}
use Rattle.cs_records.specs.declared.records.DataRecord.{DataRecord}
use Rattle.cs_records.specs.Told.{change_of, changes_told}
use Rattle.cs_link.specs.declared.batch.Ending.{Ending}
use Rattle.cs_link.specs.declared.batch.Known.{Known}
use Rattle.cs_link.specs.declared.batch.NewChild.{NewChild}
use Rattle.cs_link.specs.declared.feed.Feed.{Feed}
use Rattle.cs_link.specs.declared.reading.Step.{Step}
use Rattle.cs_link.specs.Batch.{limit, is_known, seen_of, seen_cmp, IsNewChild, IsFaithfulPart}
use Rattle.cs_link.specs.Feed.{IsOf, IsFeed}
use Rattle.cs_link.specs.Honest.{MayTell}
use Rattle.cs_fetch.specs.Keeping.{dated, dated_cmp, is_kept, keep}
use Rattle.cs_link.specs.Reading.{changes}
use Rattle.cs_fetch.proofs.Lists.{none_any}

-- ---- names

both : (o p : Ordering) → is_eq (ordering_then o p) ≡ true → (is_eq o ≡ true) × (is_eq p ≡ true)
both Less p e = cc
both Equal p e = (refl, e)
both Greater p e = cc

bytes_same : (a b : List ℕ) (o : Ordering) → slice_cmp nat_cmp a b ≡ o → is_eq o ≡ true → a ≡ b
bytes_same a b Less s e = cc
bytes_same a b Equal s e = exact_bytes a b s
bytes_same a b Greater s e = cc

pub same_name : (c d : Change) → is_eq (dated_cmp (dated c) (dated d)) ≡ true → (c.tx ≡ d.tx) × (c.row ≡ d.row)
same_name c d h =
    let u = both (nat_cmp c.stamp d.stamp) (seen_cmp (seen_of c) (seen_of d)) h in
    let v = both (slice_cmp nat_cmp c.tx d.tx) (row_cmp c.row d.row) u.1 in
    (bytes_same c.tx d.tx (slice_cmp nat_cmp c.tx d.tx) refl v.0, (same_row-is c.row d.row).0 v.1)

-- those that are not known
abbrev pub fresh : Known → List Change → List Change
fresh known cs = filter (λ c. not (is_known known c)) cs

abbrev pub is_same : Change → Change → Bool
is_same c d = is_eq (dated_cmp (dated c) (dated d))

module _ (known : Known) where
  keep_all : (kept cs : List Change) → ((c d : Change) → Contains cs c → Contains kept d → is_same c d ≡ false) → Pairwise (λ c d. is_same d c ≡ false) cs → keep known kept cs ≡ kept ++ fresh known cs
  keep_all kept [] h p = sym (append-nil kept)
  keep_all kept (c ∷ cs) h p = by (is_known known c) refl (none_any (is_same c) kept (λ d i. h c d (in_head c cs) i))
      (keep_all kept cs (λ a d i j. h a d (in_tail c a cs i) j) p.1)
      (keep_all (kept ++ c ∷ []) cs
      (λ a d i j. ⊎_elim
      (λ (l : Contains kept d). h a d (in_tail c a cs i) l)
      (λ (l : Contains (c ∷ []) d). ⊎_elim
      (λ (s : d ≡ c). ap (is_same a) s ∙ p.0 a i)
      (λ (n : Contains [] d). absurd (in_nil d n))
      (in_cons c d [] l))
      (Contains-append_cases kept (c ∷ []) d j))
      p.1)
    where
      by : (b : Bool) → is_known known c ≡ b → is_kept kept c ≡ false → keep known kept cs ≡ kept ++ fresh known cs → keep known (kept ++ c ∷ []) cs ≡ (kept ++ c ∷ []) ++ fresh known cs → keep known (cond (not (b || is_kept kept c)) (kept ++ c ∷ []) kept) cs ≡ kept ++ cond (not b) (c ∷ fresh known cs) (fresh known cs)
      by true g n a b = a
      by false g n a b = ap (λ z. keep known (cond (not z) (kept ++ c ∷ []) kept) cs) n ∙ b ∙ snoc_append kept (fresh known cs) c

module _ (f : Feed) (F : IsFeed f) where
  pub same_is : (c d : Change) → Contains f.wanted c → Contains f.wanted d → is_same c d ≡ true → c ≡ d
  same_is c d i j h =
      let u = same_name c d h in
      ⊎_elim
      (λ (s : c ≡ d). s)
      (λ o. ⊎_elim (λ g. absurd (g u.0 u.1)) (λ g. absurd (g (sym u.0) (sym u.1))) o)
      (pairs_two (λ (x y : Change). x.tx ≡ y.tx → x.row ≢ y.row) f.wanted (pairs_from (λ (x y : Change). x.tx ≡ y.tx → x.row ≢ y.row) f.wanted F.names) c d i j)

  not_same : (c d : Change) → Contains f.wanted c → Contains f.wanted d → c ≢ d → is_same c d ≡ false
  not_same c d i j n = false_from_ne_true (is_same c d) (λ h. n (same_is c d i j h))

  apart : (cs : List Change) → ((c : Change) → Contains cs c → Contains f.wanted c) → Pairwise (λ c d. c ≢ d) cs → Pairwise (λ c d. is_same d c ≡ false) cs
  apart [] h p = tt
  apart (c ∷ cs) h p = (λ d i. not_same d c (h d (in_tail c d cs i)) (h c (in_head c cs)) (λ s. p.0 d i (sym s)), apart cs (λ d i. h d (in_tail c d cs i)) p.1)

  pub new_is_fresh : (known : Known) (cs : List Change) → ((c : Change) → Contains cs c → Contains f.wanted c) → Pairwise (λ c d. c ≢ d) cs → keep known [] cs ≡ fresh known cs
  new_is_fresh known cs h p = keep_all known [] cs (λ c d i j. absurd (in_nil d j)) (apart cs h p)

-- ---- the changes so far

pub limit_both : (e t : ℕ) (o : Option ℕ) → t ≤ e → IsBefore t o → suc t ≤ limit e o
limit_both e t None h k = omega arith
limit_both e t (Some u) h k = omega arith

pub not_true : (b : Bool) → not b ≡ true → b ≡ false
not_true true h = absurd (true≢false (sym h))
not_true false h = refl

pub known_below : (known : Known) (c : Change) → c.stamp ≤ known.through → is_known known c ≡ true
known_below known c l = or_left _ _ (le-leb c.stamp known.through l)

-- the changes of a record have its stamp
pub its_stamp : (item : DataRecord) (c : Change) → Contains (changes_told item) c → c.stamp ≡ item.stamp
its_stamp item c i = let u = from_map (change_of item) c item.mods i in ap (λ (z : Change). z.stamp) u.2

module _ (f : Feed) (q : Part) (r e : ℕ) (known : Known) where
  -- the changes read so far against what the part wants, where all up to `through` is complete
  pub record Facts (cs : List Change) (through : ℕ) : Type 0 where
    pub order : Pairwise (λ c d. (c ≢ d) × (c.stamp ≤ d.stamp)) cs
    pub wanted : (c : Change) → Contains cs c → IsOf f q c × (r ≤ c.stamp) × (c.stamp ≤ suc through) × (c.stamp ≤ e)
    pub whole : (c : Change) → IsOf f q c → r ≤ c.stamp → c.stamp ≤ through → Contains cs c ⊎ (c.stamp ≤ known.through)
    pub low : known.through ≤ through
    pub top : suc through ≤ limit e q.until

  module _ (token : Option (List ℕ)) (start : (r ≡ known.through) ⊎ (r ≡ suc known.through)) where
    fresh_batch : (cs : List Change) (n : ℕ) (kids : List NewChild) (ending : Ending) → Facts cs n → (ending ≡ Ending.Finished → suc n ≡ limit e q.until) → ((x : NewChild) → Contains kids x ↔ ((ending ≡ Ending.Finished) × IsNewChild f e q x)) → Pairwise (λ x y. x.token ≢ y.token) kids → IsFaithfulPart f e known q (record { token = token; start = r; through = n; changes = fresh known cs; children = kids; ending = ending })
    fresh_batch cs n kids ending F ends children once =
        record {
          start = start;
          order = pairs_to (λ (c d : Change). (c ≢ d) × (c.stamp ≤ d.stamp)) (fresh known cs) (pairs_filter (λ (c d : Change). (c ≢ d) × (c.stamp ≤ d.stamp)) (λ c. not (is_known known c)) cs F.order);
          wanted = λ c i.
              let u = from_filter (λ x. not (is_known known x)) c cs i in
              let w = F.wanted c u.0 in
              (w.0, w.1, w.2, w.3, not_true (is_known known c) u.1);
          whole = λ c o a l. by c (is_known known c) refl (F.whole c o a l);
          rises = F.low;
          bound = F.top;
          ended = ends;
          children = children;
          once = pairs_to (λ (x y : NewChild). x.token ≢ y.token) kids once;
        }
      where
        by : (c : Change) (b : Bool) → is_known known c ≡ b → Contains cs c ⊎ (c.stamp ≤ known.through) → Contains (fresh known cs) c ⊎ (is_known known c ≡ true)
        by c true g h = inr g
        by c false g (inl j) = inl (in_filter (λ x. not (is_known known x)) c cs j (ap not g))
        by c false g (inr l) = absurd (true≢false (sym (known_below known c l) ∙ g))

    pub faithful : IsFeed f → (cs : List Change) (n : ℕ) (kids : List NewChild) (ending : Ending) → Facts cs n → (ending ≡ Ending.Finished → suc n ≡ limit e q.until) → ((x : NewChild) → Contains kids x ↔ ((ending ≡ Ending.Finished) × IsNewChild f e q x)) → Pairwise (λ x y. x.token ≢ y.token) kids → IsFaithfulPart f e known q (record { token = token; start = r; through = n; changes = keep known [] cs; children = kids; ending = ending })
    faithful G cs n kids ending F ends children once =
        subst (λ z. IsFaithfulPart f e known q (record { token = token; start = r; through = n; changes = z; children = kids; ending = ending }))
        (sym (new_is_fresh f G known cs (λ c i. (F.wanted c i).0.wanted) (pairs_weaker (λ (c d : Change). (c ≢ d) × (c.stamp ≤ d.stamp)) (λ (c d : Change). c ≢ d) cs (λ c d i j h. h.0) F.order)))
        (fresh_batch cs n kids ending F ends children once)

  module _ (m : ℕ) (done : List Step) (n : ℕ) (F : Facts (changes done) n) where
    pub with_data : (item : DataRecord) → MayTell f q r e m done item → (c : Change) × Contains (changes_told item) c → Facts (changes done ++ changes_told item) (max n (item.stamp - 1))
    with_data item D some =
        record {
          order = pairs_append (λ (c d : Change). (c ≢ d) × (c.stamp ≤ d.stamp)) (changes done) (changes_told item) F.order
              (pairs_weaker (λ (c d : Change). c ≢ d) (λ (c d : Change). (c ≢ d) × (c.stamp ≤ d.stamp)) (changes_told item) (λ c d i j h. (h, let a = its_stamp item c i in let b = its_stamp item d j in omega (arith, a, b))) (pairs_from (λ (c d : Change). c ≢ d) (changes_told item) D.once))
              (λ c d i j. (λ h. D.new d j (subst (λ z. Contains (changes done) z) h i), let a = D.order c i in let b = its_stamp item d j in omega (arith, a, b)));
          wanted = λ c i. ⊎_elim
              (λ (j : Contains (changes done) c). let w = F.wanted c j in (w.0, w.1, omega (arith, w.2), w.3))
              (λ (j : Contains (changes_told item) c). let s = its_stamp item c j in (D.wanted c j, omega (arith, s, D.within.0), omega (arith, s), omega (arith, s, D.within.1)))
              (Contains-append_cases (changes done) (changes_told item) c i);
          whole = λ c o a l. ⊎_elim
              (λ (b : n < c.stamp). inl (Contains-append_left (changes done) (changes_told item) c (D.whole c o a (omega (arith, l, b)))))
              (λ (b : c.stamp ≤ n). ⊎_elim (λ (j : Contains (changes done) c). inl (Contains-append_left (changes done) (changes_told item) c j)) (λ g. inr g) (F.whole c o a b))
              (cases_lt n c.stamp);
          low = omega (arith, F.low);
          top = let t = limit_both e item.stamp q.until D.within.1 lives in omega (arith, F.top, t);
        }
      where
        lives : IsBefore item.stamp q.until
        lives = subst (λ z. IsBefore z q.until) (its_stamp item some.0 some.1) (D.wanted some.0 some.1).held.live.lives

    -- all up to t stand there
    pub through : (t : ℕ) → suc t ≤ limit e q.until → ((c : Change) → IsOf f q c → r ≤ c.stamp → c.stamp < suc t → Contains (changes done) c) → Facts (changes done) (max n t)
    through t top all =
        record {
          order = F.order;
          wanted = λ c i. let w = F.wanted c i in (w.0, w.1, omega (arith, w.2), w.3);
          whole = λ c o a l. ⊎_elim (λ (b : n < c.stamp). inl (all c o a (omega (arith, l, b)))) (λ (b : c.stamp ≤ n). F.whole c o a b) (cases_lt n c.stamp);
          low = omega (arith, F.low);
          top = omega (arith, F.top, top);
        }
