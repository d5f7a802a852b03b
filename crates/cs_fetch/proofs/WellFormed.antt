-- A batch is well formed by itself, whoever gives the steps.
use Rattle.std.proofs.Common.{◌≡◌, ◌≢◌, ◌⊎◌, ℕ, suc, ◌≤◌, max, Bool, true, false, cond, not, ◌||◌, List, [], ◌∷◌, ◌++◌, map, length, Option, Some, None, is_some, ⊎_elim, inl, inr, refl, ap, ◌∙◌, sym, subst, arith, true≢false, is_eq, leb, ltb, eqb, Contains}
use Rattle.std.specs.Cmp.{eq_by_cmp_equiv}
use Rattle.std.specs.Cmp.Lexicographic.{slice_cmp, nat_list_cmp_total}
use Rattle.std.specs.Option.{option_or, option_map}
use Rattle.std.specs.Ordering.{nat_cmp}
use Rattle.std.proofs.lemmas.Bool.{leb-false, ltb-false, or_parts, eqb-true}
use Rattle.std.proofs.lemmas.List.Elements.{Contains-append_cases}
use Rattle.cs_types.specs.declared.change.Change.{Change}
use Rattle.cs_types.specs.Members.{Pairwise, in_nil, in_head, in_tail, in_cons, pairs_to, pairs_append, from_map}
use Rattle.cs_records.specs.declared.records.Child.{Child}
use Rattle.cs_records.specs.declared.records.ChildRecord.{ChildRecord}
use Rattle.cs_records.specs.declared.records.DataRecord.{DataRecord}
use Rattle.cs_records.specs.declared.records.Record.{Record}
use Rattle.cs_records.specs.Told.{changes_told}
use Rattle.cs_link.specs.declared.batch.Ending.{Ending}
use Rattle.cs_link.specs.declared.batch.Known.{Known}
use Rattle.cs_link.specs.declared.batch.Limits.{Limits}
use Rattle.cs_link.specs.declared.batch.NewChild.{NewChild}
use Rattle.cs_link.specs.declared.breach.Breach.{Breach}
use Rattle.cs_link.specs.declared.reading.Closing.{Closing}
use Rattle.cs_link.specs.declared.reading.ReadArgs.{ReadArgs}
use Rattle.cs_link.specs.declared.reading.Step.{Step}
use Rattle.cs_fetch.specs.declared.so_far.Marks.{Marks}
use Rattle.cs_fetch.specs.declared.so_far.SoFar.{SoFar}
use Rattle.cs_fetch.specs.declared.so_far.Tally.{Tally}
use Rattle.cs_link.specs.Batch.{is_known}
use Rattle.cs_fetch.specs.Breach.{only_if, offended, fell, outside_of, outside, below_beat, after_children, initial, crowded, unsound, stamp_breach, data_breach, beat_offends, beat_breach, start_breach, start_offends, children_breach, first_differing, first_with_parents, has_some, too_many, with_children, list_breach, has_none, end_breach, end_breach_of, moment_offends, record_breach}
use Rattle.cs_link.specs.Causes.{one_more}
use Rattle.cs_fetch.specs.Fetch.{counted_in, is_full, finish, IfGives, closed_by, outcome_of}
use Rattle.cs_fetch.specs.Keeping.{is_new, is_kept, is_listed, keep, keep_children, parents_of}
use Rattle.cs_fetch.specs.Laws.{IsWellFormed, HasShape}
use Rattle.cs_link.specs.Reading.{end_of, new_child}
use Rattle.cs_fetch.specs.SoFar.{so_far, with_record}
use Rattle.cs_fetch.proofs.Faithful.{its_stamp, not_true}
use Rattle.cs_fetch.proofs.Kids.{Apart}
use Rattle.cs_fetch.proofs.Walking.{Lasts, walks}

-- ---- nothing among options

some_none : {A : Type 0} (x : A) → Some x ≡ None → ⊥
some_none x h = cc

or_both : {A : Type 0} (a b : Option A) → option_or a b ≡ None → (a ≡ None) × (b ≡ None)
or_both None b h = (refl, h)
or_both (Some x) b h = cc

map_is : {A B : Type 0} (g : A → B) (o : Option A) → option_map g o ≡ None → o ≡ None
map_is g None h = refl
map_is g (Some x) h = cc

only_is : {A : Type 0} (b : Bool) (x : A) → only_if b x ≡ None → b ≡ false
only_is true x h = cc
only_is false x h = refl

offended_is : (test : ℕ → Bool) (o : Option ℕ) (u : ℕ) → offended test o ≡ None → o ≡ Some u → test u ≡ false
offended_is test o u h s = only_is (test u) u (subst (λ z. offended test z ≡ None) s h)

-- ---- what is kept

module _ {A : Type 0} where
  in_more : (xs : List A) (x y : A) → Contains (xs ++ x ∷ []) y → Contains xs y ⊎ (y ≡ x)
  in_more xs x y i =
      ⊎_elim
      (λ (u : Contains xs y). inl u)
      (λ (u : Contains (x ∷ []) y). ⊎_elim (λ (s : y ≡ x). inr s) (λ (n : Contains [] y). absurd (in_nil y n)) (in_cons x y [] u))
      (Contains-append_cases xs (x ∷ []) y i)

  pairs_more : (R : A → A → Type 0) (xs : List A) (x : A) → Pairwise R xs → ((y : A) → Contains xs y → R y x) → Pairwise R (xs ++ x ∷ [])
  pairs_more R xs x p h =
      pairs_append R xs (x ∷ []) p (λ y i. absurd (in_nil y i), tt)
      (λ c d i j. ⊎_elim (λ (s : d ≡ x). subst (λ z. R c z) (sym s) (h c i)) (λ (n : Contains [] d). absurd (in_nil d n)) (in_cons x d [] j))

module _ (known : Known) where
  keep_from : (kept cs : List Change) (c : Change) → Contains (keep known kept cs) c → Contains kept c ⊎ (Contains cs c × (is_known known c ≡ false))
  keep_from kept [] c i = inl i
  keep_from kept (a ∷ cs) c i = by (is_new known kept a) refl i (keep_from kept cs c) (keep_from (kept ++ a ∷ []) cs c)
    where
      later : Contains kept c ⊎ (Contains cs c × (is_known known c ≡ false)) → Contains kept c ⊎ (Contains (a ∷ cs) c × (is_known known c ≡ false))
      later (inl u) = inl u
      later (inr u) = inr (in_tail a c cs u.0, u.1)

      now : is_new known kept a ≡ true → Contains kept c ⊎ (c ≡ a) → Contains kept c ⊎ (Contains (a ∷ cs) c × (is_known known c ≡ false))
      now g (inl u) = inl u
      now g (inr s) = inr (subst (λ z. Contains (a ∷ cs) z) (sym s) (in_head a cs), ap (is_known known) s ∙ (or_parts (is_known known a) (is_kept kept a) (not_true (is_known known a || is_kept kept a) g)).0)

      more : is_new known kept a ≡ true → Contains (kept ++ a ∷ []) c ⊎ (Contains cs c × (is_known known c ≡ false)) → Contains kept c ⊎ (Contains (a ∷ cs) c × (is_known known c ≡ false))
      more g (inl u) = now g (in_more kept a c u)
      more g (inr u) = later (inr u)

      by : (b : Bool) → is_new known kept a ≡ b → Contains (keep known (cond b (kept ++ a ∷ []) kept) cs) c → (Contains (keep known kept cs) c → Contains kept c ⊎ (Contains cs c × (is_known known c ≡ false))) → (Contains (keep known (kept ++ a ∷ []) cs) c → Contains (kept ++ a ∷ []) c ⊎ (Contains cs c × (is_known known c ≡ false))) → Contains kept c ⊎ (Contains (a ∷ cs) c × (is_known known c ≡ false))
      by false g j f h = later (f j)
      by true g j f h = more g (h j)

  keep_pairs : (R : Change → Change → Type 0) (kept cs : List Change) → Pairwise R kept → Pairwise R cs → ((c d : Change) → Contains kept c → Contains cs d → R c d) → Pairwise R (keep known kept cs)
  keep_pairs R kept [] p s h = p
  keep_pairs R kept (a ∷ cs) p s h =
      by (is_new known kept a)
      (keep_pairs R kept cs p s.1 (λ c d i j. h c d i (in_tail a d cs j)))
      (keep_pairs R (kept ++ a ∷ []) cs (pairs_more R kept a p (λ c i. h c a i (in_head a cs))) s.1
      (λ c d i j. ⊎_elim (λ (u : Contains kept c). h c d u (in_tail a d cs j)) (λ (t : c ≡ a). subst (λ z. R z d) (sym t) (s.0 d j)) (in_more kept a c i)))
    where
      by : (b : Bool) → Pairwise R (keep known kept cs) → Pairwise R (keep known (kept ++ a ∷ []) cs) → Pairwise R (keep known (cond b (kept ++ a ∷ []) kept) cs)
      by true f g = g
      by false f g = f

child_from : (kept xs : List NewChild) (c : NewChild) → Contains (keep_children kept xs) c → Contains kept c ⊎ Contains xs c
child_from kept [] c i = inl i
child_from kept (a ∷ xs) c i = by (is_listed kept a.token) i (child_from kept xs c) (child_from (kept ++ a ∷ []) xs c)
  where
    later : Contains kept c ⊎ Contains xs c → Contains kept c ⊎ Contains (a ∷ xs) c
    later (inl u) = inl u
    later (inr u) = inr (in_tail a c xs u)

    now : Contains kept c ⊎ (c ≡ a) → Contains kept c ⊎ Contains (a ∷ xs) c
    now (inl u) = inl u
    now (inr s) = inr (subst (λ z. Contains (a ∷ xs) z) (sym s) (in_head a xs))

    more : Contains (kept ++ a ∷ []) c ⊎ Contains xs c → Contains kept c ⊎ Contains (a ∷ xs) c
    more (inl u) = now (in_more kept a c u)
    more (inr u) = later (inr u)

    by : (b : Bool) → Contains (keep_children (cond b kept (kept ++ a ∷ [])) xs) c → (Contains (keep_children kept xs) c → Contains kept c ⊎ Contains xs c) → (Contains (keep_children (kept ++ a ∷ []) xs) c → Contains (kept ++ a ∷ []) c ⊎ Contains xs c) → Contains kept c ⊎ Contains (a ∷ xs) c
    by true j f h = later (f j)
    by false j f h = more (h j)

same_token : (token : List ℕ) → is_eq (slice_cmp nat_cmp token token) ≡ true
same_token token = (eq_by_cmp_equiv nat_list_cmp_total).refl token

-- no child has parents
parentless : (cs : List Child) → first_with_parents cs ≡ None → (c : Child) → Contains cs c → c.parents ≡ []
parentless [] h c i = absurd (in_nil c i)
parentless (x ∷ cs) h c i = by x.parents refl h (λ g j. parentless cs g c j)
  where
    by : (ps : List (List ℕ)) → x.parents ≡ ps → cond (has_some ps) (Some x.token) (first_with_parents cs) ≡ None → (first_with_parents cs ≡ None → Contains cs c → c.parents ≡ []) → c.parents ≡ []
    by (p ∷ ps) e g f = absurd (some_none x.token g)
    by [] e g f = ⊎_elim (λ (s : c ≡ x). ap (λ (z : Child). z.parents) s ∙ e) (λ (j : Contains cs c). f g j) (in_cons x c cs i)

-- a token that is not listed is none of these
listed_not : (kept : List NewChild) (token : List ℕ) → is_listed kept token ≡ false → (c : NewChild) → Contains kept c → c.token ≢ token
listed_not [] token h c i e = in_nil c i
listed_not (x ∷ kept) token h c i e = by (is_eq (slice_cmp nat_cmp x.token token)) refl h (λ k j. listed_not kept token k c j e)
  where
    by : (b : Bool) → is_eq (slice_cmp nat_cmp x.token token) ≡ b → is_some (cond b (Some x.parents) (parents_of token kept)) ≡ false → (is_listed kept token ≡ false → Contains kept c → ⊥) → ⊥
    by true g k f = true≢false k
    by false g k f = ⊎_elim
        (λ (s : c ≡ x). true≢false (sym (ap (λ z. is_eq (slice_cmp nat_cmp z token)) (sym (ap (λ (z : NewChild). z.token) s) ∙ e) ∙ same_token token) ∙ g))
        (λ (j : Contains kept c). f k j)
        (in_cons x c kept i)

children_apart : (kept xs : List NewChild) → Apart kept → Apart (keep_children kept xs)
children_apart kept [] p = p
children_apart kept (a ∷ xs) p = by (is_listed kept a.token) refl (children_apart kept xs p) (λ h. children_apart (kept ++ a ∷ []) xs (pairs_more (λ (x y : NewChild). x.token ≢ y.token) kept a p (λ y i. listed_not kept a.token h y i)))
  where
    by : (b : Bool) → is_listed kept a.token ≡ b → Apart (keep_children kept xs) → (is_listed kept a.token ≡ false → Apart (keep_children (kept ++ a ∷ []) xs)) → Apart (keep_children (cond b kept (kept ++ a ∷ [])) xs)
    by true g f h = f
    by false g f h = h g

-- ---- step by step

-- of a READ without a part: no change was told, and the children have no parents and begin with it
record OnlyChildren (args : ReadArgs) (s : SoFar) : Type 0 where
  pub nothing : s.changes ≡ []
  pub each : (x : NewChild) → Contains s.children x → (x.parents ≡ []) × (x.start ≡ args.start)

record Tidy (args : ReadArgs) (known : Known) (s : SoFar) : Type 0 where
  pub order : Pairwise (λ c d. c.stamp ≤ d.stamp) s.changes
  pub top : (c : Change) → Contains s.changes c → (c.stamp ≤ suc s.marks.through) × (c.stamp ≤ end_of args) × (is_known known c ≡ false)
  pub last : (c : Change) → Contains s.changes c → (u : ℕ) × (s.marks.last ≡ Some u) × (c.stamp ≤ u)
  pub rises : known.through ≤ s.marks.through
  pub within : s.marks.through ≤ end_of args
  pub starts : (x : NewChild) → Contains s.children x → x.start ≤ end_of args
  pub once : Apart s.children
  pub few : length s.children ≤ 65536
  pub only : args.token ≡ None → OnlyChildren args s

level : (t : ℕ) (cs : List Change) → ((c : Change) → Contains cs c → c.stamp ≡ t) → Pairwise (λ c d. c.stamp ≤ d.stamp) cs
level t [] h = tt
level t (c ∷ cs) h = (λ d i. let a = h c (in_head c cs) in let b = h d (in_tail c d cs i) in omega (arith, a, b), level t cs (λ d i. h d (in_tail c d cs i)))

initial_not : (o : Option (List ℕ)) (count : ℕ) → initial o count ≡ None → o ≡ None → ⊥
initial_not None count h s = some_none (Breach.InitialWrong count count) h
initial_not (Some token) count h s = cc

-- what a data record and a heartbeat that break nothing tell
module _ (args : ReadArgs) (marks : Marks) where
  right_data : (item : DataRecord) → data_breach args marks item ≡ None → (fell marks.last item.stamp ≡ None) × (outside args item.stamp ≡ None) × (initial args.token (one_more marks.records) ≡ None)
  right_data item w =
      let f = fell marks.last item.stamp in
      let o = outside args item.stamp in
      let b = below_beat marks.beat item.stamp in
      let a = after_children marks.listed item.stamp in
      let i = initial args.token (one_more marks.records) in
      let c = crowded marks item.stamp in
      let s1 = or_both (stamp_breach args marks item.stamp) (unsound (one_more marks.records) item) w in
      let s2 = or_both f (option_or o (option_or b (option_or a (option_or i c)))) s1.0 in
      let s3 = or_both o (option_or b (option_or a (option_or i c))) s2.1 in
      let s4 = or_both b (option_or a (option_or i c)) s3.1 in
      let s5 = or_both a (option_or i c) s4.1 in
      (s2.0, s3.0, (or_both i c s5.1).0)

  right_beat : (at : ℕ) → beat_breach args marks at ≡ None → (outside_of args at ≡ None) × (initial args.token (one_more marks.records) ≡ None)
  right_beat at w =
      let a = after_children marks.listed at in
      let i = initial args.token (one_more marks.records) in
      let s1 = or_both (option_map (Breach.HeartbeatWrong at) (beat_offends args marks at)) (option_or a i) w in
      ((or_both (outside_of args at) (option_or (offended (leb at) marks.beat) (offended (ltb at) marks.last)) (map_is (Breach.HeartbeatWrong at) (beat_offends args marks at) s1.0)).0, (or_both a i s1.1).1)

module _ (args : ReadArgs) (known : Known) (first : args.token ≡ None → args.start ≤ end_of args) where
  inside : (t : ℕ) → outside_of args t ≡ None → t ≤ end_of args
  inside t h = ltb-false (end_of args) t (only_is (ltb (end_of args) t) (end_of args) (or_both (only_if (ltb t args.start) args.start) (only_if (ltb (end_of args) t) (end_of args)) h).1)

  module _ (s : SoFar) (D : Tidy args known s) where
    tidy_data : (item : DataRecord) → data_breach args s.marks item ≡ None → Tidy args known (with_record known s (Record.Change item))
    tidy_data item w =
        let r = right_data args s.marks item w in
        let t : item.stamp ≤ end_of args = inside item.stamp (map_is (Breach.OutOfWindow item.stamp) (outside_of args item.stamp) r.1) in
        let o : offended (ltb item.stamp) s.marks.last ≡ None = map_is (λ a. Breach.StampFell a item.stamp) (offended (ltb item.stamp) s.marks.last) r.0 in
        let low : (c : Change) → Contains s.changes c → c.stamp ≤ item.stamp = λ c i. let u = D.last c i in let l = ltb-false item.stamp u.0 (offended_is (ltb item.stamp) s.marks.last u.0 o u.1) in let k = u.2 in omega (arith, l, k) in
        record {
          order = keep_pairs known (λ (c d : Change). c.stamp ≤ d.stamp) s.changes (changes_told item) D.order (level item.stamp (changes_told item) (its_stamp item)) (λ c d i j. let a = low c i in let b = its_stamp item d j in omega (arith, a, b));
          top = λ c i. ⊎_elim
              (λ (j : Contains s.changes c). let z = D.top c j in let y = z.0 in (omega (arith, y), z.1, z.2))
              (λ (j : Contains (changes_told item) c × (is_known known c ≡ false)). let z = its_stamp item c j.0 in (omega (arith, z), omega (arith, z, t), j.1))
              (keep_from known s.changes (changes_told item) c i);
          last = λ c i. (item.stamp, refl, ⊎_elim (λ (j : Contains s.changes c). low c j) (λ (j : Contains (changes_told item) c × (is_known known c ≡ false)). let z = its_stamp item c j.0 in omega (arith, z)) (keep_from known s.changes (changes_told item) c i));
          rises = let u = D.rises in omega (arith, u);
          within = let u = D.within in omega (arith, u, t);
          starts = D.starts;
          once = D.once;
          few = D.few;
          only = λ z. absurd (initial_not args.token (one_more s.marks.records) r.2 z);
        }

    tidy_beat : (at : ℕ) → beat_breach args s.marks at ≡ None → Tidy args known (with_record known s (Record.Heartbeat at))
    tidy_beat at w =
        let r = right_beat args s.marks at w in
        let t : at ≤ end_of args = inside at r.0 in
        record {
          order = D.order;
          top = λ c i. let z = D.top c i in let y = z.0 in (omega (arith, y), z.1, z.2);
          last = D.last;
          rises = let u = D.rises in omega (arith, u);
          within = let u = D.within in omega (arith, u, t);
          starts = D.starts;
          once = D.once;
          few = D.few;
          only = λ z. absurd (initial_not args.token (one_more s.marks.records) r.1 z);
        }

    -- without a part the start is that of the READ
    start_same : (start : ℕ) → start_offends args s.marks None start ≡ None → start ≡ args.start
    start_same start h = eqb-true start args.start (by (eqb start args.start) (only_is (not (eqb start args.start)) args.start h))
      where
        by : (b : Bool) → not b ≡ false → b ≡ true
        by true h = refl
        by false h = absurd (true≢false h)

    start_low : (o : Option (List ℕ)) → args.token ≡ o → (start : ℕ) → start_offends args s.marks o start ≡ None → start ≤ end_of args
    start_low None z start h = let e = start_same start h in let f = first z in omega (arith, e, f)
    start_low (Some token) z start h =
        let s1 = or_both (only_if (leb start args.start) args.start) _ h in
        let s2 = or_both _ _ s1.1 in
        let s3 = or_both _ _ s2.1 in
        let s4 = or_both _ _ s3.1 in
        ltb-false (end_of args) start (only_is (ltb (end_of args) start) (end_of args) s4.0)

    tidy_list : (item : ChildRecord) → list_breach args s item ≡ None → Tidy args known (with_record known s (Record.Children item))
    tidy_list item w =
        let s1 = or_both (start_breach args s.marks item.start) _ w in
        let s2 = or_both (children_breach args.token (first_differing s.children item.start item.children) item.children) (too_many (with_children s.children item)) s1.1 in
        let o = map_is _ _ s1.0 in
        let low : item.start ≤ end_of args = start_low args.token refl item.start o in
        record {
          order = D.order;
          top = D.top;
          last = D.last;
          rises = D.rises;
          within = D.within;
          starts = λ x i. ⊎_elim
              (λ (j : Contains s.children x). D.starts x j)
              (λ (j : Contains (map (new_child item.start) item.children) x). let u = from_map (new_child item.start) x item.children j in let v = ap (λ (z : NewChild). z.start) u.2 in omega (arith, v, low))
              (child_from s.children (map (new_child item.start) item.children) x i);
          once = children_apart s.children (map (new_child item.start) item.children) D.once;
          few = ltb-false 65536 (length (with_children s.children item)) (only_is (ltb 65536 (length (with_children s.children item))) (Breach.TooManyChildren (length (with_children s.children item)) 65536) s2.1);
          only = λ z. record {
            nothing = (D.only z).nothing;
            each = λ x i. ⊎_elim
                (λ (j : Contains s.children x). (D.only z).each x j)
                (λ (j : Contains (map (new_child item.start) item.children) x).
                let u = from_map (new_child item.start) x item.children j in (
                  ap (λ (y : NewChild). y.parents) u.2 ∙ parentless item.children (map_is _ _ (subst (λ p. children_breach p (first_differing s.children item.start item.children) item.children ≡ None) z s2.0)) u.0 u.1,
                  ap (λ (y : NewChild). y.start) u.2 ∙ start_same item.start (subst (λ p. start_offends args s.marks p item.start ≡ None) z o),
                ))
                (child_from s.children (map (new_child item.start) item.children) x i);
          };
        }

    tidy_on : (item : Record) → record_breach args s item ≡ None → Tidy args known (with_record known s item)
    tidy_on (Record.Change item) w = tidy_data item w
    tidy_on (Record.Heartbeat at) w = tidy_beat at w
    tidy_on (Record.Children item) w = tidy_list item w

    -- only a READ of a part is full
    full_part : (limits : Limits) (t : Tally) (item : Record) → record_breach args s item ≡ None → is_full limits (counted_in t item) item ≡ true → args.token ≡ None → ⊥
    full_part limits t (Record.Change item) w f z = initial_not args.token (one_more s.marks.records) (right_data args s.marks item w).2 z
    full_part limits t (Record.Heartbeat at) w f z = initial_not args.token (one_more s.marks.records) (right_beat args s.marks at w).1 z
    full_part limits t (Record.Children item) w f z = true≢false (sym f)

    -- a batch of these changes that has no children and is of a part
    of_part : (through : ℕ) (ending : Ending) → (args.token ≡ None → ⊥) → s.marks.through ≤ through → through ≤ end_of args → IsWellFormed args known (record { token = args.token; start = args.start; through = through; changes = s.changes; children = []; ending = ending })
    of_part through ending part up down =
        record {
          token = refl;
          start = refl;
          order = pairs_to (λ (c d : Change). c.stamp ≤ d.stamp) s.changes D.order;
          top = λ c i. let z = D.top c i in let y = z.0 in (omega (arith, y, up), z.1, z.2);
          rises = let r = D.rises in omega (arith, r, up);
          within = down;
          starts = λ x i. absurd (in_nil x i);
          once = pairs_to (λ (x y : NewChild). x.token ≢ y.token) [] tt;
          few = omega arith;
          shape = by args.token refl;
        }
      where
        by : (o : Option (List ℕ)) → args.token ≡ o → HasShape (record { token = args.token; start = args.start; through = through; changes = s.changes; children = []; ending = ending }) o
        by None z = absurd (part z)
        by (Some token) z = λ n. refl

    finish_low : (xs : List NewChild) → ((x : NewChild) → Contains xs x → x.start ≤ end_of args) → finish (end_of args) xs ≤ end_of args
    finish_low [] h = omega arith
    finish_low (x ∷ xs) h = let a = h x (in_head x xs) in omega (arith, a)

    some_child : (xs : List NewChild) → has_none xs ≡ false → (x : NewChild) × Contains xs x
    some_child [] h = absurd (true≢false h)
    some_child (x ∷ xs) h = (x, in_head x xs)

    finished : end_breach args known s Closing.Finished ≡ None → IsWellFormed args known (closed_by args s Closing.Finished)
    finished w =
        let f = finish_low s.children D.starts in
        record {
          token = refl;
          start = refl;
          order = pairs_to (λ (c d : Change). c.stamp ≤ d.stamp) s.changes D.order;
          top = λ c i. let z = D.top c i in let y = z.0 in (omega (arith, y), z.1, z.2);
          rises = let r = D.rises in omega (arith, r);
          within = let r = D.within in omega (arith, r, f);
          starts = D.starts;
          once = pairs_to (λ (x y : NewChild). x.token ≢ y.token) s.children D.once;
          few = D.few;
          shape = by args.token refl w;
        }
      where
        by : (o : Option (List ℕ)) → args.token ≡ o → end_breach_of args known s o Closing.Finished ≡ None → HasShape (closed_by args s Closing.Finished) o
        by None z h = record { changes = (D.only z).nothing; ended = refl; some = some_child s.children (only_is (has_none s.children) (Breach.InitialWrong s.marks.records s.marks.records) h); each = (D.only z).each }
        by (Some token) z h = λ n. absurd (n refl)

    not_first : (closing : Closing) → end_breach_of args known s None closing ≡ None → closing ≢ Closing.Finished → ⊥
    not_first Closing.Finished h n = n refl
    not_first (Closing.CaughtUp at) h n = some_none (Breach.InitialWrong s.marks.records s.marks.records) h
    not_first Closing.Cut h n = some_none (Breach.InitialWrong s.marks.records s.marks.records) h

    caught_low : (o : Option (List ℕ)) (at : ℕ) → end_breach_of args known s o (Closing.CaughtUp at) ≡ None → at ≤ end_of args
    caught_low None at h = absurd (some_none (Breach.InitialWrong s.marks.records s.marks.records) h)
    caught_low (Some token) at h =
        let s1 = or_both (only_if (leb (end_of args) at) (end_of args)) _ (map_is (Breach.CaughtUpWrong at) (moment_offends args known s.marks at) h) in
        let l = leb-false (end_of args) at (only_is (leb (end_of args) at) (end_of args) s1.0) in
        omega (arith, l)

    closed_well : (closing : Closing) → end_breach args known s closing ≡ None → IsWellFormed args known (closed_by args s closing)
    closed_well Closing.Finished w = finished w
    closed_well (Closing.CaughtUp at) w =
        let r = D.within in
        let c = caught_low args.token at w in
        of_part (max s.marks.through at) (Ending.CaughtUp at) (λ z. not_first (Closing.CaughtUp at) (subst (λ o. end_breach_of args known s o (Closing.CaughtUp at) ≡ None) z w) (λ h. cc)) (omega arith) (omega (arith, r, c))
    closed_well Closing.Cut w = of_part s.marks.through Ending.Cut (λ z. not_first Closing.Cut (subst (λ o. end_breach_of args known s o Closing.Cut ≡ None) z w) (λ h. cc)) (omega arith) D.within

module _ (args : ReadArgs) (known : Known) (limits : Limits) (low : known.through ≤ end_of args) (first : args.token ≡ None → args.start ≤ end_of args) where
  tidy_none : Tidy args known (so_far known [])
  tidy_none = record {
    order = tt;
    top = λ c i. absurd (in_nil c i);
    last = λ c i. absurd (in_nil c i);
    rises = omega arith;
    within = low;
    starts = λ x i. absurd (in_nil x i);
    once = tt;
    few = omega arith;
    only = λ z. record { nothing = refl; each = λ x i. absurd (in_nil x i) };
  }

  well_lasts : Lasts args known limits (λ x. Unit {0}) (λ s t. Tidy args known s) (IsWellFormed args known)
  well_lasts = record {
    adds_some = λ s t item m D w a. tidy_on args known first s D item w;
    adds_none = λ s t item m D w a n. tidy_on args known first s D item w;
    fills = λ s t item m D w a f. let E = tidy_on args known first s D item w in of_part args known first (with_record known s item) E (with_record known s item).marks.through Ending.Full (full_part args known first s D limits t item w f) (omega arith) E.within;
    closes = λ s t closing m D w. closed_well args known first s D closing w;
  }

  pub always_well : (steps : List Step) → IfGives (IsWellFormed args known) (outcome_of args known limits steps)
  always_well steps = walks args known limits (λ x. Unit {0}) (λ s t. Tidy args known s) (IsWellFormed args known) well_lasts steps (λ x i. tt) tidy_none
