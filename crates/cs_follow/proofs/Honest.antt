-- A faithful batch of consistent entries makes a plan: it is never what no honest server may answer.
use Rattle.std.proofs.Common.{◌≡◌, ◌≢◌, ⊎_elim, ℕ, suc, ◌<◌, ◌≤◌, ◌+◌, max, Bool, true, false, cond, not, ◌||◌, List, [], ◌∷◌, ◌++◌, map, filter, length, length-append, Option, Some, None, sym, refl, subst, ap, ◌∙◌, arith, true≢false, Contains, nat_lt, nat_le, eqb}
use Rattle.std.proofs.lemmas.Bool.{cases_lt, eq-eqb}
use Rattle.std.proofs.lemmas.Bool.Decides.{nat_tests}
use Rattle.std.proofs.lemmas.List.Elements.{Contains-append_cases}
use Rattle.std.specs.Option.{option_or}
use Rattle.std.specs.Ordering.{nat_cmp, is_eq, ordering_then}
use Rattle.std.specs.declared.cmp.Ordering.{Ordering}
use Rattle.std.specs.declared.cmp.Ordering.TheVariants.{Less, Equal, Greater}
use Rattle.std.specs.Cmp.Lexicographic.{slice_cmp}
use Rattle.cs_types.specs.declared.change.Change.{Change}
use Rattle.cs_place.specs.declared.part.Part.{Part}
use Rattle.cs_place.specs.Part.{IsBefore}
use Rattle.cs_link.specs.declared.batch.Batch.{Batch}
use Rattle.cs_link.specs.declared.batch.NewChild.{NewChild}
use Rattle.cs_link.specs.declared.breach.Breach.{Breach}
use Rattle.cs_link.specs.declared.feed.Feed.{Feed}
use Rattle.cs_link.specs.Feed.{IsFeed}
use Rattle.cs_link.specs.Batch.{IsFaithfulFirst, IsFaithfulPart}
use Rattle.cs_schedule.specs.declared.row.Row.{Row}
use Rattle.cs_schedule.specs.Board.{IsOrdered, row_of}
use Rattle.cs_schedule.specs.Consistent.{IsRowOf, birth_of, known_by, news, through_by}
use Rattle.cs_schedule.specs.Follows.{IsFollowed}
use Rattle.cs_schedule.specs.Plan.{is_other, other_than, first_other, crowded_by, has_no, count_new, count_after, too_many, seen_with, judge, judge_with}
use Rattle.cs_types.specs.declared.names.Window.{Window}
use Rattle.cs_types.specs.Members.{Pairwise, in_nil, in_head, in_tail, from_filter, pairs_from, pairs_append, pairs_filter, in_map, from_map}
use Rattle.cs_follow.specs.Own.{HasOwn}
use Rattle.cs_follow.proofs.Owning.{own_few, with_own}
use Rattle.cs_follow.proofs.Pigeon.{no_more}
use Rattle.cs_follow.proofs.Refusals.{same_part}
use Rattle.cs_follow.proofs.RowLemmas.{token_of, row_at}
use Rattle.cs_follow.proofs.Small.{map_length, below_apart, token_itself, lt_true}

-- ---- children are named as their rows

text_equal : (a : List ℕ) → slice_cmp nat_cmp a a ≡ Equal
text_equal a = by (slice_cmp nat_cmp a a) (token_itself a)
  where
    by : (o : Ordering) → is_eq o ≡ true → o ≡ Equal
    by Less h = absurd (true≢false (sym h))
    by Equal h = refl
    by Greater h = absurd (true≢false (sym h))

same_list : (a : List (List ℕ)) → slice_cmp (slice_cmp nat_cmp) a a ≡ Equal
same_list [] = refl
same_list (x ∷ a) = ap (λ o. ordering_then o (slice_cmp (slice_cmp nat_cmp) a a)) (text_equal x) ∙ same_list a

not_other : (x : NewChild) (r : Row) → x.parents ≡ r.parents → x.start ≡ r.start → is_other x r ≡ false
not_other x r parents start =
    ap (λ b. not b || not (eqb x.start r.start)) (ap is_eq (subst (λ l. slice_cmp (slice_cmp nat_cmp) x.parents l ≡ Equal) parents (same_list x.parents)))
    ∙ ap (λ b. false || not b) (eq-eqb x.start r.start start)

none_other : (rows : List Row) (xs : List NewChild) → ((x : NewChild) → Contains xs x → (r : Row) → row_of rows x.token ≡ Some r → (x.parents ≡ r.parents) × (x.start ≡ r.start)) → first_other rows xs ≡ None
none_other rows [] h = refl
none_other rows (x ∷ xs) h = by (row_of rows x.token) refl (none_other rows xs (λ y i. h y (in_tail x y xs i)))
  where
    by : (o : Option Row) → row_of rows x.token ≡ o → first_other rows xs ≡ None → option_or (other_than x o) (first_other rows xs) ≡ None
    by None q rest = rest
    by (Some r) q rest = let u = h x (in_head x xs) r q in ap (λ b. option_or (cond b (Some (Breach.ChildDiffers x.token x.token)) None) (first_other rows xs)) (not_other x r u.0 u.1) ∙ rest

-- ---- no more rows than parts

not_over : (rows : List Row) (xs : List NewChild) → length rows + count_new rows xs ≤ 65536 → too_many rows xs ≡ None
not_over rows xs few = by (nat_lt 65536 (count_after rows xs)) refl
  where
    by : (b : Bool) → nat_lt 65536 (count_after rows xs) ≡ b → cond b (Some (Breach.TooManyRows (count_after rows xs) 65536)) None ≡ None
    by true q = let more : 65536 < count_after rows xs = lt_true 65536 (count_after rows xs) q in absurd (omega (arith, more, few))
    by false q = refl

not_crowd : (cs : List Change) (n : ℕ) → n ≤ 1024 → crowded_by cs n ≡ None
not_crowd [] n few = refl
not_crowd (c ∷ cs) n few = by (nat_lt 1024 n) refl
  where
    by : (b : Bool) → nat_lt 1024 n ≡ b → cond b (Some (Breach.TooManyAtStamp c.stamp 1024)) None ≡ None
    by true q = let more = lt_true 1024 n q in absurd (omega (arith, more, few))
    by false q = refl

judged_none : (rows : List Row) (r : Row) (xs : List NewChild) (n : ℕ) (cs : List Change) → first_other rows xs ≡ None → length (seen_with r n cs) ≤ 1024 → length rows + count_new rows xs ≤ 65536 → judge_with rows r xs n cs ≡ None
unfolding judge_with
judged_none rows r xs n cs same few most =
    ap (λ o. option_or o (option_or (crowded_by (filter (λ c. eqb c.stamp (suc n)) cs) (length (seen_with r n cs))) (too_many rows xs))) same
    ∙ ap (λ o. option_or o (too_many rows xs)) (not_crowd (filter (λ c. eqb c.stamp (suc n)) cs) (length (seen_with r n cs)) few)
    ∙ not_over rows xs most

abbrev tokens_of : List Row → List (List ℕ)
tokens_of rows = map (λ (r : Row). r.token) rows

abbrev names_of : List NewChild → List (List ℕ)
names_of xs = map (λ (x : NewChild). x.token) xs

pairs_map : {A B : Type 0} (R : A → A → Type 0) (S : B → B → Type 0) (g : A → B) (xs : List A) → ((x y : A) → R x y → S (g x) (g y)) → Pairwise R xs → Pairwise S (map g xs)
pairs_map R S g [] f h = tt
pairs_map R S g (x ∷ xs) f h = (λ b j. let u = from_map g b xs j in subst (λ z. S (g x) z) (sym u.2) (f x u.0 (h.0 u.0 u.1)), pairs_map R S g xs f h.1)

no_row : (rows : List Row) (t : List ℕ) → has_no (row_of rows t) ≡ true → row_of rows t ≡ None
no_row rows t h = by (row_of rows t) h
  where
    by : (o : Option Row) → has_no o ≡ true → o ≡ None
    by None k = refl
    by (Some r) k = absurd (true≢false (sym k))

-- rows and children that have none are no more than the parts
few_rows : (f : Feed) → IsFeed f → (rows : List Row) (xs : List NewChild) → IsOrdered rows → ((r : Row) → Contains rows r → (q : Part) × Contains f.parts q × (r.token ≡ q.token)) → ((x : NewChild) → Contains xs x → (q : Part) × Contains f.parts q × (x.token ≡ q.token)) → Pairwise (λ (x y : NewChild). x.token ≢ y.token) xs
    → length rows + count_new rows xs ≤ 65536
few_rows f F rows xs O of_rows of_children once =
    let new = filter (λ (x : NewChild). has_no (row_of rows x.token)) xs in
    let all = tokens_of rows ++ names_of new in
    let parts = map (λ (q : Part). q.token) f.parts in
    let apart : Pairwise (λ (a b : List ℕ). a ≢ b) all =
    pairs_append (λ (a b : List ℕ). a ≢ b) (tokens_of rows) (names_of new)
    (pairs_map (λ (a b : Row). slice_cmp nat_cmp a.token b.token ≡ Less) (λ (a b : List ℕ). a ≢ b) (λ (r : Row). r.token) rows (λ a b h. below_apart a.token b.token h) O)
    (pairs_map (λ (x y : NewChild). x.token ≢ y.token) (λ (a b : List ℕ). a ≢ b) (λ (x : NewChild). x.token) new (λ x y h. h) (pairs_filter (λ (x y : NewChild). x.token ≢ y.token) (λ (x : NewChild). has_no (row_of rows x.token)) xs once))
    (λ a b i j same.
    let r = from_map (λ (z : Row). z.token) a rows i in
    let x = from_map (λ (z : NewChild). z.token) b new j in
    let u = from_filter (λ (z : NewChild). has_no (row_of rows z.token)) x.0 xs x.1 in
    let found : Some r.0 ≡ None = sym (row_at rows x.0.token r.0 O r.1 (sym r.2 ∙ same ∙ x.2)) ∙ no_row rows x.0.token u.1 in
    absurd cc) in
    let inside : (t : List ℕ) → Contains all t → Contains parts t =
    λ t i. ⊎_elim
    (λ (j : Contains (tokens_of rows) t). let r = from_map (λ (z : Row). z.token) t rows j in let q = of_rows r.0 r.1 in subst (λ z. Contains parts z) (sym (r.2 ∙ q.2)) (in_map (λ (z : Part). z.token) q.0 f.parts q.1))
    (λ (j : Contains (names_of new) t). let x = from_map (λ (z : NewChild). z.token) t new j in let u = from_filter (λ (z : NewChild). has_no (row_of rows z.token)) x.0 xs x.1 in let q = of_children x.0 u.0 in subst (λ z. Contains parts z) (sym (x.2 ∙ q.2)) (in_map (λ (z : Part). z.token) q.0 f.parts q.1))
    (Contains-append_cases (tokens_of rows) (names_of new) t i) in
    let most = no_more all parts apart inside in
    let one : length all ≡ length (tokens_of rows) + length (names_of new) = length-append (tokens_of rows) (names_of new) in
    let two : length (tokens_of rows) ≡ length rows = map_length (λ (z : Row). z.token) rows in
    let three : length (names_of new) ≡ length new = map_length (λ (z : NewChild). z.token) new in
    let four : length parts ≡ length f.parts = map_length (λ (z : Part). z.token) f.parts in
    let few = F.few_parts in
    omega (arith, most, one, two, three, four, few)

-- ---- the batch of a row

later_birth : (s : ℕ) (c : Part) → s < c.from → ((birth_of s c).parents ≡ c.parents) × (max s c.from ≡ c.from)
later_birth s c late = (ap (λ b. cond b [] c.parents) (lt_le c.from s late), omega (arith, late))
  where
    lt_le : (a b : ℕ) → b < a → nat_le a b ≡ false
    lt_le a b h = grind (arith, nat_tests)

module _ (f : Feed) (w : Window) (followed : IsFollowed f w) (rows : List Row) (O : IsOrdered rows) (known : (r : Row) → Contains rows r → (q : Part) × Contains f.parts q × (q.from ≤ w.end) × IsBefore w.start q.until × IsRowOf w.start q r) where
  of_part : (r : Row) → Contains rows r → (q : Part) × Contains f.parts q × (r.token ≡ q.token)
  of_part r i = let k = known r i in (k.0, k.1, k.4.0)

  pub judge_faithful : (r : Row) → Contains rows r → (q : Part) → Contains f.parts q → r.token ≡ q.token → (x : Batch) → IsFaithfulPart f w.end (known_by r) q x → HasOwn f r → judge rows r x ≡ None
  judge_faithful r i q j its x P own =
      judged_none rows r x.children (through_by r x) (news r x) same (own_few f followed.feed q (suc (through_by r x)) (seen_with r (through_by r x) (news r x)) j (with_own f followed.feed w.end r q j its x P own))
      (few_rows f followed.feed rows x.children O of_part of_child (pairs_from (λ (y z : NewChild). y.token ≢ z.token) x.children P.once))
    where
      of_child : (y : NewChild) → Contains x.children y → (c : Part) × Contains f.parts c × (y.token ≡ c.token)
      of_child y k = let u = ((P.children y).0 k).1 in (u.child, u.there, ap (λ (z : NewChild). z.token) u.same)

      same : first_other rows x.children ≡ None
      same = none_other rows x.children (λ y k r2 at.
          let u = ((P.children y).0 k).1 in
          let c = u.child in
          let found = token_of rows y.token r2 at in
          let v = known r2 found.0 in
          let named : y.token ≡ c.token = ap (λ (z : NewChild). z.token) u.same in
          let part : v.0 ≡ c = same_part f followed.feed v.0 c v.1 u.there (sym v.4.0 ∙ found.1 ∙ named) in
          let is : IsRowOf w.start c r2 = subst (λ p. IsRowOf w.start p r2) part v.4 in
          let late : w.start < c.from = child_late c u.there u.parent in
          let birth = later_birth w.start c late in
          (ap (λ (z : NewChild). z.parents) u.same ∙ sym (is.1 ∙ birth.0), ap (λ (z : NewChild). z.start) u.same ∙ sym (is.2 ∙ birth.1)))
        where
          child_late : (c : Part) → Contains f.parts c → Contains c.parents q.token → w.start < c.from
          child_late c l parent =
              let k = known r i in
              let mine : k.0 ≡ q = same_part f followed.feed k.0 q k.1 j (sym k.4.0 ∙ its) in
              let before : IsBefore w.start q.until = subst (λ (p : Part). IsBefore w.start p.until) mine k.3 in
              ⊎_elim
              (λ (later : f.created < c.from).
              let u = (followed.feed.layout.parents c l later q.token).0 parent in
              let it : u.0 ≡ q = same_part f followed.feed u.0 q u.1 j u.2 in
              let until : q.until ≡ Some c.from = subst (λ (p : Part). p.until ≡ Some c.from) it u.3.moment in
              subst (IsBefore w.start) until before)
              (λ (early : c.from ≤ f.created).
              let begins = followed.feed.layout.begins c l in
              let at : c.from ≡ f.created = omega (arith, early, begins) in
              absurd (in_nil q.token (subst (λ ts. Contains ts q.token) (followed.feed.layout.first c l at) parent)))
              (cases_lt f.created c.from)

  -- ---- the batch of the parts at the window's start

  pub first_faithful : rows ≡ [] → (x : Batch) → IsFaithfulFirst f x → too_many rows x.children ≡ None
  first_faithful none x P =
      not_over rows x.children
      (few_rows f followed.feed rows x.children O of_part
      (λ y k. let u = (P.children y).0 k in (u.part, u.live.there, ap (λ (z : NewChild). z.token) u.same))
      (pairs_from (λ (y z : NewChild). y.token ≢ z.token) x.children P.once))
