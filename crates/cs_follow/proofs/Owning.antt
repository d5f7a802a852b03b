-- A faithful batch brings its row changes of its part, no more than the feed has.
use Rattle.std.proofs.Common.{◌≡◌, ◌≢◌, ◌⊎◌, ⊎_elim, ℕ, suc, ◌≤◌, Bool, true, false, cond, not, ◌&&◌, ◌||◌, List, [], ◌∷◌, ◌++◌, map, filter, length, sym, refl, subst, ap, ◌∙◌, arith, true≢false, Contains, nat_le, eqb}
use Rattle.std.proofs.lemmas.Bool.{and_from, or_left, or_right, eqb-true, eq-eqb}
use Rattle.std.proofs.lemmas.List.Elements.{Contains-append_cases}
use Rattle.std.specs.Ordering.{nat_cmp, ordering_then, is_eq}
use Rattle.std.specs.declared.cmp.Ordering.{Ordering}
use Rattle.std.specs.declared.cmp.Ordering.TheVariants.{Less, Equal, Greater}
use Rattle.std.specs.Cmp.Lexicographic.{slice_cmp}
use Rattle.cs_types.specs.Exact.{same_row-is}
use Rattle.cs_types.specs.Row.{row_cmp}
use Rattle.cs_types.specs.declared.change.Change.{Change}
use Rattle.cs_types.specs.Members.{Pairwise, in_nil, in_head, in_tail, in_cons, in_filter, from_filter, pairs_from, pairs_append, pairs_two, pairs_filter, in_map, from_map}
use Rattle.cs_place.specs.declared.part.Part.{Part}
use Rattle.cs_place.specs.Part.{is_held}
use Rattle.cs_place.specs.Held.{held_is}
use Rattle.cs_link.specs.declared.batch.Batch.{Batch}
use Rattle.cs_link.specs.declared.batch.Seen.{Seen}
use Rattle.cs_link.specs.declared.feed.Feed.{Feed}
use Rattle.cs_link.specs.Batch.{seen_of, seen_cmp, is_seen, is_known, IsFaithfulPart}
use Rattle.cs_link.specs.Feed.{place_of, IsOf, is_of_at, IsFeed}
use Rattle.cs_schedule.specs.declared.row.Row.{Row}
use Rattle.cs_schedule.specs.Consistent.{known_by, news, through_by}
use Rattle.cs_schedule.specs.Plan.{seen_with}
use Rattle.cs_follow.specs.Own.{AreOwn, HasOwn}
use Rattle.cs_follow.proofs.Pigeon.{no_more}
use Rattle.cs_follow.proofs.RowLemmas.{advanced_row}
use Rattle.cs_follow.proofs.Small.{map_length, token_itself}

then_equal : (o p : Ordering) → is_eq o ≡ true → is_eq p ≡ true → is_eq (ordering_then o p) ≡ true
then_equal Less p h k = absurd (true≢false (sym h))
then_equal Equal p h k = k
then_equal Greater p h k = absurd (true≢false (sym h))

seen_itself : (s : Seen) → is_eq (seen_cmp s s) ≡ true
seen_itself s = then_equal (slice_cmp nat_cmp s.tx s.tx) (row_cmp s.row s.row) (token_itself s.tx) ((same_row-is s.row s.row).1 refl)

in_seen : (names : List Seen) (c : Change) → Contains names (seen_of c) → is_seen names c ≡ true
in_seen [] c i = absurd (in_nil (seen_of c) i)
in_seen (n ∷ names) c i =
    ⊎_elim
    (λ (e : seen_of c ≡ n). or_left (is_eq (seen_cmp (seen_of c) n)) (is_seen names c) (subst (λ z. is_eq (seen_cmp (seen_of c) z) ≡ true) e (seen_itself (seen_of c))))
    (λ (j : Contains names (seen_of c)). or_right (is_eq (seen_cmp (seen_of c) n)) (is_seen names c) (in_seen names c j))
    (in_cons n (seen_of c) names i)

pairs_map : {A B : Type 0} (R : A → A → Type 0) (S : B → B → Type 0) (g : A → B) (xs : List A) → ((x y : A) → Contains xs x → Contains xs y → R x y → S (g x) (g y)) → Pairwise R xs → Pairwise S (map g xs)
pairs_map R S g [] f h = tt
pairs_map R S g (x ∷ xs) f h = (
  λ b j. let u = from_map g b xs j in subst (λ z. S (g x) z) (sym u.2) (f x u.0 (in_head x xs) (in_tail x u.0 xs u.1) (h.0 u.0 u.1)),
  pairs_map R S g xs (λ a b i j. f a b (in_tail x a xs i) (in_tail x b xs j)) h.1,
)

-- two wanted changes of one name are one
same_name : (f : Feed) → IsFeed f → (c d : Change) → Contains f.wanted c → Contains f.wanted d → seen_of c ≡ seen_of d → c ≡ d
same_name f F c d i j e =
    let tx : c.tx ≡ d.tx = ap (λ (s : Seen). s.tx) e in
    let row : c.row ≡ d.row = ap (λ (s : Seen). s.row) e in
    ⊎_elim
    (λ (s : c ≡ d). s)
    (λ (r : (c.tx ≡ d.tx → c.row ≢ d.row) ⊎ (d.tx ≡ c.tx → d.row ≢ c.row)). ⊎_elim (λ (n : c.tx ≡ d.tx → c.row ≢ d.row). absurd (n tx row)) (λ (n : d.tx ≡ c.tx → d.row ≢ c.row). absurd (n (sym tx) (sym row))) r)
    (pairs_two (λ (x y : Change). x.tx ≡ y.tx → x.row ≢ y.row) f.wanted (pairs_from (λ (x y : Change). x.tx ≡ y.tx → x.row ≢ y.row) f.wanted F.names) c d i j)

-- names of a part's changes at a moment are few
pub own_few : (f : Feed) → IsFeed f → (q : Part) (m : ℕ) (names : List Seen) → Contains f.parts q → AreOwn f q m names → length names ≤ 1024
own_few f F q m names there O =
    let at = filter (is_of_at q m) f.wanted in
    let inside : (n : Seen) → Contains names n → Contains (map seen_of at) n =
    λ n i. let u = O.each n i in
    let held : is_of_at q m u.0 ≡ true = and_from (is_held q (place_of u.0.row) u.0.stamp) (eqb u.0.stamp m) ((held_is q (place_of u.0.row) u.0.stamp).1 u.1.held) (eq-eqb u.0.stamp m u.2) in
    subst (λ z. Contains (map seen_of at) z) u.3 (in_map seen_of u.0 at (in_filter (is_of_at q m) u.0 f.wanted u.1.wanted held)) in
    let most = no_more names (map seen_of at) O.once inside in
    let count : length (map seen_of at) ≡ length at = map_length seen_of at in
    let few = F.few_changes q m there in
    omega (arith, most, count, few)

or_false : (a b : Bool) → (a || b) ≡ false → b ≡ false
or_false true b h = absurd (true≢false h)
or_false false b h = h

and_true : (a b : Bool) → (a && b) ≡ false → a ≡ true → b ≡ false
and_true true b h k = h
and_true false b h k = absurd (true≢false (sym k))

module _ (f : Feed) (F : IsFeed f) (e : ℕ) (r : Row) (q : Part) (there : Contains f.parts q) (its : r.token ≡ q.token) (x : Batch) (P : IsFaithfulPart f e (known_by r) q x) (own : HasOwn f r) where
  at : ℕ → List Change
  at m = filter (λ c. eqb c.stamp m) (news r x)

  new_of : (m : ℕ) (c : Change) → Contains (at m) c → IsOf f q c × (c.stamp ≡ m) × (is_known (known_by r) c ≡ false) × Contains x.changes c
  unfolding at
  new_of m c i =
      let u = from_filter (λ d. eqb d.stamp m) c (news r x) i in
      let v = from_filter (λ d. not (is_known (known_by r) d)) c x.changes u.0 in
      let w = P.wanted c v.0 in
      (w.0, eqb-true c.stamp m u.1, w.4, v.0)

  new_once : (m : ℕ) → Pairwise (λ a b. a ≢ b) (map seen_of (at m))
  unfolding at
  new_once m =
      let all : Pairwise (λ (c d : Change). (c ≢ d) × (c.stamp ≤ d.stamp)) x.changes = pairs_from (λ (c d : Change). (c ≢ d) × (c.stamp ≤ d.stamp)) x.changes P.order in
      let some = pairs_filter (λ (c d : Change). (c ≢ d) × (c.stamp ≤ d.stamp)) (λ c. eqb c.stamp m) (news r x) (pairs_filter (λ (c d : Change). (c ≢ d) × (c.stamp ≤ d.stamp)) (λ c. not (is_known (known_by r) c)) x.changes all) in
      pairs_map (λ (c d : Change). (c ≢ d) × (c.stamp ≤ d.stamp)) (λ a b. a ≢ b) seen_of (at m)
      (λ c d i j h same. h.0 (same_name f F c d (new_of m c i).0.wanted (new_of m d j).0.wanted same)) some

  new_own : (m : ℕ) → AreOwn f q m (map seen_of (at m))
  new_own m = record {
    once = new_once m;
    each = λ n i. let u = from_map seen_of n (at m) i in let v = new_of m u.0 u.1 in (u.0, v.0, v.1, sym u.2);
  }

  both_own : (m : ℕ) → suc r.through ≡ m → AreOwn f q m (r.seen ++ map seen_of (at m))
  both_own m same =
      let old = own q there its in
      record {
        once = pairs_append (λ a b. a ≢ b) r.seen (map seen_of (at m)) old.once (new_once m)
            (λ a b i j equal.
            let u = from_map seen_of b (at m) j in
            let v = new_of m u.0 u.1 in
            let seen : is_seen r.seen u.0 ≡ true = in_seen r.seen u.0 (subst (λ z. Contains r.seen z) (equal ∙ u.2) i) in
            let next : eqb u.0.stamp (suc r.through) ≡ true = eq-eqb u.0.stamp (suc r.through) (v.1 ∙ sym same) in
            let unseen : is_seen r.seen u.0 ≡ false = and_true (eqb u.0.stamp (suc r.through)) (is_seen r.seen u.0) (or_false (nat_le u.0.stamp r.through) _ v.2) next in
            true≢false (sym seen ∙ unseen));
        each = λ n i. ⊎_elim
            (λ (j : Contains r.seen n). let u = old.each n j in (u.0, u.1, u.2 ∙ same, u.3))
            (λ (j : Contains (map seen_of (at m)) n). (new_own m).each n j)
            (Contains-append_cases r.seen (map seen_of (at m)) n i);
      }

  -- the seen changes of the row with the batch
  pub with_own : AreOwn f q (suc (through_by r x)) (seen_with r (through_by r x) (news r x))
  unfolding at
  with_own = by (eqb (suc r.through) (suc (through_by r x))) refl
    where
      by : (b : Bool) → eqb (suc r.through) (suc (through_by r x)) ≡ b → AreOwn f q (suc (through_by r x)) (cond b r.seen [] ++ map seen_of (filter (λ c. eqb c.stamp (suc (through_by r x))) (news r x)))
      by true k = both_own (suc (through_by r x)) (eqb-true (suc r.through) (suc (through_by r x)) k)
      by false k = new_own (suc (through_by r x))

  pub moved_own : (part : (p : Part) → Contains f.parts p → p.token ≡ q.token → p ≡ q) (fin : Bool) → HasOwn f (advanced_row r.token (through_by r x) (news r x) fin r)
  moved_own part fin p i named = let same : q ≡ p = sym (part p i (sym named ∙ its)) in subst (λ (z : Part). AreOwn f z (suc (through_by r x)) (seen_with r (through_by r x) (news r x))) same with_own
