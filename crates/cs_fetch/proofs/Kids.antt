-- The children that an honest READ of a part lists, and where it ends.
use Rattle.std.proofs.Common.{◌≡◌, ◌≢◌, ◌⊎◌, ℕ, suc, ◌-◌, ◌<◌, ◌≤◌, min, Bool, true, false, cond, List, [], ◌∷◌, ◌++◌, map, length, Option, Some, None, is_some, ⊎_elim, refl, ap, ◌∙◌, sym, subst, arith, is_eq, Contains, append-nil}
use Rattle.std.specs.declared.cmp.Ordering.{Ordering}
use Rattle.std.specs.declared.cmp.Ordering.TheVariants.{Less, Equal, Greater}
use Rattle.std.specs.Cmp.{eq_by_cmp_equiv}
use Rattle.std.specs.Cmp.Lexicographic.{slice_cmp, nat_list_cmp_total}
use Rattle.std.specs.Ordering.{nat_cmp, is_lt}
use Rattle.std.proofs.lemmas.Bool.{cases_lt, le-ltb}
use Rattle.std.proofs.lemmas.List.{length-map}
use Rattle.std.proofs.lemmas.List.Elements.{Contains-append_cases}
use Rattle.std.proofs.lemmas.Map.Lookups.{exact_bytes}
use Rattle.cs_types.specs.Members.{Pairwise, in_nil, in_head, in_tail, in_cons, snoc_append, pairs_from, pairs_append, pairs_two, from_flat, in_map, from_map}
use Rattle.cs_place.specs.declared.place.Place.{Place}
use Rattle.cs_place.specs.declared.part.Part.{Part}
use Rattle.cs_place.specs.Part.{IsInRange, IsBefore, Holds}
use Rattle.cs_records.specs.declared.records.Child.{Child}
use Rattle.cs_records.specs.declared.records.ChildRecord.{ChildRecord}
use Rattle.cs_records.specs.declared.records.Record.{Record}
use Rattle.cs_link.specs.declared.batch.NewChild.{NewChild}
use Rattle.cs_link.specs.declared.breach.Breach.{Breach}
use Rattle.cs_link.specs.declared.feed.Feed.{Feed}
use Rattle.cs_link.specs.declared.reading.Step.{Step}
use Rattle.cs_link.specs.Batch.{limit, IsNewChild}
use Rattle.cs_fetch.specs.Breach.{too_many, with_children}
use Rattle.cs_link.specs.Feed.{IsFeed}
use Rattle.cs_fetch.specs.Fetch.{finish}
use Rattle.cs_link.specs.Honest.{Follows, IsChildOf, MayList, MayFinish, MayFollow, EndsWithin, HasAllChildren}
use Rattle.cs_fetch.specs.Keeping.{parents_of, keep_children}
use Rattle.cs_link.specs.Reading.{children_in, new_child, children}
use Rattle.cs_fetch.proofs.Reached.{children_more}
use Rattle.cs_fetch.proofs.Lists.{no_longer, place}

-- what an accepted READ of a part asks for
pub record IsAccepted (f : Feed) (q : Part) (r e m : ℕ) : Type 0 where
  pub there : Contains f.parts q
  pub created : f.created ≤ r
  pub window : r ≤ e
  pub past : r ≤ m
  pub born : q.from ≤ r
  pub lives : IsBefore r q.until

abbrev pub Apart : List NewChild → Type 0
Apart xs = Pairwise (λ a b. a.token ≢ b.token) xs

-- ---- each is kept

pub token_same : (a b : List ℕ) (o : Ordering) → slice_cmp nat_cmp a b ≡ o → is_eq o ≡ true → a ≡ b
token_same a b Less s e = cc
token_same a b Equal s e = exact_bytes a b s
token_same a b Greater s e = cc

pub not_listed : (kept : List NewChild) (token : List ℕ) → ((x : NewChild) → Contains kept x → x.token ≢ token) → parents_of token kept ≡ None
not_listed [] token h = refl
not_listed (x ∷ xs) token h = by (is_eq (slice_cmp nat_cmp x.token token)) refl (not_listed xs token (λ y i. h y (in_tail x y xs i)))
  where
    by : (b : Bool) → is_eq (slice_cmp nat_cmp x.token token) ≡ b → parents_of token xs ≡ None → cond b (Some x.parents) (parents_of token xs) ≡ None
    by true g k = absurd (h x (in_head x xs) (token_same x.token token (slice_cmp nat_cmp x.token token) refl g))
    by false g k = k

pub keep_each : (kept xs : List NewChild) → ((a b : NewChild) → Contains kept a → Contains xs b → a.token ≢ b.token) → Apart xs → keep_children kept xs ≡ kept ++ xs
keep_each kept [] h p = sym (append-nil kept)
keep_each kept (b ∷ xs) h p =
    ap (λ z. keep_children (cond (is_some z) kept (kept ++ b ∷ [])) xs) (not_listed kept b.token (λ a i. h a b i (in_head b xs)))
    ∙ keep_each (kept ++ b ∷ []) xs
    (λ a c i j. ⊎_elim
    (λ (l : Contains kept a). h a c l (in_tail b c xs j))
    (λ (l : Contains (b ∷ []) a). ⊎_elim
    (λ (s : a ≡ b). λ g. p.0 c j (sym (ap (λ (z : NewChild). z.token) s) ∙ g))
    (λ (n : Contains [] a). absurd (in_nil a n))
    (in_cons b a [] l))
    (Contains-append_cases kept (b ∷ []) a i))
    p.1
    ∙ snoc_append kept xs b

pub all_kept : (xs : List NewChild) → Apart xs → keep_children [] xs ≡ xs
all_kept xs p = keep_each [] xs (λ a b i j. absurd (in_nil a i)) p

tokens_apart : (xs : List NewChild) → Apart xs → Pairwise (λ a b. a ≢ b) (map (λ (x : NewChild). x.token) xs)
tokens_apart [] p = tt
tokens_apart (x ∷ xs) p = (λ t i. let u = from_map (λ (y : NewChild). y.token) t xs i in λ g. p.0 u.0 u.1 (g ∙ u.2), tokens_apart xs p.1)

-- a part has the child's token
abbrev pub HasPart : List Part → NewChild → Type 0
HasPart parts b = (c : Part) × Contains parts c × (c.token ≡ b.token)

-- children that are apart, each with a part of its token, are no more than the parts
pub few_kids : (parts : List Part) → length parts ≤ 65536 → (old new : List NewChild) → Apart old → Apart new → ((a b : NewChild) → Contains old a → Contains new b → a.token ≢ b.token) → ((b : NewChild) → Contains old b → HasPart parts b) → ((b : NewChild) → Contains new b → HasPart parts b) → too_many (keep_children old new) ≡ None
few_kids parts few old new p q apart o n =
    ap too_many (keep_each old new apart q)
    ∙ ap (λ b. cond b (Some (Breach.TooManyChildren (length (old ++ new)) 65536)) None) (le-ltb 65536 (length (old ++ new)) short)
  where
    token : NewChild → List ℕ
    token x = x.token

    mine : Part → List ℕ
    mine x = x.token

    inside : (t : List ℕ) → Contains (map token (old ++ new)) t → Contains (map mine parts) t
    inside t i =
        let u = from_map token t (old ++ new) i in
        let h = ⊎_elim (λ (j : Contains old u.0). o u.0 j) (λ (j : Contains new u.0). n u.0 j) (Contains-append_cases old new u.0 u.1) in
        subst (λ z. Contains (map mine parts) z) (h.2 ∙ sym u.2) (in_map mine h.0 parts h.1)

    short : length (old ++ new) ≤ 65536
    short =
        let l = no_longer (map token (old ++ new)) (map mine parts) (tokens_apart (old ++ new) (pairs_append (λ (a b : NewChild). a.token ≢ b.token) old new p q apart)) inside in
        let m = length-map (old ++ new) token in
        let k = length-map parts mine in
        omega (arith, l, m, k, few)

pub apart_listed : (t : ℕ) (cs : List Child) → Pairwise (λ x y. x.token ≢ y.token) cs → Apart (map (new_child t) cs)
apart_listed t [] p = tt
apart_listed t (x ∷ cs) p = (
  λ b i. let u = from_map (new_child t) b cs i in λ g. p.0 u.0 u.1 (g ∙ ap (λ (z : NewChild). z.token) u.2),
  apart_listed t cs p.1,
)

-- where each step's children are apart and new, all are apart
module _ (M : List Step → Step → Type 0) (each : (done : List Step) (x : Step) → M done x → Apart (children_in x) × ((a b : NewChild) → Contains (children done) a → Contains (children_in x) b → a.token ≢ b.token)) where
  apart_behind : (done xs : List Step) → Apart (children done) → Follows M done xs → Apart (children (done ++ xs))
  apart_behind done [] p h = subst (λ z. Apart (children z)) (sym (append-nil done)) p
  apart_behind done (x ∷ xs) p h =
      let u = each done x h.0 in
      subst (λ z. Apart (children z)) (snoc_append done xs x)
      (apart_behind (done ++ x ∷ []) xs
      (subst Apart (sym (children_more done x)) (pairs_append (λ (a b : NewChild). a.token ≢ b.token) (children done) (children_in x) p u.0 (λ a b i j. u.1 a b i j)))
      h.1)

  pub all_apart : (xs : List Step) → Follows M [] xs → Apart (children xs)
  all_apart xs h = apart_behind [] xs tt h

some_same : (a b : ℕ) → Some a ≡ Some b → a ≡ b
some_same a b h = grind arith

lt_itself : (xs : List ℕ) → is_lt (slice_cmp nat_cmp xs xs) ≡ false
lt_itself xs = by (slice_cmp nat_cmp xs xs) ((eq_by_cmp_equiv nat_list_cmp_total).refl xs)
  where
    by : (o : Ordering) → is_eq o ≡ true → is_lt o ≡ false
    by Less h = cc
    by Equal h = refl
    by Greater h = refl

module _ (f : Feed) (F : IsFeed f) where
  pub same_token : (a b : Part) → Contains f.parts a → Contains f.parts b → a.token ≡ b.token → a ≡ b
  same_token a b i j e =
      ⊎_elim
      (λ (s : a ≡ b). s)
      (λ (r : (a.token ≢ b.token) ⊎ (b.token ≢ a.token)). ⊎_elim (λ (n : a.token ≢ b.token). absurd (n e)) (λ (n : b.token ≢ a.token). absurd (n (sym e))) r)
      (pairs_two (λ (x y : Part). x.token ≢ y.token) f.parts (pairs_from (λ (x y : Part). x.token ≢ y.token) f.parts F.layout.tokens) a b i j)

  same_holder : (a b : Part) (p : Place) (t : ℕ) → f.created ≤ t → Contains f.parts a → Contains f.parts b → Holds a p t → Holds b p t → a ≡ b
  same_holder a b p t l i j h k =
      let u = F.layout.held p t l in
      u.3 a i h ∙ sym (u.3 b j k)

  module _ (q : Part) (r e m : ℕ) (A : IsAccepted f q r e m) where
    late : (c : Part) → Contains f.parts c → Contains c.parents q.token → f.created < c.from
    late c i h =
        ⊎_elim
        (λ (l : f.created < c.from). l)
        (λ (l : c.from ≤ f.created). absurd (in_nil q.token (subst (λ z. Contains z q.token) (F.layout.first c i (let b = F.layout.begins c i in omega (arith, b, l))) h)))
        (cases_lt f.created c.from)

    pub child_from : (c : Part) (u : ℕ) → Contains f.parts c → Contains c.parents q.token → q.until ≡ Some u → c.from ≡ u
    child_from c u i h g =
        let a = (F.layout.parents c i (late c i h) q.token).0 h in
        let s : a.0 ≡ q = same_token a.0 q a.1 A.there a.2 in
        some_same c.from u (sym a.3.moment ∙ ap (λ (z : Part). z.until) s ∙ g)

    -- a part that ends behind the start has a child
    pub has_child : (u : ℕ) → q.until ≡ Some u → (c : Part) × Contains f.parts c × Contains c.parents q.token
    has_child u g =
        (h.0, h.1, (F.layout.parents h.0 h.1 after q.token).1 (q, A.there, refl, record { moment = g ∙ ap Some (sym from); places = (q.range.low, mine, h.2.inside) }))
      where
        past : r < u
        past = subst (λ o. IsBefore r o) g A.lives

        mine : IsInRange q.range q.range.low
        mine = (lt_itself q.range.low.bytes, F.layout.ranges q A.there)

        h : (c : Part) × Contains f.parts c × Holds c q.range.low u × ((b : Part) → Contains f.parts b → Holds b q.range.low u → b ≡ c)
        h = F.layout.held q.range.low u (omega (arith, A.created, past))

        sooner : (o : Option ℕ) → IsBefore u o → IsBefore (u - 1) o
        sooner None k = tt
        sooner (Some v) k = omega arith

        not_before : h.0.from < u → ⊥
        not_before l =
            let s : h.0 ≡ q = same_holder h.0 q q.range.low (u - 1) (omega (arith, A.created, past)) h.1 A.there
            (record { inside = h.2.inside; live = record { born = omega arith; lives = sooner h.0.until h.2.live.lives } })
            (record { inside = mine; live = record { born = omega (arith, A.born, past); lives = subst (λ o. IsBefore (u - 1) o) (sym g) (omega (arith, past)) } }) in
            let k : u < u = subst (λ o. IsBefore u o) (ap (λ (z : Part). z.until) s ∙ g) h.2.live.lives in
            omega arith

        from : h.0.from ≡ u
        from = ⊎_elim (λ (l : h.0.from < u). absurd (not_before l)) (λ (l : u ≤ h.0.from). let b = h.2.live.born in omega (arith, b, l)) (cases_lt h.0.from u)

        after : f.created < h.0.from
        after = omega (arith, A.created, past, from)

    pub each_apart : (done : List Step) (x : Step) → MayFollow f q r e m done x → Apart (children_in x) × ((a b : NewChild) → Contains (children done) a → Contains (children_in x) b → a.token ≢ b.token)
    each_apart done (Step.Record (Record.Change item)) M = (tt, λ a b i j. absurd (in_nil b j))
    each_apart done (Step.Record (Record.Heartbeat t)) M = (tt, λ a b i j. absurd (in_nil b j))
    each_apart done (Step.Closing closing) M = (tt, λ a b i j. absurd (in_nil b j))
    each_apart done (Step.Record (Record.Children item)) M = by M.1
      where
        by : MayList f q r e m done item → Apart (map (new_child item.start) item.children) × ((a b : NewChild) → Contains (children done) a → Contains (map (new_child item.start) item.children) b → a.token ≢ b.token)
        by D = (
          apart_listed item.start item.children (pairs_from (λ (x y : Child). x.token ≢ y.token) item.children D.once),
          λ a b i j. let u = from_map (new_child item.start) b item.children j in λ g. D.new u.0 a u.1 i (g ∙ ap (λ (z : NewChild). z.token) u.2),
        )

    module _ (done : List Step) (H : Follows (MayFollow f q r e m) [] done) where
      pub are_apart : Apart (children done)
      are_apart = all_apart (MayFollow f q r e m) each_apart done H

      pub each_once : keep_children [] (children done) ≡ children done
      each_once = all_kept (children done) are_apart

      -- a child stands in a record that may list it
      record Kid (b : NewChild) : Type 0 where
        pub before : List Step
        pub item : ChildRecord
        pub child : Child
        pub there : Contains item.children child
        pub may : MayList f q r e m before item
        pub same : b ≡ new_child item.start child

      kid : (b : NewChild) → Contains (children done) b → Kid b
      kid b i = let u = from_flat children_in b done i in by u.0 u.1 u.2
        where
          by : (x : Step) → Contains done x → Contains (children_in x) b → Kid b
          by (Step.Record (Record.Change item)) j h = absurd (in_nil b h)
          by (Step.Record (Record.Heartbeat t)) j h = absurd (in_nil b h)
          by (Step.Closing closing) j h = absurd (in_nil b h)
          by (Step.Record (Record.Children item)) j h =
              let p = place (MayFollow f q r e m) [] done (Step.Record (Record.Children item)) H j in
              let c = from_map (new_child item.start) b item.children h in
              record { before = p.before; item = item; child = c.0; there = c.1; may = p.may.1; same = c.2 }

      pub is_child : (b : NewChild) → Contains (children done) b → IsNewChild f e q b
      is_child b i =
          record {
            until = k.item.start;
            ends = k.may.ends.0;
            by_then = k.may.ends.1;
            child = c.part.0;
            there = c.part.1;
            parent = subst (λ l. Contains l q.token) (sym c.part.3) c.parent;
            same = k.same ∙ (λ i. record { token = sym c.part.2 i; parents = sym c.part.3 i; start = sym from i });
          }
        where
          k : Kid b
          k = kid b i

          c : IsChildOf f q r e m k.child
          c = k.may.child k.child k.there

          from : c.part.0.from ≡ k.item.start
          from = child_from c.part.0 k.item.start c.part.1 (subst (λ l. Contains l q.token) (sym c.part.3) c.parent) k.may.ends.0

      pub few_listed : (item : ChildRecord) → MayList f q r e m done item → too_many (with_children (children done) item) ≡ None
      few_listed item D =
          few_kids f.parts F.few_parts (children done) (map (new_child item.start) item.children) are_apart (apart_listed item.start item.children (pairs_from (λ (x y : Child). x.token ≢ y.token) item.children D.once))
          (λ a b i j. let u = from_map (new_child item.start) b item.children j in λ g. D.new u.0 a u.1 i (g ∙ ap (λ (z : NewChild). z.token) u.2))
          (λ b i. let c = is_child b i in (c.child, c.there, sym (ap (λ (z : NewChild). z.token) c.same)))
          (λ b j. let u = from_map (new_child item.start) b item.children j in let c = D.child u.0 u.1 in (c.part.0, c.part.1, c.part.2 ∙ sym (ap (λ (z : NewChild). z.token) u.2)))

      start_of : (b : NewChild) (u : ℕ) → q.until ≡ Some u → Contains (children done) b → b.start ≡ u
      start_of b u g i =
          let c = is_child b i in
          ap (λ (z : NewChild). z.start) c.same ∙ child_from c.child u c.there c.parent g

      -- the READ ends where the part or what was asked for does
      pub ends : MayFinish f q r e m done → suc (finish e (children done)) ≡ limit e q.until
      ends M = ⊎_elim
          (λ (h : EndsWithin f q r e m × HasAllChildren f q r e m done).
          let c = has_child h.0.until h.0.ends in
          let b = h.1 c.0 c.1 c.2 in
          some (children done) refl b.0 b.1 h.0.until h.0.ends h.0.within.0)
          (λ (h : IsBefore e q.until × (e ≤ m)). over (children done) refl h.0)
          M.reached
        where
          some : (bs : List NewChild) → children done ≡ bs → (b : NewChild) → Contains (children done) b → (u : ℕ) → q.until ≡ Some u → u ≤ e → suc (finish e bs) ≡ limit e q.until
          some [] s b i u g l = absurd (in_nil b (subst (λ z. Contains z b) s i))
          some (a ∷ bs) s b i u g l =
              let t : a.start ≡ u = start_of a u g (subst (λ z. Contains z a) (sym s) (in_head a bs)) in
              let p : r < u = subst (λ o. IsBefore r o) g A.lives in
              let n : suc (a.start - 1) ≡ min (suc e) u = omega (arith, t, l, p) in
              n ∙ ap (λ o. limit e o) (sym g)

          free : (o : Option ℕ) → IsBefore e o → suc e ≡ limit e o
          free None h = refl
          free (Some u) h = omega arith

          over : (bs : List NewChild) → children done ≡ bs → IsBefore e q.until → suc (finish e bs) ≡ limit e q.until
          over [] s h = free q.until h
          over (a ∷ bs) s h =
              let c = is_child a (subst (λ z. Contains z a) (sym s) (in_head a bs)) in
              let k : e < c.until = subst (λ o. IsBefore e o) c.ends h in
              let l = c.by_then in
              absurd (omega (arith, k, l))

      -- and its children are all of the part's
      pub all_children : MayFinish f q r e m done → (x : NewChild) → IsNewChild f e q x → Contains (children done) x
      all_children M x c = ⊎_elim
          (λ (h : EndsWithin f q r e m × HasAllChildren f q r e m done).
          let b = h.1 c.child c.there c.parent in
          let d = is_child b.0 b.1 in
          let t : d.child.token ≡ c.child.token = sym (ap (λ (z : NewChild). z.token) d.same) ∙ b.2 in
          let s : d.child ≡ c.child = same_token d.child c.child d.there c.there t in
          let g : b.0 ≡ x = d.same ∙ ap (λ (z : Part). record { token = z.token; parents = z.parents; start = z.from }) s ∙ sym c.same in
          subst (λ z. Contains (children done) z) g b.1)
          (λ (h : IsBefore e q.until × (e ≤ m)).
          let k : e < c.until = subst (λ o. IsBefore e o) c.ends h.0 in
          let l = c.by_then in
          absurd (omega (arith, k, l)))
          M.reached
