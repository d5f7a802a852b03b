-- The order of a history: stamps do not fall, two modifications of one stamp are of different rows, and a transaction has one stamp.
use Rattle.std.proofs.Common.{◌≡◌, ◌≢◌, ◌⊎◌, ℕ, ◌≤◌, Bool, true, false, ◌&&◌, ◌==◌, cond, List, [], ◌∷◌, ◌++◌, ⊎_elim, refl, sym, ap, ◌∙◌, subst, arith, Contains, true≢false, append-nil, nat_cmp}
use Rattle.std.specs.BTreeMap.{is_at}
use Rattle.std.specs.Cmp.Lexicographic.{slice_cmp, nat_list_cmp_total}
use Rattle.std.specs.Ordering.{is_eq}
use Rattle.std.proofs.lemmas.Cmp.{tied_itself}
use Rattle.std.proofs.lemmas.Bool.{and_from, eq-eqb}
use Rattle.std.proofs.lemmas.List.Elements.{Contains-append_cases}
use Rattle.cs_types.specs.declared.change.RowName.{RowName}
use Rattle.cs_types.specs.Row.{same_row}
use Rattle.cs_types.specs.Exact.{same_row-is}
use Rattle.cs_types.specs.Members.{Pairwise, in_nil, in_head, in_tail, in_cons, snoc_append, pairs_append}
use Rattle.cs_txn.specs.declared.txn.Modification.{Modification}
use Rattle.cs_txn.specs.History.{is_used, stamp_behind, last_stamp, id_behind, wrote_at, Follows, EachFollows, IsHistory}

abbrev pub Later : Modification → Modification → Type 0
Later a b = (a.stamp ≤ b.stamp) × (a.stamp ≡ b.stamp → a.row ≢ b.row)

-- what holds of the modifications so far
pub record SoFar (ms : List Modification) : Type 0 where
  pub below : (m : Modification) → Contains ms m → m.stamp ≤ last_stamp ms
  pub one : (a b : Modification) → Contains ms a → Contains ms b → a.tx ≡ b.tx → a.stamp ≡ b.stamp
  pub order : Pairwise Later ms

stamp_of_last : (s : ℕ) (ms : List Modification) (m : Modification) → stamp_behind s (ms ++ m ∷ []) ≡ m.stamp
stamp_of_last s [] m = refl
stamp_of_last s (x ∷ ms) m = stamp_of_last x.stamp ms m

used : (ms : List Modification) (id : List ℕ) (m : Modification) → Contains ms m → m.tx ≡ id → is_used id ms ≡ true
used [] id m i e = absurd (in_nil m i)
used (x ∷ ms) id m i e = by (is_at (slice_cmp nat_cmp x.tx) id) refl (in_cons x m ms i) (λ j. used ms id m j e)
  where
    by : (b : Bool) → is_at (slice_cmp nat_cmp x.tx) id ≡ b → (m ≡ x) ⊎ Contains ms m → (Contains ms m → is_used id ms ≡ true) → cond b true (is_used id ms) ≡ true
    by true t h f = refl
    by false t h f = ⊎_elim
        (λ (s : m ≡ x).
        let same : x.tx ≡ id = sym (ap (λ (z : Modification). z.tx) s) ∙ e in
        let equal : is_eq (slice_cmp nat_cmp x.tx id) ≡ true = subst (λ y. is_eq (slice_cmp nat_cmp x.tx y) ≡ true) same (ap is_eq (tied_itself nat_list_cmp_total x.tx)) in
        absurd (true≢false (sym equal ∙ t)))
        f h

-- the last one, where there is any
last_one : (s : ℕ) (id : List ℕ) (x : Modification) (ms : List Modification) → (l : Modification) × Contains (x ∷ ms) l × (l.tx ≡ id_behind id (x ∷ ms)) × (l.stamp ≡ stamp_behind s (x ∷ ms))
last_one s id x [] = (x, in_head x [], refl, refl)
last_one s id x (y ∷ ms) = let r = last_one x.stamp x.tx y ms in (r.0, in_tail x r.0 (y ∷ ms) r.1, r.2, r.3)

some_last : (ms : List Modification) (m : Modification) → Contains ms m → (l : Modification) × Contains ms l × (l.tx ≡ id_behind [] ms) × (l.stamp ≡ last_stamp ms)
some_last [] m i = absurd (in_nil m i)
some_last (x ∷ ms) m i = last_one 0 [] x ms

unwritten : (stamp : ℕ) (row : RowName) (ms : List Modification) → wrote_at stamp row ms ≡ false → (m : Modification) → Contains ms m → m.stamp ≡ stamp → m.row ≢ row
unwritten stamp row [] h m i s e = in_nil m i
unwritten stamp row (x ∷ ms) h m i s e = by ((x.stamp == stamp) && same_row x.row row) refl h (in_cons x m ms i) (λ k j. unwritten stamp row ms k m j s e)
  where
    by : (b : Bool) → ((x.stamp == stamp) && same_row x.row row) ≡ b → cond b true (wrote_at stamp row ms) ≡ false → (m ≡ x) ⊎ Contains ms m → (wrote_at stamp row ms ≡ false → Contains ms m → ⊥) → ⊥
    by true t k c f = true≢false k
    by false t k c f = ⊎_elim
        (λ (z : m ≡ x).
        let a : (x.stamp == stamp) ≡ true = eq-eqb x.stamp stamp (sym (ap (λ (y : Modification). y.stamp) z) ∙ s) in
        let b : same_row x.row row ≡ true = (same_row-is x.row row).1 (sym (ap (λ (y : Modification). y.row) z) ∙ e) in
        true≢false (sym (and_from (x.stamp == stamp) (same_row x.row row) a b) ∙ t))
        (f k)
        c

later : (ms : List Modification) (m : Modification) → SoFar ms → Follows ms m → (e : Modification) → Contains ms e → Later e m
later ms m G F e i = (let a = G.below e i in let b = F.stamp in omega (arith, a, b), λ s r. unwritten m.stamp m.row ms F.row e i s r)

one_stamp : (ms : List Modification) (m : Modification) → SoFar ms → Follows ms m → (e : Modification) → Contains ms e → e.tx ≡ m.tx → e.stamp ≡ m.stamp
one_stamp ms m G F e i t =
    let u = F.id (used ms m.tx e i t) in
    let l = some_last ms e i in
    G.one e l.0 i l.1 (t ∙ sym u.0 ∙ sym l.2) ∙ l.3 ∙ u.1

one_more : (ms : List Modification) (m : Modification) → SoFar ms → Follows ms m → SoFar (ms ++ m ∷ [])
one_more ms m G F = record {
  below = λ x i. subst (λ t. x.stamp ≤ t) (sym (stamp_of_last 0 ms m)) (⊎_elim
      (λ (j : Contains ms x). (later ms m G F x j).0)
      (λ (j : Contains (m ∷ []) x). let s = ap (λ (z : Modification). z.stamp) (only x j) in omega (arith, s))
      (Contains-append_cases ms (m ∷ []) x i));
  one = λ a b i j t. ⊎_elim
      (λ (k : Contains ms a). ⊎_elim
      (λ (l : Contains ms b). G.one a b k l t)
      (λ (l : Contains (m ∷ []) b). let s = only b l in one_stamp ms m G F a k (t ∙ ap (λ (z : Modification). z.tx) s) ∙ sym (ap (λ (z : Modification). z.stamp) s))
      (Contains-append_cases ms (m ∷ []) b j))
      (λ (k : Contains (m ∷ []) a). let s = only a k in ⊎_elim
      (λ (l : Contains ms b). ap (λ (z : Modification). z.stamp) s ∙ sym (one_stamp ms m G F b l (sym t ∙ ap (λ (z : Modification). z.tx) s)))
      (λ (l : Contains (m ∷ []) b). ap (λ (z : Modification). z.stamp) (s ∙ sym (only b l)))
      (Contains-append_cases ms (m ∷ []) b j))
      (Contains-append_cases ms (m ∷ []) a i);
  order = pairs_append Later ms (m ∷ []) G.order (λ y j. absurd (in_nil y j), tt) (λ x y i j. subst (Later x) (sym (only y j)) (later ms m G F x i));
}
  where
    only : (x : Modification) → Contains (m ∷ []) x → x ≡ m
    only x j = ⊎_elim (λ (s : x ≡ m). s) (λ (n : Contains [] x). absurd (in_nil x n)) (in_cons m x [] j)

all_more : (done ms : List Modification) → SoFar done → EachFollows done ms → SoFar (done ++ ms)
all_more done [] G h = subst SoFar (sym (append-nil done)) G
all_more done (m ∷ ms) G h = subst SoFar (snoc_append done ms m) (all_more (done ++ m ∷ []) ms (one_more done m G h.0) h.1)

pub in_order : (ms : List Modification) → IsHistory ms → SoFar ms
in_order ms h = all_more [] ms (record { below = λ m i. absurd (in_nil m i); one = λ a b i j t. absurd (in_nil a i); order = tt }) h
