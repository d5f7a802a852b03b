-- A transaction of a history has one stamp and one tag.
use Rattle.std.proofs.Common.{◌≡◌, ◌⊎◌, Bool, true, false, cond, ℕ, zero, suc, List, [], ◌∷◌, ◌++◌, ⊎_elim, inl, inr, refl, sym, ap, ◌∙◌, subst, arith, Contains, true≢false, append-nil, append_assoc, nat_cmp}
use Rattle.std.specs.BTreeMap.{is_at}
use Rattle.std.specs.Cmp.Lexicographic.{slice_cmp}
use Rattle.std.proofs.lemmas.List.Elements.{Contains-append_cases}
use Rattle.cs_txn.specs.declared.txn.Modification.{Modification}
use Rattle.cs_txn.specs.History.{is_used, stamp_behind, last_stamp, id_behind, tag_behind, Follows, EachFollows, IsHistory}
use Rattle.cs_txn.proofs.Checked.{same_itself}

-- members of lists of modifications

in_nil : (x : Modification) → Contains [] x → ⊥
in_nil x h = grind arith

in_head : (x : Modification) (xs : List Modification) → Contains (x ∷ xs) x
in_head x xs = (0, omega arith, refl)

in_tail : (x y : Modification) (xs : List Modification) → Contains xs y → Contains (x ∷ xs) y
in_tail x y xs h = (suc h.0, omega (arith, h.1), h.2)

in_cons : (x y : Modification) (xs : List Modification) → Contains (x ∷ xs) y → (y ≡ x) ⊎ Contains xs y
in_cons x y xs (zero, l, e) = inl (sym e)
in_cons x y xs (suc k, l, e) = inr (k, omega arith, e)

abbrev Agrees : Modification → Modification → Type 0
Agrees a b = (a.stamp ≡ b.stamp) × (a.tag ≡ b.tag)

turned : (a b : Modification) → Agrees a b → Agrees b a
turned a b h = (sym h.0, sym h.1)

joined : (a b c : Modification) → Agrees a b → Agrees b c → Agrees a c
joined a b c h k = (h.0 ∙ k.0, h.1 ∙ k.1)

alike : (a b : Modification) → a ≡ b → Agrees a b
alike a b e = (ap (λ (z : Modification). z.stamp) e, ap (λ (z : Modification). z.tag) e)

-- of the modifications so far, those of one transaction agree
abbrev SoFar : List Modification → Type 0
SoFar ms = (a b : Modification) → Contains ms a → Contains ms b → a.tx ≡ b.tx → Agrees a b

used : (ms : List Modification) (id : List ℕ) (m : Modification) → Contains ms m → m.tx ≡ id → is_used id ms ≡ true
used [] id m i e = absurd (in_nil m i)
used (x ∷ ms) id m i e = by (is_at (slice_cmp nat_cmp x.tx) id) refl (in_cons x m ms i) (λ j. used ms id m j e)
  where
    by : (b : Bool) → is_at (slice_cmp nat_cmp x.tx) id ≡ b → (m ≡ x) ⊎ Contains ms m → (Contains ms m → is_used id ms ≡ true) → cond b true (is_used id ms) ≡ true
    by true t h f = refl
    by false t h f =
        ⊎_elim
        (λ (s : m ≡ x).
        let same : x.tx ≡ id = sym (ap (λ (z : Modification). z.tx) s) ∙ e in
        absurd (true≢false (sym (same_itself x.tx) ∙ ap (λ y. is_at (slice_cmp nat_cmp x.tx) y) same ∙ t)))
        f h

-- the last one, where there is any
last_one : (stamp : ℕ) (id tag : List ℕ) (x : Modification) (ms : List Modification) → (l : Modification) × Contains (x ∷ ms) l × (l.tx ≡ id_behind id (x ∷ ms)) × (l.stamp ≡ stamp_behind stamp (x ∷ ms)) × (l.tag ≡ tag_behind tag (x ∷ ms))
last_one stamp id tag x [] = (x, in_head x [], refl, refl, refl)
last_one stamp id tag x (y ∷ ms) = let r = last_one x.stamp x.tx x.tag y ms in (r.0, in_tail x r.0 (y ∷ ms) r.1, r.2, r.3, r.4)

some_last : (ms : List Modification) (m : Modification) → Contains ms m → (l : Modification) × Contains ms l × (l.tx ≡ id_behind [] ms) × (l.stamp ≡ last_stamp ms) × (l.tag ≡ tag_behind [] ms)
some_last [] m i = absurd (in_nil m i)
some_last (x ∷ ms) m i = last_one 0 [] [] x ms

goes_on : (ms : List Modification) (m : Modification) → SoFar ms → Follows ms m → (e : Modification) → Contains ms e → e.tx ≡ m.tx → Agrees e m
goes_on ms m g f e i t =
    let u = f.id (used ms m.tx e i t) in
    let l = some_last ms e i in
    let r = g e l.0 i l.1 (t ∙ sym u.0 ∙ sym l.2) in
    (r.0 ∙ l.3 ∙ u.1, r.1 ∙ l.4 ∙ u.2)

only : (m x : Modification) → Contains (m ∷ []) x → x ≡ m
only m x j = ⊎_elim (λ (s : x ≡ m). s) (λ (n : Contains [] x). absurd (in_nil x n)) (in_cons m x [] j)

one_more : (ms : List Modification) (m : Modification) → SoFar ms → Follows ms m → SoFar (ms ++ m ∷ [])
one_more ms m g f a b i j t =
    ⊎_elim
    (λ (k : Contains ms a). ⊎_elim
    (λ (l : Contains ms b). g a b k l t)
    (λ (l : Contains (m ∷ []) b). let s = only m b l in joined a m b (goes_on ms m g f a k (t ∙ ap (λ (z : Modification). z.tx) s)) (turned b m (alike b m s)))
    (Contains-append_cases ms (m ∷ []) b j))
    (λ (k : Contains (m ∷ []) a). let s = only m a k in ⊎_elim
    (λ (l : Contains ms b). joined a m b (alike a m s) (turned b m (goes_on ms m g f b l (sym t ∙ ap (λ (z : Modification). z.tx) s))))
    (λ (l : Contains (m ∷ []) b). alike a b (s ∙ sym (only m b l)))
    (Contains-append_cases ms (m ∷ []) b j))
    (Contains-append_cases ms (m ∷ []) a i)

all_more : (done ms : List Modification) → SoFar done → EachFollows done ms → SoFar (done ++ ms)
all_more done [] g h = subst SoFar (sym (append-nil done)) g
all_more done (m ∷ ms) g h = subst SoFar (append_assoc done (m ∷ []) ms) (all_more (done ++ m ∷ []) ms (one_more done m g h.0) h.1)

pub one_transaction : (ms : List Modification) → IsHistory ms → (a b : Modification) → Contains ms a → Contains ms b → a.tx ≡ b.tx → (a.stamp ≡ b.stamp) × (a.tag ≡ b.tag)
one_transaction ms h = all_more [] ms (λ a b i j t. absurd (in_nil a i)) h
