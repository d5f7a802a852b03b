-- One more name or key in a set of those that were seen.
use Rattle.std.proofs.Common.{◌≡◌, ℕ, zero, suc, ◌+◌, ◌<◌, List, [], ◌∷◌, ◌++◌, length, get_or, take, drop, Bool, true, false, not, cond, ◌||◌, Some, is_eq, nat_cmp, arith, refl, ap, ◌∙◌, sym}
use Rattle.std.specs.Cmp.{IsEquivalence, IsTotalOrder, eq_by_cmp_equiv, Equal-is}
use Rattle.std.specs.Cmp.Lexicographic.{slice_cmp, nat_list_cmp_total}
use Rattle.std.proofs.lemmas.Cmp.{tied_itself}
use Rattle.std.specs.declared.cmp.Ordering.{Ordering}
use Rattle.std.specs.List.{list_any}
use Rattle.std.specs.Ordering.{eq_by_cmp}
use Rattle.std.proofs.lemmas.List.{take_more, drop_more, map-append}
use Rattle.std.proofs.lemmas.List.Folds.{list_any-append}
use Rattle.cs_types.specs.Names.{is_same, is_among}
use Rattle.cs_records.specs.declared.records.Mod.{Mod}
use Rattle.cs_records.specs.Told.{has_key, keys_of, first_key_again}

pub take_next : {X : Type 0} (xs : List X) (i : ℕ) (x : X) → x ≡ get_or xs i x → i < length xs → take (i + 1) xs ≡ take i xs ++ x ∷ []
take_next xs i x is lt = take_more xs i x lt ∙ ap (λ y. take i xs ++ y ∷ []) (sym is)

pub drop_next : {X : Type 0} (xs : List X) (i : ℕ) (x : X) → x ≡ get_or xs i x → i < length xs → drop i xs ≡ x ∷ drop (i + 1) xs
drop_next xs i x is lt = drop_more xs i x lt ∙ ap (λ y. y ∷ drop (i + 1) xs) (sym is)

either : (a b : Bool) → cond a true b ≡ (b || (a || false))
either true true = refl
either true false = refl
either false true = refl
either false false = refl

pub pushed_seen : {K : Type 0} (cmp : K → K → Ordering) (total : IsTotalOrder cmp) (keys : List K) (k q : K) (now before : Bool) → now ≡ cond (is_eq (cmp k q)) true before
    → before ≡ list_any (λ x. is_eq (cmp q x)) keys → now ≡ list_any (λ x. is_eq (cmp q x)) (keys ++ k ∷ [])
pushed_seen {K} cmp total keys k q now before step had =
    let laws : IsEquivalence (eq_by_cmp cmp) = eq_by_cmp_equiv total in
    let same : is_eq (cmp k q) ≡ is_eq (cmp q k) = laws.symm k q in
    step ∙ either (is_eq (cmp k q)) before ∙ rw (same, had) (sym (list_any-append (λ (x : K). is_eq (cmp q x)) keys (k ∷ [])))

cond_true : (b : Bool) → cond b true true ≡ true
cond_true true = refl
cond_true false = refl

pub among_at : (names : List (List ℕ)) (k : ℕ) (d : List ℕ) → k < length names → is_among (get_or names k d) names ≡ true
among_at [] k d lt = absurd (omega (arith, lt))
among_at (n ∷ names) zero d lt = ap (λ b. cond b true (is_among n names)) ((Equal-is (slice_cmp nat_cmp n n)).1 (tied_itself nat_list_cmp_total n))
among_at (n ∷ names) (suc k) d lt = ap (λ b. cond (is_same n (get_or names k d)) true b) (among_at names k d (omega (arith, lt))) ∙ cond_true (is_same n (get_or names k d))

pub was_false : (b : Bool) → not b ≡ true → b ≡ false
was_false true h = cc
was_false false h = refl

pub keys_next : (mods : List Mod) (i : ℕ) (m : Mod) → m ≡ get_or mods i m → i < length mods → keys_of (take (i + 1) mods) ≡ keys_of (take i mods) ++ m.keys ∷ []
keys_next mods i m is lt = ap keys_of (take_next mods i m is lt) ∙ map-append (λ (x : Mod). x.keys) (take i mods) (m ∷ [])

pub again_step : (mods : List Mod) (i : ℕ) (m : Mod) → m ≡ get_or mods i m → i < length mods → has_key (keys_of (take i mods)) m.keys ≡ false
    → first_key_again (keys_of (take (i + 1) mods)) (keys_of (drop (i + 1) mods)) ≡ first_key_again (keys_of (take i mods)) (keys_of (drop i mods))
again_step mods i m is lt none =
    ap (λ ks. first_key_again ks (keys_of (drop (i + 1) mods))) (keys_next mods i m is lt)
    ∙ sym (ap (λ ms. first_key_again (keys_of (take i mods)) (keys_of ms)) (drop_next mods i m is lt)
    ∙ ap (λ b. cond b (Some m.keys) (first_key_again (keys_of (take i mods) ++ m.keys ∷ []) (keys_of (drop (i + 1) mods)))) none)
