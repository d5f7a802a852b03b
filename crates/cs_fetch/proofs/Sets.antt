-- One more element in a set or a map beside a list.
use Rattle.std.proofs.Common.{◌≡◌, ℕ, ◌+◌, ◌<◌, List, [], ◌∷◌, ◌++◌, length, get_or, take, Bool, true, false, cond, ◌||◌, Some, None, is_eq, refl, ap, ◌∙◌, sym}
use Rattle.std.specs.declared.cmp.Ordering.{Ordering}
use Rattle.std.specs.declared.cmp.Ordering.TheVariants.{Less, Equal, Greater}
use Rattle.std.specs.declared.option.Option.{Option}
use Rattle.std.specs.Cmp.{IsEquivalence, IsTotalOrder, eq_by_cmp_equiv, on_total, then_total, nat_cmp_total}
use Rattle.std.specs.Cmp.Lexicographic.{slice_cmp, nat_list_cmp_total}
use Rattle.std.specs.List.{list_any}
use Rattle.std.specs.Option.{option_or}
use Rattle.std.specs.Ordering.{eq_by_cmp, nat_cmp}
use Rattle.std.proofs.lemmas.List.{take_more}
use Rattle.std.proofs.lemmas.List.Folds.{list_any-append}
use Rattle.std.proofs.lemmas.Map.Lookups.{exact_bytes}
use Rattle.cs_types.specs.Row.{rows_total}
use Rattle.cs_link.specs.declared.batch.NewChild.{NewChild}
use Rattle.cs_link.specs.declared.batch.Seen.{Seen}
use Rattle.cs_fetch.specs.declared.dated.Dated.{Dated}
use Rattle.cs_link.specs.Batch.{seen_cmp}
use Rattle.cs_fetch.specs.Keeping.{dated_cmp, parents_of}

pub seen_total : IsTotalOrder seen_cmp
seen_total = then_total (on_total (λ (s : Seen). s.tx) nat_list_cmp_total) (on_total (λ (s : Seen). s.row) rows_total)

pub dated_total : IsTotalOrder dated_cmp
dated_total = then_total (on_total (λ (d : Dated). d.stamp) nat_cmp_total) (on_total (λ (d : Dated). d.seen) seen_total)

pub take_next : {X : Type 0} (xs : List X) (i : ℕ) (x : X) → x ≡ get_or xs i x → i < length xs → take (i + 1) xs ≡ take i xs ++ x ∷ []
take_next xs i x is lt = take_more xs i x lt ∙ ap (λ y. take i xs ++ y ∷ []) (sym is)

either : (a b : Bool) → cond a true b ≡ (b || (a || false))
either true true = refl
either true false = refl
either false true = refl
either false false = refl

-- the set has one more, and so has the list
pub pushed : {K X : Type 0} (key : X → K) (cmp : K → K → Ordering) (total : IsTotalOrder cmp) (xs : List X) (x : X) (q : K) (now before : Bool) → now ≡ cond (is_eq (cmp (key x) q)) true before
    → before ≡ list_any (λ y. is_eq (cmp q (key y))) xs → now ≡ list_any (λ y. is_eq (cmp q (key y))) (xs ++ x ∷ [])
pushed {K} {X} key cmp total xs x q now before step had =
    let laws : IsEquivalence (eq_by_cmp cmp) = eq_by_cmp_equiv total in
    let same : is_eq (cmp (key x) q) ≡ is_eq (cmp q (key x)) = laws.symm (key x) q in
    step ∙ either (is_eq (cmp (key x) q)) before ∙ rw (same, had) (sym (list_any-append (λ (y : X). is_eq (cmp q (key y))) xs (x ∷ [])))

or_else : (a b : Bool) (p : Option (List (List ℕ))) (v : List (List ℕ)) → option_or (cond a (Some v) p) (cond b (Some v) None) ≡ cond a (Some v) (option_or p (cond b (Some v) None))
or_else true b p v = refl
or_else false b p v = refl

or_cond : (a : Bool) (v : List (List ℕ)) (p o : Option (List (List ℕ))) → option_or (cond a (Some v) p) o ≡ cond a (Some v) (option_or p o)
or_cond true v p o = refl
or_cond false v p o = refl

pub parents_more : (token : List ℕ) (xs : List NewChild) (x : NewChild) → parents_of token (xs ++ x ∷ []) ≡ option_or (parents_of token xs) (cond (is_eq (slice_cmp nat_cmp x.token token)) (Some x.parents) None)
parents_more token [] x = refl
parents_more token (y ∷ xs) x =
    ap (λ o. cond (is_eq (slice_cmp nat_cmp y.token token)) (Some y.parents) o) (parents_more token xs x)
    ∙ sym (or_cond (is_eq (slice_cmp nat_cmp y.token token)) y.parents (parents_of token xs) (cond (is_eq (slice_cmp nat_cmp x.token token)) (Some x.parents) None))

-- the map has one more child, whose token is new
pub listed : (xs : List NewChild) (x : NewChild) (token : List ℕ) (now before : Option (List (List ℕ))) → parents_of x.token xs ≡ None → now ≡ cond (is_eq (slice_cmp nat_cmp x.token token)) (Some x.parents) before
    → before ≡ parents_of token xs → now ≡ parents_of token (xs ++ x ∷ [])
listed xs x token now before absent step had = step ∙ ap (λ o. cond (is_eq (slice_cmp nat_cmp x.token token)) (Some x.parents) o) had ∙ by (slice_cmp nat_cmp x.token token) refl ∙ sym (parents_more token xs x)
  where
    none_else : (p : Option (List (List ℕ))) → p ≡ option_or p None
    none_else None = refl
    none_else (Some v) = refl

    by : (o : Ordering) → slice_cmp nat_cmp x.token token ≡ o → cond (is_eq o) (Some x.parents) (parents_of token xs) ≡ option_or (parents_of token xs) (cond (is_eq o) (Some x.parents) None)
    by Less e = none_else (parents_of token xs)
    by Greater e = none_else (parents_of token xs)
    by Equal e = sym (ap (λ p. option_or p (Some x.parents)) (ap (λ t. parents_of t xs) (sym (exact_bytes x.token token e)) ∙ absent))
