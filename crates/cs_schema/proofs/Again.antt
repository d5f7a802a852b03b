-- One step of looking for a name that stands again.
use Rattle.std.proofs.Common.{◌≡◌, ◌∙◌, sym, ap, refl, ℕ, ◌+◌, ◌<◌, List, [], ◌∷◌, ◌++◌, length, take, drop, get_or, Some, cond, false, true, Bool, is_some}
use Rattle.std.specs.declared.option.Option.{Option}
use Rattle.std.specs.Ordering.{nat_cmp}
use Rattle.std.specs.Cmp.Lexicographic.{slice_cmp}
use Rattle.std.specs.BTreeMap.{BTreeMap, get, is_at}
use Rattle.std.proofs.lemmas.List.{take_more, drop_more}
use Rattle.cs_types.specs.Names.{is_same, is_among, first_again, HoldsNames}

pub take_next : {X : Type 0} (xs : List X) (i : ℕ) (x : X) → i < length xs → x ≡ get_or xs i x → take (i + 1) xs ≡ take i xs ++ x ∷ []
take_next xs i x lt e = take_more xs i x lt ∙ ap (λ y. take i xs ++ y ∷ []) (sym e)

pub drop_next : {X : Type 0} (xs : List X) (i : ℕ) (x : X) → i < length xs → x ≡ get_or xs i x → drop i xs ≡ x ∷ drop (i + 1) xs
drop_next xs i x lt e = drop_more xs i x lt ∙ ap (λ y. y ∷ drop (i + 1) xs) (sym e)

pub among_more : (q : List ℕ) (ns : List (List ℕ)) (n : List ℕ) → is_among q (ns ++ n ∷ []) ≡ cond (is_same n q) true (is_among q ns)
among_more q [] n = refl
among_more q (x ∷ ns) n =
    ap (cond (is_same x q) true) (among_more q ns n)
    ∙ both (is_same x q) (is_same n q)
  where
    both : (a b : Bool) → cond a true (cond b true (is_among q ns)) ≡ cond b true (cond a true (is_among q ns))
    both true true = refl
    both true false = refl
    both false true = refl
    both false false = refl

some_cond : (b : Bool) (o : Option (Unit {0})) → is_some (cond b (Some tt) o) ≡ cond b true (is_some o)
some_cond true o = refl
some_cond false o = refl

pub names_step : (m k : BTreeMap (List ℕ) (Unit {0})) (ns : List (List ℕ)) (i : ℕ) (n : List ℕ) → i < length ns → n ≡ get_or ns i n
    → HoldsNames (take i ns) m
    → ((q : List ℕ) → get (slice_cmp nat_cmp) k q ≡ cond (is_at (slice_cmp nat_cmp n) q) (Some tt) (get (slice_cmp nat_cmp) m q))
    → HoldsNames (take (i + 1) ns) k
names_step m k ns i n lt e h u q =
    ap is_some (u q) ∙ some_cond (is_at (slice_cmp nat_cmp n) q) (get (slice_cmp nat_cmp) m q)
    ∙ ap (cond (is_at (slice_cmp nat_cmp n) q) true) (h q) ∙ sym (among_more q (take i ns) n)
    ∙ ap (is_among q) (sym (take_next ns i n lt e))

pub again_step : (ns : List (List ℕ)) (i : ℕ) (n : List ℕ) → i < length ns → n ≡ get_or ns i n → is_among n (take i ns) ≡ false
    → first_again (take (i + 1) ns) (drop (i + 1) ns) ≡ first_again (take i ns) (drop i ns)
again_step ns i n lt e f =
    ap (λ xs. first_again xs (drop (i + 1) ns)) (take_next ns i n lt e)
    ∙ sym (ap (first_again (take i ns)) (drop_next ns i n lt e) ∙ ap (λ b. cond b (Some n) (first_again (take i ns ++ n ∷ []) (drop (i + 1) ns))) f)

pub again_here : (ns : List (List ℕ)) (i : ℕ) (n : List ℕ) → i < length ns → n ≡ get_or ns i n → is_among n (take i ns) ≡ true
    → first_again (take i ns) (drop i ns) ≡ Some n
again_here ns i n lt e t =
    ap (first_again (take i ns)) (drop_next ns i n lt e) ∙ ap (λ b. cond b (Some n) (first_again (take i ns ++ n ∷ []) (drop (i + 1) ns))) t
