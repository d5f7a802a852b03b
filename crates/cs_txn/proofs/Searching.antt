-- One step of a search in rising cells, and of a map of columns.
use Rattle.std.proofs.Common.{◌≡◌, ◌∙◌, sym, ap, refl, ℕ, zero, suc, ◌+◌, ◌<◌, ◌≤◌, List, [], ◌∷◌, ◌++◌, length, take, drop, get_or, map, Some, None, cond, false, true, Bool, arith, Less, Equal, Greater, nat_cmp}
use Rattle.std.specs.declared.cmp.Ordering.{Ordering}
use Rattle.std.specs.Prelude.{slice_get}
use Rattle.std.specs.Ordering.{is_eq, ordering_reverse}
use Rattle.std.specs.Cmp.Lexicographic.{slice_cmp, nat_list_cmp_total}
use Rattle.std.specs.BTreeMap.{BTreeMap, get, is_at}
use Rattle.std.specs.List.{AllByRecursion}
use Rattle.std.specs.List.Sorted.{IsStrictlySortedBy}
use Rattle.std.proofs.lemmas.List.{take-append-drop}
use Rattle.std.proofs.lemmas.Map.Lookups.{exact_bytes}
use Rattle.cs_types.specs.declared.cells.Cell.{Cell}
use Rattle.cs_types.specs.Cells.{IsRising}
use Rattle.cs_schema.specs.declared.types.Column.{Column}
use Rattle.std.specs.Option.{option_or}
use Rattle.cs_txn.specs.Columns.{column_named}
use Rattle.cs_txn.specs.Left.{found_in}
use Rattle.cs_txn.specs.Finding.{column_at, LeadsFrom}
use Rattle.cs_txn.proofs.Steps.{drop_next}

-- the places of columns

get_at : {X : Type 0} (xs : List X) (i : ℕ) (x : X) → i < length xs → x ≡ get_or xs i x → slice_get xs i ≡ Some x
get_at [] i x lt e = absurd (omega (arith, lt))
get_at (y ∷ ys) zero x lt e = ap Some (sym e)
get_at (y ∷ ys) (suc i) x lt e = get_at ys i x (omega (arith, lt)) e

pub leads_step : (m n : BTreeMap (List ℕ) ℕ) (columns : List Column) (i j : ℕ) (x : Column) → j ≡ i + 1 → i < length columns → x ≡ get_or columns i x
    → LeadsFrom j columns m
    → ((q : List ℕ) → get (slice_cmp nat_cmp) n q ≡ cond (is_at (slice_cmp nat_cmp x.name) q) (Some i) (get (slice_cmp nat_cmp) m q))
    → LeadsFrom i columns n
leads_step m n columns i j x is lt e h u q =
    ap (column_at columns) (u q) ∙ at (is_at (slice_cmp nat_cmp x.name) q) ∙ sym (ap (column_named q) (drop_next columns i x lt e))
  where
    at : (b : Bool) → column_at columns (cond b (Some i) (get (slice_cmp nat_cmp) m q)) ≡ cond b (Some x) (column_named q (drop (i + 1) columns))
    at true = get_at columns i x lt e
    at false = h q ∙ ap (λ k. column_named q (drop k columns)) is

-- a search in rising cells

below_of : (c : Cell) (cs : List Cell) (i : ℕ) (x : Cell) → AllByRecursion (λ y. slice_cmp nat_cmp c.column y ≡ Less) (map (λ (d : Cell). d.column) cs) → i < length cs → x ≡ get_or cs i x → slice_cmp nat_cmp c.column x.column ≡ Less
below_of c [] i x h lt e = absurd (omega (arith, lt))
below_of c (d ∷ cs) zero x h lt e = ap (λ (y : Cell). slice_cmp nat_cmp c.column y.column) e ∙ h.0
below_of c (d ∷ cs) (suc i) x h lt e = below_of c cs i x h.1 (omega (arith, lt)) e

pub not_it : (c : Cell) (cs : List Cell) (q : List ℕ) (o : Ordering) → slice_cmp nat_cmp c.column q ≡ o → is_eq o ≡ false → found_in q (c ∷ cs) ≡ found_in q cs
not_it c cs q o e f = ap (λ b. cond b (Some c.value) (found_in q cs)) (ap is_eq e ∙ f)

pub none_before : (cells : List Cell) (q : List ℕ) (i j : ℕ) (x : Cell) → j ≡ i + 1 → IsRising cells → i < length cells → x ≡ get_or cells i x → slice_cmp nat_cmp x.column q ≡ Less → found_in q (take j cells) ≡ None
unfolding IsStrictlySortedBy
none_before [] q i j x is r lt e l = absurd (omega (arith, lt))
none_before (c ∷ cs) q i zero x is r lt e l = absurd (omega (arith, is))
none_before (c ∷ cs) q zero (suc zero) x is r lt e l = not_it c [] q Less (ap (λ (y : Cell). slice_cmp nat_cmp y.column q) (sym e) ∙ l) refl
none_before (c ∷ cs) q zero (suc (suc j)) x is r lt e l = absurd (omega (arith, is))
none_before (c ∷ cs) q (suc i) (suc j) x is r lt e l =
    not_it c (take j cs) q Less (nat_list_cmp_total.trans c.column x.column q (below_of c cs i x r.0 (omega (arith, lt)) e) l) refl
    ∙ none_before cs q i j x (omega (arith, is)) r.1 (omega (arith, lt)) e l

pub none_above : (q : List ℕ) (cs : List Cell) → AllByRecursion (λ y. slice_cmp nat_cmp q y ≡ Less) (map (λ (d : Cell). d.column) cs) → found_in q cs ≡ None
none_above q [] h = refl
none_above q (c ∷ cs) h = not_it c cs q Greater (nat_list_cmp_total.antisymm c.column q ∙ ap ordering_reverse h.0) refl ∙ none_above q cs h.1

all_above : (q p : List ℕ) (ps : List (List ℕ)) → slice_cmp nat_cmp q p ≡ Less → AllByRecursion (λ y. slice_cmp nat_cmp p y ≡ Less) ps → AllByRecursion (λ y. slice_cmp nat_cmp q y ≡ Less) ps
all_above q p [] l h = tt
all_above q p (r ∷ rs) l h = (nat_list_cmp_total.trans q p r l h.0, all_above q p rs l h.1)

pub none_behind : (cells : List Cell) (q : List ℕ) (i : ℕ) (x : Cell) → IsRising cells → i < length cells → x ≡ get_or cells i x → slice_cmp nat_cmp x.column q ≡ Greater → found_in q (drop i cells) ≡ None
unfolding IsStrictlySortedBy
none_behind [] q i x r lt e g = absurd (omega (arith, lt))
none_behind (c ∷ cs) q zero x r lt e g =
    let at : slice_cmp nat_cmp c.column q ≡ Greater = ap (λ (y : Cell). slice_cmp nat_cmp y.column q) (sym e) ∙ g in
    not_it c cs q Greater at refl
    ∙ none_above q cs (all_above q c.column (map (λ (d : Cell). d.column) cs) (nat_list_cmp_total.antisymm q c.column ∙ ap ordering_reverse at) r.0)
none_behind (c ∷ cs) q (suc i) x r lt e g = none_behind cs q i x r.1 (omega (arith, lt)) e g

pub found_at : (cells : List Cell) (q : List ℕ) (i : ℕ) (x : Cell) → IsRising cells → i < length cells → x ≡ get_or cells i x → slice_cmp nat_cmp x.column q ≡ Equal → found_in q cells ≡ Some x.value
unfolding IsStrictlySortedBy
found_at [] q i x r lt e t = absurd (omega (arith, lt))
found_at (c ∷ cs) q zero x r lt e t =
    ap (λ b. cond b (Some c.value) (found_in q cs)) (ap is_eq (ap (λ (y : Cell). slice_cmp nat_cmp y.column q) (sym e) ∙ t))
    ∙ ap (λ (y : Cell). Some y.value) (sym e)
found_at (c ∷ cs) q (suc i) x r lt e t =
    not_it c cs q Less (sym (ap (slice_cmp nat_cmp c.column) (exact_bytes x.column q t)) ∙ below_of c cs i x r.0 (omega (arith, lt)) e) refl
    ∙ found_at cs q i x r.1 (omega (arith, lt)) e t

found_append : (q : List ℕ) (xs ys : List Cell) → found_in q (xs ++ ys) ≡ option_or (found_in q xs) (found_in q ys)
found_append q [] ys = refl
found_append q (x ∷ xs) ys = at (is_eq (slice_cmp nat_cmp x.column q)) (found_append q xs ys)
  where
    at : (b : Bool) → found_in q (xs ++ ys) ≡ option_or (found_in q xs) (found_in q ys) → cond b (Some x.value) (found_in q (xs ++ ys)) ≡ option_or (cond b (Some x.value) (found_in q xs)) (found_in q ys)
    at true r = refl
    at false r = r

pub found_nowhere : (cells : List Cell) (q : List ℕ) (low high : ℕ) → high ≤ low → low ≤ high → found_in q (take low cells) ≡ None → found_in q (drop high cells) ≡ None → found_in q cells ≡ None
found_nowhere cells q low high a b none rest =
    let level : low ≡ high = omega (arith, a, b) in
    ap (found_in q) (sym (take-append-drop low cells)) ∙ found_append q (take low cells) (drop low cells)
    ∙ ap (λ o. option_or o (found_in q (drop low cells))) none ∙ ap (λ k. found_in q (drop k cells)) level ∙ rest
