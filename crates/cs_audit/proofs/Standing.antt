-- Which changes stand after a line more.
use Rattle.std.proofs.Common.{◌≡◌, ◌≢◌, ◌⊎◌, ◌<◌, ◌≤◌, ℕ, zero, suc, Bool, true, false, List, [], ◌∷◌, ◌++◌, length, Contains, get_or, set, take, drop, replicate, Some, refl, sym, ap, subst, ◌∙◌, arith, inl, inr, true≢false}
use Rattle.std.specs.List.Sorted.{IsNonDecreasingBy}
use Rattle.std.proofs.Math.Seq.{split_at}
use Rattle.std.proofs.lemmas.Bool.{cases_lt, cases_eq, cases_order}
use Rattle.std.proofs.lemmas.List.{get_or_append_left, get_or_default, get_or_at, get_or-take, get_or-set_same, get_or-set_other, get_or-replicate, length-set, length-append, length-take-le, length-replicate}
use Rattle.std.proofs.lemmas.List.Elements.{Contains-append_left, Contains-push, Contains-push_cases, Contains-get_or}
use Rattle.cs_types.specs.declared.change.Change.{Change}
use Rattle.cs_output.specs.Line.{change_line}
use Rattle.cs_output.specs.declared.reading.Line.{Line}
use Rattle.cs_output.specs.declared.reading.Line.TheVariants.{Watermark, Change as Told}
use Rattle.cs_audit.specs.Audit.{Stands, HasUpTo, or_later, last_watermark, IsMissing}
use Rattle.cs_audit.specs.Index.{DifferInLines, AreEntries, AreStanding, AreCovered, NoneIsAbsent, IsFirstAbsent}

-- an element of a list
pub element : {X : Type 0} (xs : List X) (p : ℕ) → p < length xs → X
element [] p lt = absurd (omega arith)
element (x ∷ xs) zero lt = x
element (x ∷ xs) (suc p) lt = element xs p (omega arith)

-- a list around one of its elements
pub around : {X : Type 0} (xs : List X) (x : X) → Contains xs x → (front back : List X) × (xs ≡ front ++ x ∷ back)
around xs x (k, lt, is) = (take k xs, drop (suc k) xs, split_at xs k x lt ∙ ap (λ y. take k xs ++ y ∷ drop (suc k) xs) is)

pub place_in_split : {X : Type 0} (xs front back : List X) (x d : X) → xs ≡ front ++ x ∷ back → (length front < length xs) × (get_or xs (length front) d ≡ x)
place_in_split xs front back x d e =
    (omega (arith, ap length e, length-append front (x ∷ back)), ap (λ l. get_or l (length front) d) e ∙ get_or_at front x back d (length front) refl)

pub in_front : {X : Type 0} (xs front back : List X) (x d : X) (r : ℕ) → xs ≡ front ++ x ∷ back → r < length front → Contains front (get_or xs r d)
in_front xs front back x d r e lt =
    subst (Contains front) (sym (ap (λ l. get_or l r d) e ∙ get_or_append_left front (x ∷ back) d r lt)) (Contains-get_or front r d lt)

pub in_take : {X : Type 0} (xs : List X) (p : ℕ) (x : X) → p ≤ length xs → Contains (take p xs) x → (r : ℕ) × (r < p) × (get_or xs r x ≡ x)
in_take xs p x le (r, lt, is) =
    let less : r < p = omega (arith, lt, length-take-le p xs le) in
    (r, less, sym (get_or-take p xs r x less) ∙ is)

-- one place for a line
pub one_place : (wanted : List Change) (p q : ℕ) (d e : Change) → DifferInLines wanted → p < length wanted → q < length wanted
    → change_line (get_or wanted p d) ≡ change_line (get_or wanted q e) → p ≡ q
one_place wanted p q d e differ p_in q_in same = by (cases_order p q)
  where
    at_d : change_line (get_or wanted p d) ≡ change_line (get_or wanted q d)
    at_d = same ∙ ap change_line (get_or_default wanted q e d q_in)

    by : (p ≡ q) ⊎ ((p < q) ⊎ (q < p)) → p ≡ q
    by (inl is) = is
    by (inr (inl less)) = absurd (differ p q d less q_in at_d)
    by (inr (inr more)) = absurd (differ q p d more p_in (sym at_d))

pub stands_more : (before : List Line) (line : Line) (c : Change) → Stands before c → Stands (before ++ line ∷ []) c
stands_more before line c st = Contains-append_left before (line ∷ []) (Told (change_line c)) st

-- nothing stands before the first line
pub none_stands : (c : Change) → Stands [] c → ⊥
none_stands c st = omega (arith, st.1)

pub nothing_standing : (stands : List Bool) (wanted : List Change) → stands ≡ replicate (length wanted) false → AreStanding stands [] wanted
nothing_standing stands wanted is = record {
  count = ap length is ∙ length-replicate (length wanted) false;
  there = λ p d lt e. absurd (true≢false (sym e ∙ ap (λ l. get_or l p false) is ∙ get_or-replicate (length wanted) p false false lt));
  known = λ p d lt st. absurd (none_stands _ st);
}

-- the line of the change at a place was added
pub standing_change : (stands : List Bool) (before : List Line) (wanted : List Change) (p : ℕ) (text : List ℕ) → DifferInLines wanted → p < length wanted
    → ((d : Change) → text ≡ change_line (get_or wanted p d)) → AreStanding stands before wanted → AreStanding (set stands p true) (before ++ Told text ∷ []) wanted
standing_change stands before wanted p text differ within is old = record {
  count = length-set stands p true ∙ old.count;
  there = λ q d lt e. there q d lt (cases_eq q p) e;
  known = λ q d lt st. known q d lt (cases_eq q p) (Contains-push_cases before (Told text) (Told (change_line (get_or wanted q d))) st);
}
  where
    here : get_or (set stands p true) p false ≡ true
    here = get_or-set_same stands p true false (omega (arith, within, old.count))

    there : (q : ℕ) (d : Change) → q < length wanted → (q ≡ p) ⊎ (q ≢ p) → get_or (set stands p true) q false ≡ true → Stands (before ++ Told text ∷ []) (get_or wanted q d)
    there q d lt (inl same) e =
        subst (λ l. Contains (before ++ Told text ∷ []) (Told l)) (is d ∙ ap (λ k. change_line (get_or wanted k d)) (sym same)) (Contains-push before (Told text))
    there q d lt (inr other) e = stands_more before (Told text) (get_or wanted q d) (old.there q d lt (sym (get_or-set_other stands p q true false other) ∙ e))

    known : (q : ℕ) (d : Change) → q < length wanted → (q ≡ p) ⊎ (q ≢ p) → Stands before (get_or wanted q d) ⊎ (Told text ≡ Told (change_line (get_or wanted q d)))
        → get_or (set stands p true) q false ≡ true
    known q d lt (inl same) any = ap (λ k. get_or (set stands p true) k false) same ∙ here
    known q d lt (inr other) (inl st) = get_or-set_other stands p q true false other ∙ old.known q d lt st
    known q d lt (inr other) (inr e) =
        let line : text ≡ change_line (get_or wanted q d) = cc in
        absurd (other (one_place wanted q p d d differ lt within (sym line ∙ is d)))

-- a watermark was added
pub standing_watermark : (stands : List Bool) (before : List Line) (wanted : List Change) (at : ℕ) → AreStanding stands before wanted → AreStanding stands (before ++ Watermark at ∷ []) wanted
standing_watermark stands before wanted at old = record {
  count = old.count;
  there = λ p d lt e. stands_more before (Watermark at) (get_or wanted p d) (old.there p d lt e);
  known = λ p d lt st. known p d lt (Contains-push_cases before (Watermark at) (Told (change_line (get_or wanted p d))) st);
}
  where
    known : (p : ℕ) (d : Change) → p < length wanted → Stands before (get_or wanted p d) ⊎ (Watermark at ≡ Told (change_line (get_or wanted p d))) → get_or stands p false ≡ true
    known p d lt (inl st) = old.known p d lt st
    known p d lt (inr e) = cc

pub covered_more : (stands : List Bool) (entries : List (ℕ × ℕ)) (n p : ℕ) → p < length stands → AreCovered stands entries n → AreCovered (set stands p true) entries n
covered_more stands entries n p within old = λ k d lt. by (get_or entries k d).1 (cases_eq (get_or entries k d).1 p) (old k d lt)
  where
    by : (q : ℕ) → (q ≡ p) ⊎ (q ≢ p) → get_or stands q false ≡ true → get_or (set stands p true) q false ≡ true
    by q (inl same) e = ap (λ k. get_or (set stands p true) k false) same ∙ get_or-set_same stands p true false within
    by q (inr other) e = get_or-set_other stands p q true false other ∙ e

pub last_of_change : (before : List Line) (text : List ℕ) → last_watermark (before ++ Told text ∷ []) ≡ last_watermark before
last_of_change [] text = refl
last_of_change (Watermark at ∷ before) text = ap (or_later at) (last_of_change before text)
last_of_change (Told t ∷ before) text = last_of_change before text

pub last_of_watermark : (before : List Line) (at : ℕ) → last_watermark (before ++ Watermark at ∷ []) ≡ Some at
last_of_watermark [] at = refl
last_of_watermark (Watermark w ∷ before) at = ap (or_later w) (last_of_watermark before at)
last_of_watermark (Told t ∷ before) at = last_of_watermark before at

-- where the next entry is past a moment, none up to it is absent
pub none_absent : (stands : List Bool) (entries : List (ℕ × ℕ)) (wanted : List Change) (covered at : ℕ) → AreEntries entries wanted (length wanted) → IsNonDecreasingBy (λ (e : ℕ × ℕ). e.0) entries
    → ((d : ℕ × ℕ) → covered < length entries → at < (get_or entries covered d).0) → AreCovered stands entries covered → NoneIsAbsent stands wanted at
none_absent stands entries wanted covered at are rising past known = λ p d lt up. by p d up (are.all p d lt)
  where
    by : (p : ℕ) (d : Change) → (get_or wanted p d).stamp ≤ at → Contains entries ((get_or wanted p d).stamp, p) → get_or stands p false ≡ true
    by p d up (k, lt, is) = which (cases_lt k covered)
      where
        which : (k < covered) ⊎ (covered ≤ k) → get_or stands p false ≡ true
        which (inl less) = ap (λ (e : ℕ × ℕ). get_or stands e.1 false) (sym is) ∙ known k ((get_or wanted p d).stamp, p) less
        which (inr more) =
            absurd (omega (arith, rising covered k ((get_or wanted p d).stamp, p) more lt, past ((get_or wanted p d).stamp, p) (omega (arith, more, lt)), ap (λ (e : ℕ × ℕ). e.0) is, up))

-- what the flags say of a watermark
pub up_to_from_flags : (stands : List Bool) (before : List Line) (wanted : List Change) (at : ℕ) → AreStanding stands before wanted → NoneIsAbsent stands wanted at → HasUpTo before wanted at
up_to_from_flags stands before wanted at are none = λ c has le. by c le has
  where
    by : (c : Change) → c.stamp ≤ at → Contains wanted c → Stands before c
    by c le (k, lt, is) =
        subst (λ (x : Change). Stands before x) is (are.there k c lt (none k c lt (subst (λ (x : Change). x.stamp ≤ at) (sym is) le)))

pub missing_from_flags : (stands : List Bool) (before : List Line) (wanted : List Change) (at p : ℕ) (d : Change) → AreStanding stands before wanted → IsFirstAbsent stands wanted at p
    → IsMissing before wanted at (get_or wanted p d)
missing_from_flags stands before wanted at p d are first = record {
  front = take p wanted;
  back = drop (suc p) wanted;
  split = split_at wanted p d first.within;
  up_to = first.up_to d;
  absent = λ st. true≢false (sym (are.known p d first.within st) ∙ first.absent);
  first = λ c has le. by c le (in_take wanted p c (omega (arith, first.within)) has);
}
  where
    by : (c : Change) → c.stamp ≤ at → (r : ℕ) × (r < p) × (get_or wanted r c ≡ c) → Stands before c
    by c le (r, lt, is) =
        subst (λ (x : Change). Stands before x) is (are.there r c (omega (arith, lt, first.within)) (first.first r c lt (subst (λ (x : Change). x.stamp ≤ at) (sym is) le)))
