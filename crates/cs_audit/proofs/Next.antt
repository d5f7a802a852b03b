-- Lines without offence and one more, and which change is the next of its row.
use Rattle.std.proofs.Common.{◌≡◌, ◌⊎◌, ◌<◌, ℕ, suc, Bool, true, false, List, [], ◌∷◌, ◌++◌, length, get_or, take, drop, Option, None, Some, refl, sym, ap, subst, ◌∙◌, arith, inl, inr, true≢false}
use Rattle.std.proofs.Math.Seq.{split_at}
use Rattle.std.proofs.lemmas.Bool.{cases_order, cases_Bool}
use Rattle.std.proofs.lemmas.List.Elements.{Contains-append_left}
use Rattle.cs_types.specs.declared.change.Change.{Change}
use Rattle.cs_output.specs.Line.{change_line}
use Rattle.cs_output.specs.declared.reading.Line.{Line}
use Rattle.cs_output.specs.declared.reading.Line.TheVariants.{Change as Told}
use Rattle.cs_audit.specs.Audit.{Stands, IsNext, IsRight, HasNoOffence}
use Rattle.cs_audit.specs.Index.{DifferInLines, IsLatest, AreStanding, IsFree}
use Rattle.cs_audit.proofs.Standing.{around, place_in_split, in_front, in_take, one_place}

-- the places of a list with one element more
pub split_push : {X : Type 0} (xs front back : List X) (x y : X) → xs ++ x ∷ [] ≡ front ++ y ∷ back → ((front ≡ xs) × (y ≡ x)) ⊎ ((rest : List X) × (xs ≡ front ++ y ∷ rest))
split_push {X = X} [] [] back x y e = inl (refl, cc)
split_push {X = X} [] (z ∷ []) back x y e = cc
split_push {X = X} [] (z ∷ w ∷ front) back x y e = cc
split_push {X = X} (z ∷ xs) [] back x y e = let first : z ≡ y = cc in inr (xs, ap (λ w. w ∷ xs) first)
split_push {X = X} (z ∷ xs) (w ∷ front) back x y e = by (split_push xs front back x y (cc))
  where
    first : z ≡ w
    first = cc

    by : ((front ≡ xs) × (y ≡ x)) ⊎ ((rest : List X) × (xs ≡ front ++ y ∷ rest)) → ((w ∷ front ≡ z ∷ xs) × (y ≡ x)) ⊎ ((rest : List X) × (z ∷ xs ≡ (w ∷ front) ++ y ∷ rest))
    by (inl h) = inl (cc (first, h.0), h.1)
    by (inr h) = inr (h.0, cc (first, h.1))

pub nothing_offends : (wanted : List Change) (end : ℕ) → HasNoOffence [] wanted end
nothing_offends wanted end [] after line e = cc
nothing_offends wanted end (b ∷ before) after line e = cc

-- one line more that is right
pub no_offence_more : (lines : List Line) (line : Line) (wanted : List Change) (end : ℕ) → HasNoOffence lines wanted end → IsRight lines wanted end line → HasNoOffence (lines ++ line ∷ []) wanted end
no_offence_more lines line wanted end old right before after other e = by (split_push lines before after line other e)
  where
    by : ((before ≡ lines) × (other ≡ line)) ⊎ ((rest : List Line) × (lines ≡ before ++ other ∷ rest)) → IsRight before wanted end other
    by (inl (front, same)) = subst (λ (l : Line). IsRight before wanted end l) (sym same) (subst (λ (b : List Line). IsRight b wanted end line) (sym front) right)
    by (inr (rest, parts)) = old before rest other parts

-- where a change stands, those of its row that are wanted before it do
pub closed : (lines : List Line) (wanted : List Change) (end q r : ℕ) (d : Change) → HasNoOffence lines wanted end → DifferInLines wanted → q < length wanted → r < q
    → (get_or wanted r d).row ≡ (get_or wanted q d).row → Stands lines (get_or wanted q d) → Stands lines (get_or wanted r d)
closed lines wanted end q r d none differ within less rows st =
    let (front, back, parts) = around lines (Told (change_line (get_or wanted q d))) st in
    let right = none front back (Told (change_line (get_or wanted q d))) parts in
    let next = right.2 in
    let here = place_in_split wanted next.front next.back right.0 d next.split in
    let place : q ≡ length next.front = one_place wanted q (length next.front) d d differ within here.0 (right.1 ∙ ap change_line (sym here.1)) in
    let row : (get_or wanted r d).row ≡ right.0.row = rows ∙ ap (λ k. (get_or wanted k d).row) place ∙ ap (λ (x : Change). x.row) here.1 in
    let there = next.earlier (get_or wanted r d) (in_front wanted next.front next.back right.0 d r next.split (omega (arith, less, place))) row in
    subst (λ (l : List Line). Stands l (get_or wanted r d)) (sym parts) (Contains-append_left front (Told (change_line (get_or wanted q d)) ∷ back) (Told (change_line (get_or wanted r d))) there)

-- the change at a place is the next of its row
pub next_from_flags : (stands : List Bool) (lines : List Line) (wanted : List Change) (end p : ℕ) (d : Change) (o : Option ℕ) → HasNoOffence lines wanted end → DifferInLines wanted
    → AreStanding stands lines wanted → p < length wanted → IsLatest wanted p (get_or wanted p d).row o → IsFree stands p o → IsNext lines wanted (get_or wanted p d)
next_from_flags stands lines wanted end p d o none differ are within latest free = record {
  front = take p wanted;
  back = drop (suc p) wanted;
  split = split_at wanted p d within;
  earlier = λ x has row. earlier x row (in_take wanted p x (omega (arith, within)) has) o latest free;
  absent = λ st. true≢false (sym (are.known p d within st) ∙ gone o free);
}
  where
    gone : (o : Option ℕ) → IsFree stands p o → get_or stands p false ≡ false
    gone None free = free
    gone (Some q) free = free.0

    earlier : (x : Change) → x.row ≡ (get_or wanted p d).row → (r : ℕ) × (r < p) × (get_or wanted r x ≡ x) → (o : Option ℕ) → IsLatest wanted p (get_or wanted p d).row o → IsFree stands p o → Stands lines x
    earlier x row (r, less, is) None latest free = absurd (latest r x less (ap (λ (c : Change). c.row) is ∙ row))
    earlier x row (r, less, is) (Some q) latest free = by (cases_order r q)
      where
        at_q : Stands lines (get_or wanted q x)
        at_q = are.there q x (omega (arith, latest.0, within)) free.1

        by : (r ≡ q) ⊎ ((r < q) ⊎ (q < r)) → Stands lines x
        by (inl same) = subst (λ (c : Change). Stands lines c) (ap (λ k. get_or wanted k x) (sym same) ∙ is) at_q
        by (inr (inl below)) =
            subst (λ (c : Change). Stands lines c) is
            (closed lines wanted end q r x none differ (omega (arith, latest.0, within)) below (ap (λ (c : Change). c.row) is ∙ row ∙ sym (latest.1 x)) at_q)
        by (inr (inr above)) = absurd (latest.2 r x above less (ap (λ (c : Change). c.row) is ∙ row))

-- a change that is the next of its row is so by the flags
pub flags_from_next : (stands : List Bool) (lines : List Line) (wanted : List Change) (p : ℕ) (d : Change) (o : Option ℕ) → DifferInLines wanted
    → AreStanding stands lines wanted → p < length wanted → IsLatest wanted p (get_or wanted p d).row o → IsNext lines wanted (get_or wanted p d) → IsFree stands p o
flags_from_next stands lines wanted p d o differ are within latest next = by o latest
  where
    here : (length next.front < length wanted) × (get_or wanted (length next.front) d ≡ get_or wanted p d)
    here = place_in_split wanted next.front next.back (get_or wanted p d) d next.split

    place : length next.front ≡ p
    place = one_place wanted (length next.front) p d d differ here.0 within (ap change_line here.1)

    gone : get_or stands p false ≡ false
    gone = which (cases_Bool (get_or stands p false))
      where
        which : (get_or stands p false ≡ true) ⊎ (get_or stands p false ≡ false) → get_or stands p false ≡ false
        which (inl e) = absurd (next.absent (are.there p d within e))
        which (inr e) = e

    by : (o : Option ℕ) → IsLatest wanted p (get_or wanted p d).row o → IsFree stands p o
    by None latest = gone
    by (Some q) latest = (
      gone,
      are.known q d (omega (arith, latest.0, within))
          (next.earlier (get_or wanted q d) (in_front wanted next.front next.back (get_or wanted p d) d q next.split (omega (arith, latest.0, place))) (latest.1 d)),
    )
