-- What the walks find is the place at which a text leaves the shape of a moment.
use Rattle.std.proofs.Common.{◌≡◌, ℕ, zero, suc, ◌+◌, ◌≤◌, List, [], ◌∷◌, ◌++◌, length, drop, codes, replicate, Bool, true, false, Option, Some, None, MatchOption, eqb, refl, sym, subst, ◌∙◌, arith}
use Rattle.std.proofs.lemmas.Bool.Decides.{nat_tests}
use Rattle.cs_types.specs.Shape.{allows, Fits, IsFaultPlace}
use Rattle.cs_types.specs.Moment.{fraction_pattern, IsMomentShape}
use Rattle.cs_types.specs.ShapeWalk.{unfit, ended, zulu, closing, digits_fault, fraction_fault}
use Rattle.cs_types.proofs.Walk.{closing_one, closing_z, closing_zero}
use Rattle.cs_types.proofs.Patterns.{by_test, unfit_more, unfit_here, unfit_short, unfit_done, some_is_not_none}

-- a place counted on from `at` is where a text leaves a set, or it is in the set
abbrev pub Verdict : (List ℕ → Type 0) → ℕ → List ℕ → Option ℕ → Type 0
Verdict P at bs o = MatchOption o (P bs) (λ p. (q : ℕ) × (p ≡ at + q) × IsFaultPlace P bs q)

deeper_place : (P Q : List ℕ → Type 0) (b q : ℕ) (bs : List ℕ) → ((t : List ℕ) → Q t → P (b ∷ t)) → ((t : List ℕ) → P (b ∷ t) → Q t)
    → IsFaultPlace Q bs q → IsFaultPlace P (b ∷ bs) (suc q)
deeper_place P Q b q bs forth back is = record {
  within = omega (arith, is.within);
  begins = (is.begins.0, forth _ is.begins.1);
  stops = λ less starts. is.stops (omega arith) (starts.0, back _ starts.1);
  ends = λ e p. is.ends (omega arith) (back bs p);
}

deeper : (P Q : List ℕ → Type 0) (at b : ℕ) (bs : List ℕ) (o : Option ℕ) → ((t : List ℕ) → Q t → P (b ∷ t)) → ((t : List ℕ) → P (b ∷ t) → Q t)
    → Verdict Q (at + 1) bs o → Verdict P at (b ∷ bs) o
deeper P Q at b bs None forth back v = forth bs v
deeper P Q at b bs (Some p) forth back v = (suc v.0, omega (arith, v.1), deeper_place P Q b v.0 bs forth back v.2)

here_byte : (P : List ℕ → Type 0) (at b : ℕ) (bs : List ℕ) → (t : List ℕ) × P t → ((t : List ℕ) → P (b ∷ t) → ⊥) → Verdict P at (b ∷ bs) (Some at)
here_byte P at b bs some never = (
  0,
  omega arith,
  record {
    within = omega arith;
    begins = some;
    stops = λ less starts. never starts.0 starts.1;
    ends = λ e p. never bs p;
  },
)

here_end : (P : List ℕ → Type 0) (at : ℕ) → (t : List ℕ) × P t → (P [] → ⊥) → Verdict P at [] (Some at)
here_end P at some never = (
  0,
  omega arith,
  record {
    within = omega arith;
    begins = some;
    stops = λ less starts. absurd (omega (arith, less));
    ends = λ e p. never p;
  },
)

-- the sets on the way
abbrev pub End : List ℕ → Type 0
End t = Fits [] t

abbrev pub Zulu : List ℕ → Type 0
Zulu t = Fits (codes "Z") t

abbrev pub Closing : ℕ → List ℕ → Type 0
Closing left t = (n : ℕ) × (n ≤ left) × Fits (replicate n 100 ++ codes "Z") t

abbrev pub Digits : List ℕ → Type 0
Digits t = (n : ℕ) × (n ≤ 8) × Fits (100 ∷ replicate n 100 ++ codes "Z") t

abbrev pub Fraction : List ℕ → Type 0
Fraction t = (n : ℕ) × (n ≤ 9) × Fits (fraction_pattern n) t

abbrev pub Whole : List ℕ → List ℕ → Type 0
Whole ms t = (n : ℕ) × (n ≤ 9) × Fits (ms ++ fraction_pattern n) t

z_is : (b : ℕ) → allows 90 b ≡ true → b ≡ 90
z_is b h = grind (arith, nat_tests, h)

point_is : (b : ℕ) → allows 46 b ≡ true → b ≡ 46
point_is b h = grind (arith, nat_tests, h)

no_digit_z : (b : ℕ) → allows 100 b ≡ true → allows 90 b ≡ true → ⊥
no_digit_z b h z = grind (arith, nat_tests, h, z)

no_point_z : (b : ℕ) → allows 46 b ≡ true → allows 90 b ≡ true → ⊥
no_point_z b h z = grind (arith, nat_tests, h, z)

apart : (x : Bool) → x ≡ true → x ≡ false → ⊥
apart x t f = cc

ended_verdict : (at : ℕ) (bs : List ℕ) → Verdict End at bs (ended at bs)
unfolding ended
ended_verdict at [] = tt
ended_verdict at (b ∷ bs) = here_byte End at b bs ([], tt) (λ t p. p)

zulu_z : (at b : ℕ) (bs : List ℕ) → allows 90 b ≡ true → zulu at (b ∷ bs) ≡ ended (at + 1) bs
unfolding zulu
zulu_z at b bs h = rw h refl

zulu_no : (at b : ℕ) (bs : List ℕ) → allows 90 b ≡ false → zulu at (b ∷ bs) ≡ Some at
unfolding zulu
zulu_no at b bs h = rw h refl

-- a set whose texts that begin with b are b and then those of the set Zulu: `Z` ends them, and nothing else goes on
z_verdict : (P : List ℕ → Type 0) (at b : ℕ) (bs : List ℕ) → (t : List ℕ) × P t → ((t : List ℕ) → Zulu (b ∷ t) → P (b ∷ t)) → ((t : List ℕ) → P (b ∷ t) → Zulu (b ∷ t))
    → Verdict P at (b ∷ bs) (zulu at (b ∷ bs))
z_verdict P at b bs some forth back = by_test (allows 90 b)
    (λ h. subst (Verdict P at (b ∷ bs)) (sym (zulu_z at b bs h)) (deeper P End at b bs (ended (at + 1) bs) (λ t e. forth t (h, e)) (λ t p. (back t p).1) (ended_verdict (at + 1) bs)))
    (λ h. subst (Verdict P at (b ∷ bs)) (sym (zulu_no at b bs h)) (here_byte P at b bs some (λ t p. apart (allows 90 b) (back t p).0 h)))

z_end : (P : List ℕ → Type 0) (at : ℕ) → (t : List ℕ) × P t → (P [] → ⊥) → Verdict P at [] (zulu at [])
unfolding zulu
z_end P at some never = here_end P at some never

closing_some : (left : ℕ) → (t : List ℕ) × Closing left t
closing_some left = (90 ∷ [], (0, omega arith, (refl, tt)))

closing_no : (left : ℕ) → Closing left [] → ⊥
closing_no left (zero, le, f) = f
closing_no left (suc n, le, f) = f

zero_back : (b : ℕ) (t : List ℕ) → Closing 0 (b ∷ t) → Zulu (b ∷ t)
zero_back b t (zero, le, f) = f
zero_back b t (suc n, le, f) = absurd (omega (arith, le))

digit_back : (left b : ℕ) → allows 100 b ≡ true → (t : List ℕ) → Closing (suc left) (b ∷ t) → Closing left t
digit_back left b h t (zero, le, f) = absurd (no_digit_z b h f.0)
digit_back left b h t (suc n, le, f) = (n, omega (arith, le), f.1)

other_back : (left b : ℕ) → allows 100 b ≡ false → (t : List ℕ) → Closing (suc left) (b ∷ t) → Zulu (b ∷ t)
other_back left b h t (zero, le, f) = f
other_back left b h t (suc n, le, f) = absurd (apart (allows 100 b) f.0 h)

closing_ends : (left at : ℕ) → closing (suc left) at [] ≡ Some at
unfolding closing
closing_ends left at = refl

closing_verdict : (left at : ℕ) (bs : List ℕ) → Verdict (Closing left) at bs (closing left at bs)
closing_verdict zero at [] = subst (Verdict (Closing 0) at []) (sym (closing_zero at [])) (z_end (Closing 0) at (closing_some 0) (closing_no 0))
closing_verdict zero at (b ∷ bs) = subst (Verdict (Closing 0) at (b ∷ bs)) (sym (closing_zero at (b ∷ bs))) (z_verdict (Closing 0) at b bs (closing_some 0) (λ t z. (0, omega arith, z)) (zero_back b))
closing_verdict (suc left) at [] = subst (Verdict (Closing (suc left)) at []) (sym (closing_ends left at)) (here_end (Closing (suc left)) at (closing_some (suc left)) (closing_no (suc left)))
closing_verdict (suc left) at (b ∷ bs) = by_test (allows 100 b)
    (λ h. subst (Verdict (Closing (suc left)) at (b ∷ bs)) (sym (closing_one left at b bs h)) (deeper (Closing (suc left)) (Closing left) at b bs (closing left (at + 1) bs) (λ t c. (suc c.0, omega (arith, c.1), (h, c.2))) (digit_back left b h) (closing_verdict left (at + 1) bs)))
    (λ h. subst (Verdict (Closing (suc left)) at (b ∷ bs)) (sym (closing_z left at b bs h)) (z_verdict (Closing (suc left)) at b bs (closing_some (suc left)) (λ t z. (0, omega arith, z)) (other_back left b h)))

digits_some : (t : List ℕ) × Digits t
digits_some = (48 ∷ 90 ∷ [], (0, omega arith, (refl, (refl, tt))))

digits_ends : (at : ℕ) → digits_fault at [] ≡ Some at
unfolding digits_fault
digits_ends at = refl

digits_one : (at b : ℕ) (bs : List ℕ) → allows 100 b ≡ true → digits_fault at (b ∷ bs) ≡ closing 8 (at + 1) bs
unfolding digits_fault
digits_one at b bs h = rw h refl

digits_no : (at b : ℕ) (bs : List ℕ) → allows 100 b ≡ false → digits_fault at (b ∷ bs) ≡ Some at
unfolding digits_fault
digits_no at b bs h = rw h refl

digits_verdict : (at : ℕ) (bs : List ℕ) → Verdict Digits at bs (digits_fault at bs)
digits_verdict at [] = subst (Verdict Digits at []) (sym (digits_ends at)) (here_end Digits at digits_some (λ p. p.2))
digits_verdict at (b ∷ bs) = by_test (allows 100 b)
    (λ h. subst (Verdict Digits at (b ∷ bs)) (sym (digits_one at b bs h)) (deeper Digits (Closing 8) at b bs (closing 8 (at + 1) bs) (λ t c. (c.0, c.1, (h, c.2))) (λ t p. (p.0, p.1, p.2.1)) (closing_verdict 8 (at + 1) bs)))
    (λ h. subst (Verdict Digits at (b ∷ bs)) (sym (digits_no at b bs h)) (here_byte Digits at b bs digits_some (λ t p. apart (allows 100 b) p.2.0 h)))

fraction_some : (t : List ℕ) × Fraction t
fraction_some = (90 ∷ [], (0, omega arith, (refl, tt)))

fraction_no : Fraction [] → ⊥
fraction_no (zero, le, f) = f
fraction_no (suc n, le, f) = f

point_back : (b : ℕ) → allows 46 b ≡ true → (t : List ℕ) → Fraction (b ∷ t) → Digits t
point_back b h t (zero, le, f) = absurd (no_point_z b h f.0)
point_back b h t (suc n, le, f) = (n, omega (arith, le), f.1)

no_point_back : (b : ℕ) → allows 46 b ≡ false → (t : List ℕ) → Fraction (b ∷ t) → Zulu (b ∷ t)
no_point_back b h t (zero, le, f) = f
no_point_back b h t (suc n, le, f) = absurd (apart (allows 46 b) f.0 h)

fraction_ends : (at : ℕ) → fraction_fault at [] ≡ Some at
unfolding fraction_fault
fraction_ends at = refl

fraction_one : (at b : ℕ) (bs : List ℕ) → allows 46 b ≡ true → fraction_fault at (b ∷ bs) ≡ digits_fault (at + 1) bs
unfolding fraction_fault
fraction_one at b bs h = rw h refl

fraction_z : (at b : ℕ) (bs : List ℕ) → allows 46 b ≡ false → fraction_fault at (b ∷ bs) ≡ zulu at (b ∷ bs)
unfolding fraction_fault
fraction_z at b bs h = rw h refl

fraction_verdict : (at : ℕ) (bs : List ℕ) → Verdict Fraction at bs (fraction_fault at bs)
fraction_verdict at [] = subst (Verdict Fraction at []) (sym (fraction_ends at)) (here_end Fraction at fraction_some fraction_no)
fraction_verdict at (b ∷ bs) = by_test (allows 46 b)
    (λ h. subst (Verdict Fraction at (b ∷ bs)) (sym (fraction_one at b bs h)) (deeper Fraction Digits at b bs (digits_fault (at + 1) bs) (λ t c. (suc c.0, omega (arith, c.1), (h, c.2))) (point_back b h) (digits_verdict (at + 1) bs)))
    (λ h. subst (Verdict Fraction at (b ∷ bs)) (sym (fraction_z at b bs h)) (z_verdict Fraction at b bs fraction_some (λ t z. (0, omega arith, z)) (no_point_back b h)))

-- a byte that a mark allows
fill : (m : ℕ) → (b : ℕ) × (allows m b ≡ true)
fill m = by_test (eqb m 100) (λ h. (48, grind (arith, nat_tests, h))) (λ h. (m, grind (arith, nat_tests, h)))

whole_some : (ms : List ℕ) → (t : List ℕ) × Whole ms t
whole_some [] = fraction_some
whole_some (m ∷ ms) = let f = fill m in let w = whole_some ms in (f.0 ∷ w.0, (w.1.0, w.1.1, (f.1, w.1.2)))

-- the place where the walk along the pattern stops
pub head_fault : (at : ℕ) (ms bs : List ℕ) (p : ℕ) → unfit at ms bs ≡ Some p → Verdict (Whole ms) at bs (Some p)
head_fault at [] bs p e = absurd (some_is_not_none p (sym e ∙ unfit_done at bs))
head_fault at (m ∷ ms) [] p e = subst (λ (o : Option ℕ). Verdict (Whole (m ∷ ms)) at [] o) (sym (unfit_short at m ms) ∙ e) (here_end (Whole (m ∷ ms)) at (whole_some (m ∷ ms)) (λ w. w.2))
head_fault at (m ∷ ms) (b ∷ bs) p e = by_test (allows m b)
    (λ h. deeper (Whole (m ∷ ms)) (Whole ms) at b bs (Some p) (λ t w. (w.0, w.1, (h, w.2))) (λ t w. (w.0, w.1, w.2.1)) (head_fault (at + 1) ms bs p (sym (unfit_more at m b ms bs h) ∙ e)))
    (λ h. subst (λ (o : Option ℕ). Verdict (Whole (m ∷ ms)) at (b ∷ bs) o) (sym (unfit_here at m b ms bs h) ∙ e) (here_byte (Whole (m ∷ ms)) at b bs (whole_some (m ∷ ms)) (λ t w. apart (allows m b) w.2.0 h)))

-- where it does not stop, what the walk behind it finds
pub head_none : (at there : ℕ) (ms bs : List ℕ) (o : Option ℕ) → there ≡ at + length ms → unfit at ms bs ≡ None → Verdict Fraction there (drop (length ms) bs) o → Verdict (Whole ms) at bs o
head_none at there [] bs o is e v = subst (λ (x : ℕ). Verdict Fraction x bs o) (is ∙ omega arith) v
head_none at there (m ∷ ms) [] o is e v = absurd (some_is_not_none at (sym (unfit_short at m ms) ∙ e))
head_none at there (m ∷ ms) (b ∷ bs) o is e v = by_test (allows m b)
    (λ h. deeper (Whole (m ∷ ms)) (Whole ms) at b bs o (λ t w. (w.0, w.1, (h, w.2))) (λ t w. (w.0, w.1, w.2.1)) (head_none (at + 1) there ms bs o (omega arith) (sym (unfit_more at m b ms bs h) ∙ e) v))
    (λ h. absurd (some_is_not_none at (sym (unfit_here at m b ms bs h) ∙ e)))

from_start : (text : List ℕ) (o : Option ℕ) → Verdict IsMomentShape 0 text o → MatchOption o (IsMomentShape text) (λ place. IsFaultPlace IsMomentShape text place)
from_start text None v = v
from_start text (Some p) v = let e : v.0 ≡ p = omega (arith, v.1) in subst (IsFaultPlace IsMomentShape text) e v.2

pub shape_stops : (text : List ℕ) (p : ℕ) → unfit 0 (codes "dddd-dd-ddTdd:dd:dd") text ≡ Some p → IsFaultPlace IsMomentShape text p
shape_stops text p e = from_start text (Some p) (head_fault 0 (codes "dddd-dd-ddTdd:dd:dd") text p e)

pub shape_walks : (text : List ℕ) → unfit 0 (codes "dddd-dd-ddTdd:dd:dd") text ≡ None
    → MatchOption (fraction_fault 19 (drop 19 text)) (IsMomentShape text) (λ place. IsFaultPlace IsMomentShape text place)
shape_walks text e =
    from_start text (fraction_fault 19 (drop 19 text)) (head_none 0 19 (codes "dddd-dd-ddTdd:dd:dd") text _ refl e (fraction_verdict 19 (drop 19 text)))
