-- Texts that fit a pattern, and what the walk along a pattern finds.
use Rattle.std.proofs.Common.{◌≡◌, ℕ, ◌+◌, ◌<◌, ◌≤◌, List, [], ◌∷◌, length, Bool, true, false, Some, None, refl, sym, ◌∙◌, arith}
use Rattle.cs_types.specs.Shape.{allows, Fits}
use Rattle.cs_types.specs.ShapeWalk.{unfit}

-- a digit is one that `d` allows
pub digit_fits : (n : ℕ) → n < 10 → allows 100 (48 + n) ≡ true
digit_fits n h = grind (arith, h)

pub unfit_more : (at m b : ℕ) (ms bs : List ℕ) → allows m b ≡ true → unfit at (m ∷ ms) (b ∷ bs) ≡ unfit (at + 1) ms bs
unfolding unfit
unfit_more at m b ms bs h = rw h refl

pub unfit_here : (at m b : ℕ) (ms bs : List ℕ) → allows m b ≡ false → unfit at (m ∷ ms) (b ∷ bs) ≡ Some at
unfolding unfit
unfit_here at m b ms bs h = rw h refl

pub unfit_short : (at m : ℕ) (ms : List ℕ) → unfit at (m ∷ ms) [] ≡ Some at
unfolding unfit
unfit_short at m ms = refl

pub unfit_done : (at : ℕ) (bs : List ℕ) → unfit at [] bs ≡ None
unfolding unfit
unfit_done at bs = refl

pub some_is_not_none : {A : Type 0} (a : A) → Some a ≡ None → ⊥
some_is_not_none a e = cc

pub by_test : {P : Type 0} (t : Bool) → (t ≡ true → P) → (t ≡ false → P) → P
by_test true so else_so = so refl
by_test false so else_so = else_so refl

-- a text without a fault that is no longer than the pattern fits it
pub fits_where_none : (at : ℕ) (ms bs : List ℕ) → unfit at ms bs ≡ None → length bs ≤ length ms → Fits ms bs
fits_where_none at [] [] e short = tt
fits_where_none at [] (b ∷ bs) e short = absurd (omega arith)
fits_where_none at (m ∷ ms) [] e short = absurd (some_is_not_none at (sym (unfit_short at m ms) ∙ e))
fits_where_none at (m ∷ ms) (b ∷ bs) e short = by_test (allows m b)
    (λ h. (h, fits_where_none (at + 1) ms bs (sym (unfit_more at m b ms bs h) ∙ e) (omega arith)))
    (λ h. absurd (some_is_not_none at (sym (unfit_here at m b ms bs h) ∙ e)))

-- and it is at least as long
pub long_where_none : (at : ℕ) (ms bs : List ℕ) → unfit at ms bs ≡ None → length ms ≤ length bs
long_where_none at [] bs e = omega arith
long_where_none at (m ∷ ms) [] e = absurd (some_is_not_none at (sym (unfit_short at m ms) ∙ e))
long_where_none at (m ∷ ms) (b ∷ bs) e = by_test (allows m b)
    (λ h. let more = long_where_none (at + 1) ms bs (sym (unfit_more at m b ms bs h) ∙ e) in omega arith)
    (λ h. absurd (some_is_not_none at (sym (unfit_here at m b ms bs h) ∙ e)))

-- a text that fits has the pattern's length and no fault
pub length_of_fit : (ms bs : List ℕ) → Fits ms bs → length bs ≡ length ms
length_of_fit [] [] h = refl
length_of_fit [] (b ∷ bs) h = absurd h
length_of_fit (m ∷ ms) [] h = absurd h
length_of_fit (m ∷ ms) (b ∷ bs) h = let more = length_of_fit ms bs h.1 in omega arith

pub none_where_fits : (at : ℕ) (ms bs : List ℕ) → Fits ms bs → unfit at ms bs ≡ None
none_where_fits at [] [] h = unfit_done at []
none_where_fits at [] (b ∷ bs) h = absurd h
none_where_fits at (m ∷ ms) [] h = absurd h
none_where_fits at (m ∷ ms) (b ∷ bs) h = unfit_more at m b ms bs h.0 ∙ none_where_fits (at + 1) ms bs h.1
