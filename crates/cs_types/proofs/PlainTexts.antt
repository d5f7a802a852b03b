-- The texts of moments are digits and marks, and each is of one moment.
use Rattle.std.proofs.Common.{◌≡◌, ◌≢◌, ◌≤◌, ℕ, zero, suc, List, [], ◌∷◌, ◌++◌, All, replicate, codes, ℤ, IsTrue, Bool, true, ◌==◌, ◌&&◌, ◌||◌, nat_le, refl, subst, arith}
use Rattle.std.specs.List.{list_all}
use Rattle.std.proofs.lemmas.List.Elements.{All-nil, All-cons, All-head, All-tail, All-append}
use Rattle.std.proofs.lemmas.List.Sums.{AllPass-from_list_all}
use Rattle.cs_types.specs.Shape.{allows, Fits}
use Rattle.cs_types.specs.Moment.{IsMomentShape, IsMoment, SpellsMoment, fraction_pattern, moment_text}
use Rattle.cs_types.specs.Texts.{IsMarkOrDigit, HasNoEnd, HasNoQuote}
use Rattle.cs_types.proofs.MomentTexts.{moment_spelled}
use Rattle.cs_types.proofs.Moments.{same_number}

-- a byte of a pattern that allows no other
abbrev is_mark : ℕ → Bool
is_mark p = (p == 100) || (nat_le 45 p && nat_le p 90)

all_weaker : (P Q : ℕ → Type 0) → ((x : ℕ) → P x → Q x) → (xs : List ℕ) → All P xs → All Q xs
all_weaker P Q f xs h = λ k d lt. f _ (h k d lt)

low : (p b : ℕ) → is_mark p ≡ true → IsTrue (allows p b) → 45 ≤ b
low p b m h = grind (arith, m, h)

high : (p b : ℕ) → is_mark p ≡ true → IsTrue (allows p b) → b ≤ 90
high p b m h = grind (arith, m, h)

fits_plain : (ms bs : List ℕ) → All (λ p. is_mark p ≡ true) ms → Fits ms bs → All IsMarkOrDigit bs
fits_plain [] [] all h = All-nil IsMarkOrDigit
fits_plain [] (b ∷ bs) all h = absurd h
fits_plain (p ∷ ms) [] all h = absurd h
fits_plain (p ∷ ms) (b ∷ bs) all h =
    let mark = All-head (λ q. is_mark q ≡ true) p ms all in
    All-cons IsMarkOrDigit b bs (low p b mark h.0, high p b mark h.0) (fits_plain ms bs (All-tail (λ q. is_mark q ≡ true) p ms all) h.1)

marks : (ms : List ℕ) → list_all is_mark ms ≡ true → All (λ p. is_mark p ≡ true) ms
marks ms h = AllPass-from_list_all is_mark ms h

digits_marks : (n : ℕ) → All (λ p. is_mark p ≡ true) (replicate n 100)
digits_marks zero = All-nil (λ p. is_mark p ≡ true)
digits_marks (suc n) = All-cons (λ p. is_mark p ≡ true) 100 (replicate n 100) refl (digits_marks n)

fraction_marks : (n : ℕ) → All (λ p. is_mark p ≡ true) (fraction_pattern n)
fraction_marks zero = marks (codes "Z") refl
fraction_marks (suc n) =
    All-append (λ p. is_mark p ≡ true) (codes "." ++ replicate (suc n) 100) (codes "Z")
    (All-cons (λ p. is_mark p ≡ true) 46 (replicate (suc n) 100) refl (digits_marks (suc n))) (marks (codes "Z") refl)

shape_plain : (text : List ℕ) → IsMomentShape text → All IsMarkOrDigit text
shape_plain text (n, le, fits) =
    fits_plain (codes "dddd-dd-ddTdd:dd:dd" ++ fraction_pattern n) text
    (All-append (λ p. is_mark p ≡ true) (codes "dddd-dd-ddTdd:dd:dd") (fraction_pattern n) (marks (codes "dddd-dd-ddTdd:dd:dd") refl) (fraction_marks n)) fits

pub text_plain : (us : ℤ) → IsMoment us → All IsMarkOrDigit (moment_text us)
text_plain us is = shape_plain (moment_text us) (moment_spelled us is).shape

pub no_quote : (us : ℤ) → IsMoment us → HasNoQuote (moment_text us)
no_quote us is = all_weaker IsMarkOrDigit (λ x. x ≢ 34) (λ x p e. omega (arith, p.0)) (moment_text us) (text_plain us is)

pub no_end : (us : ℤ) → IsMoment us → HasNoEnd (moment_text us)
no_end us is = all_weaker IsMarkOrDigit (λ x. x ≢ 10) (λ x p e. omega (arith, p.0)) (moment_text us) (text_plain us is)

-- two moments have two texts
pub one_moment : (a b : ℤ) → IsMoment a → IsMoment b → moment_text a ≡ moment_text b → a ≡ b
one_moment a b is is' e =
    same_number _ _ (moment_text b) a b (subst (λ (l : List ℕ). SpellsMoment l a) e (moment_spelled a is)) (moment_spelled b is')
