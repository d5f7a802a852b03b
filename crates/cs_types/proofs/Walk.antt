-- What the walks behind the seconds find at a place of the whole text.
use Rattle.std.proofs.Common.{◌≡◌, ℕ, zero, suc, ◌+◌, ◌<◌, ◌≤◌, List, [], ◌∷◌, length, drop, get_or, true, false, Some, None, refl, ◌∙◌, arith, add-one, drop-cons, eqb}
use Rattle.std.proofs.Math.ListN.{drop_of_length-le}
use Rattle.std.proofs.lemmas.Bool.Decides.{nat_tests}
use Rattle.cs_types.specs.Shape.{allows}
use Rattle.cs_types.specs.ShapeWalk.{ended, zulu, closing, digits_fault, fraction_fault}

pub at_place : (at : ℕ) (text : List ℕ) → at < length text → drop at text ≡ get_or text at 0 ∷ drop (at + 1) text
at_place at text h = rw add-one (drop-cons text at 0 h)

ended_at : (at : ℕ) (text : List ℕ) → at < length text → ended at (drop at text) ≡ Some at
unfolding ended
ended_at at text h = rw (at_place at text h) refl

ended_past : (at : ℕ) (text : List ℕ) → length text ≤ at → ended at (drop at text) ≡ None
unfolding ended
ended_past at text h = rw (drop_of_length-le text h) refl

zulu_one : (at b : ℕ) (bs : List ℕ) → b ≡ 90 → zulu at (b ∷ bs) ≡ ended (at + 1) bs
unfolding zulu
zulu_one at b bs e = rw e refl

zulu_none : (at b : ℕ) (bs : List ℕ) → eqb b 90 ≡ false → zulu at (b ∷ bs) ≡ Some at
unfolding zulu
zulu_none at b bs e = rw e refl

pub not_equal : (a b : ℕ) → (a ≡ b → ⊥) → eqb a b ≡ false
not_equal a b h = grind (arith, nat_tests, h)

pub zulu_early : (at : ℕ) (text : List ℕ) → length text ≤ at → zulu at (drop at text) ≡ Some at
unfolding zulu
zulu_early at text h = rw (drop_of_length-le text h) refl

pub zulu_other : (at : ℕ) (text : List ℕ) → at < length text → (get_or text at 0 ≡ 90 → ⊥) → zulu at (drop at text) ≡ Some at
zulu_other at text h other = rw (at_place at text h) (zulu_none at (get_or text at 0) (drop (at + 1) text) (not_equal _ 90 other))

pub zulu_more : (at : ℕ) (text : List ℕ) → at + 1 < length text → get_or text at 0 ≡ 90 → zulu at (drop at text) ≡ Some (at + 1)
zulu_more at text h z = rw (at_place at text (omega arith)) (zulu_one at (get_or text at 0) (drop (at + 1) text) z ∙ ended_at (at + 1) text h)

pub zulu_last : (at : ℕ) (text : List ℕ) → at < length text → length text ≤ at + 1 → get_or text at 0 ≡ 90 → zulu at (drop at text) ≡ None
zulu_last at text h short z = rw (at_place at text h) (zulu_one at (get_or text at 0) (drop (at + 1) text) z ∙ ended_past (at + 1) text short)

closing_none : (left at : ℕ) → closing left at [] ≡ Some at
unfolding closing zulu
closing_none zero at = refl
closing_none (suc left) at = refl

pub closing_one : (left at b : ℕ) (bs : List ℕ) → allows 100 b ≡ true → closing (suc left) at (b ∷ bs) ≡ closing left (at + 1) bs
unfolding closing
closing_one left at b bs e = rw e refl

pub closing_z : (left at b : ℕ) (bs : List ℕ) → allows 100 b ≡ false → closing (suc left) at (b ∷ bs) ≡ zulu at (b ∷ bs)
unfolding closing
closing_z left at b bs e = rw e refl

pub closing_zero : (at : ℕ) (bs : List ℕ) → closing 0 at bs ≡ zulu at bs
unfolding closing
closing_zero at bs = refl

pub closing_early : (left at : ℕ) (text : List ℕ) → length text ≤ at → closing left at (drop at text) ≡ Some at
closing_early left at text h = rw (drop_of_length-le text h) (closing_none left at)

pub closing_digit : (left less at : ℕ) (text : List ℕ) → left ≡ suc less → at < length text → allows 100 (get_or text at 0) ≡ true
    → closing left at (drop at text) ≡ closing less (at + 1) (drop (at + 1) text)
closing_digit left less at text e h digit = rw (e, at_place at text h) (closing_one less at (get_or text at 0) (drop (at + 1) text) digit)

pub closing_other : (left less at : ℕ) (text : List ℕ) → left ≡ suc less → at < length text → allows 100 (get_or text at 0) ≡ false
    → closing left at (drop at text) ≡ zulu at (drop at text)
closing_other left less at text e h digit = rw (e, at_place at text h) (closing_z less at (get_or text at 0) (drop (at + 1) text) digit)

pub digits_early : (at : ℕ) (text : List ℕ) → length text ≤ at → digits_fault at (drop at text) ≡ Some at
unfolding digits_fault
digits_early at text h = rw (drop_of_length-le text h) refl

pub digits_other : (at : ℕ) (text : List ℕ) → at < length text → allows 100 (get_or text at 0) ≡ false → digits_fault at (drop at text) ≡ Some at
unfolding digits_fault
digits_other at text h digit = rw (at_place at text h, digit) refl

pub digits_more : (at : ℕ) (text : List ℕ) → at < length text → allows 100 (get_or text at 0) ≡ true → digits_fault at (drop at text) ≡ closing 8 (at + 1) (drop (at + 1) text)
unfolding digits_fault
digits_more at text h digit = rw (at_place at text h, digit) refl

pub fraction_early : (at : ℕ) (text : List ℕ) → length text ≤ at → fraction_fault at (drop at text) ≡ Some at
unfolding fraction_fault
fraction_early at text h = rw (drop_of_length-le text h) refl

pub fraction_point : (at : ℕ) (text : List ℕ) → at < length text → get_or text at 0 ≡ 46 → fraction_fault at (drop at text) ≡ digits_fault (at + 1) (drop (at + 1) text)
unfolding fraction_fault
fraction_point at text h point = rw (at_place at text h, point) refl

pub fraction_other : (at : ℕ) (text : List ℕ) → at < length text → (get_or text at 0 ≡ 46 → ⊥) → fraction_fault at (drop at text) ≡ zulu at (drop at text)
unfolding fraction_fault
fraction_other at text h other = rw (at_place at text h, not_equal (get_or text at 0) 46 other) refl
