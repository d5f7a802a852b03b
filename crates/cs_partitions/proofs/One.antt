-- What is told of a layout by its order and its moments is told of one part, or of one list.
use Rattle.std.proofs.Common.{◌≡◌, ◌⊎◌, inl, inr, ℕ, suc, ◌<◌, ◌≤◌, List, [], ◌∷◌, get_or, Contains, true≢false, ⊎_elim, sym, refl, ap, ◌∙◌, subst, arith}
use Rattle.std.specs.declared.cmp.Ordering.{Ordering}
use Rattle.std.specs.declared.cmp.Ordering.TheVariants.{Less, Equal, Greater}
use Rattle.std.specs.Ordering.{nat_cmp, MatchOrdering}
use Rattle.std.specs.List.{AllPairs}
use Rattle.std.proofs.lemmas.Cmp.{ranked}
use Rattle.std.proofs.lemmas.List.Elements.{Contains-get_or}
use Rattle.cs_types.specs.Members.{in_nil, in_head, in_tail, in_cons}
use Rattle.cs_place.specs.declared.place.Place.{Place}
use Rattle.cs_place.specs.declared.part.Part.{Part}
use Rattle.cs_partitions.specs.Layout.{StreamParts, IsLayout, IsLower}
use Rattle.cs_partitions.specs.Views.{IsHolder, AreLiveByLow}
use Rattle.cs_partitions.proofs.Order.{below_not_itself, below_not_above}

-- the parts at two indexes are the same, where both have a place at a moment: so are the indexes
pub holder_one : (l : StreamParts) (place : Place) (moment i j : ℕ) → IsLayout l → l.created ≤ moment → IsHolder l.parts place moment i → IsHolder l.parts place moment j → i ≡ j
holder_one l place moment i j h late a b = by (nat_cmp i j) (ranked i j (nat_cmp i j) refl)
  where
    d : Part
    d = (h.sound.held place moment late).0

    is_one : (k : ℕ) → IsHolder l.parts place moment k → get_or l.parts k d ≡ d
    is_one k c = (h.sound.held place moment late).3 (get_or l.parts k d) (Contains-get_or l.parts k d c.inside) (c.holds d)

    same : (get_or l.parts i d).token ≡ (get_or l.parts j d).token
    same = ap (λ (p : Part). p.token) (is_one i a ∙ sym (is_one j b))

    by : (o : Ordering) → MatchOrdering o (i < j) (i ≡ j) (j < i) → i ≡ j
    by Less less = absurd (h.sound.tokens i j d less b.inside same)
    by Equal e = e
    by Greater greater = absurd (h.sound.tokens j i d greater a.inside (sym same))

-- lists of the same parts, each in order of low

abbrev AreAbove : Part → List Part → Type 0
AreAbove x xs = (z : Part) → Contains xs z → IsLower x z

above_head : (x : Part) (xs : List Part) → AllPairs IsLower (x ∷ xs) → AreAbove x xs
above_head x xs r z i = subst (λ y. IsLower x y) i.2 (r 0 (suc i.0) z (omega arith) (omega (arith, i.1)))

rest_rises : (x : Part) (xs : List Part) → AllPairs IsLower (x ∷ xs) → AllPairs IsLower xs
rest_rises x xs r i j d l m = r (suc i) (suc j) d (omega (arith, l)) (omega (arith, m))

not_lower_itself : (x : Part) → IsLower x x → ⊥
not_lower_itself x h = true≢false (sym h ∙ below_not_itself x.range.low)

-- the first of one list is that of the other
same_head : (x y : Part) (xs ys : List Part) → AreAbove x xs → AreAbove y ys → Contains (y ∷ ys) x → Contains (x ∷ xs) y → x ≡ y
same_head x y xs ys a b i j = by (in_cons y x ys i) (in_cons x y xs j)
  where
    by : (x ≡ y) ⊎ Contains ys x → (y ≡ x) ⊎ Contains xs y → x ≡ y
    by (inl e) k = e
    by (inr k) (inl e) = sym e
    by (inr k) (inr m) = absurd (true≢false (sym (b x k) ∙ below_not_above x.range.low y.range.low (a y m)))

-- what is behind the first of one list is behind that of the other
same_rest : (x y : Part) (xs ys : List Part) → x ≡ y → AreAbove x xs → ((z : Part) → Contains (x ∷ xs) z → Contains (y ∷ ys) z) → (z : Part) → Contains xs z → Contains ys z
same_rest x y xs ys e a f z i =
    ⊎_elim
    (λ (k : z ≡ y). absurd (not_lower_itself x (subst (λ w. IsLower x w) (k ∙ sym e) (a z i))))
    (λ (k : Contains ys z). k)
    (in_cons y z ys (f z (in_tail x z xs i)))

pub rising_one : (xs ys : List Part) → AllPairs IsLower xs → AllPairs IsLower ys → ((z : Part) → Contains xs z → Contains ys z) → ((z : Part) → Contains ys z → Contains xs z) → xs ≡ ys
rising_one [] [] r s f g = refl
rising_one [] (y ∷ ys) r s f g = absurd (in_nil y (g y (in_head y ys)))
rising_one (x ∷ xs) [] r s f g = absurd (in_nil x (f x (in_head x xs)))
rising_one (x ∷ xs) (y ∷ ys) r s f g =
    let e = same_head x y xs ys (above_head x xs r) (above_head y ys s) (f x (in_head x xs)) (g y (in_head y ys)) in
    ap (λ z. z ∷ xs) e ∙ ap (λ zs. y ∷ zs) (rising_one xs ys (rest_rises x xs r) (rest_rises y ys s) (same_rest x y xs ys e (above_head x xs r) f) (same_rest y x ys xs (sym e) (above_head y ys s) g))

pub live_one : (parts : List Part) (moment : ℕ) (live other : List Part) → AreLiveByLow parts moment live → AreLiveByLow parts moment other → live ≡ other
live_one parts moment live other a b = rising_one live other a.rising b.rising (λ z i. let k = a.only z i in b.all z k.0 k.1) (λ z i. let k = b.only z i in a.all z k.0 k.1)
