-- How far two lists agree, byte by byte and piece by piece.
use Rattle.std.proofs.Common.{suc, zero, ◌≡◌, ◌≤◌, ◌<◌, ◌⊎◌, inl, inr, ℕ, ◌+◌, min, List, [], ◌∷◌, length, take, drop, get_or, cond, nat_eq, true, refl, sym, ◌∙◌, ap, arith}
use Rattle.std.proofs.lemmas.Bool.{cases_eq, cases_Bool}
use Rattle.std.proofs.lemmas.Bool.Decides.{nat_tests}
use Rattle.std.proofs.lemmas.List.{drop_more, drop_all}
use Rattle.cs_redo.specs.Agreeing.{agreeing}

-- the first bytes are the same, or differ
pub agree_here : (b c : ℕ) (one other : List ℕ) → b ≡ c → agreeing (b ∷ one) (c ∷ other) ≡ suc (agreeing one other)
agree_here b c one other same = ap (λ t. cond t (suc (agreeing one other)) 0) is
  where
    is : nat_eq b c ≡ true
    is = grind (arith, nat_tests, same)

pub differ_here : (b c : ℕ) (one other : List ℕ) → (b ≡ c → ⊥) → agreeing (b ∷ one) (c ∷ other) ≡ 0
differ_here b c one other apart = elim (cases_Bool (nat_eq b c)) [
  | inl is ↦ absurd (apart (equal is))
  | inr not ↦ ap (λ t. cond t (suc (agreeing one other)) 0) not
]
  where
    equal : nat_eq b c ≡ true → b ≡ c
    equal is = grind (arith, nat_tests)

none_right : (one : List ℕ) → agreeing one [] ≡ 0
none_right [] = refl
none_right (b ∷ one) = refl

pub within : (one other : List ℕ) → (agreeing one other ≤ length one) × (agreeing one other ≤ length other)
within [] other = (omega arith, omega arith)
within (b ∷ one) [] = (omega arith, omega arith)
within (b ∷ one) (c ∷ other) = elim (cases_eq b c) [
  | inl same ↦ (omega (arith, agree_here b c one other same, within one other), omega (arith, agree_here b c one other same, within one other))
  | inr apart ↦ (omega (arith, differ_here b c one other apart), omega (arith, differ_here b c one other apart))
]

-- one byte more, from a place on
pub one_more : (one other : List ℕ) (count : ℕ) → count < length one → count < length other → get_or one count 0 ≡ get_or other count 0 → agreeing (drop count one) (drop count other) ≡ suc (agreeing (drop (count + 1) one) (drop (count + 1) other))
one_more one other count first second same =
    ap (λ (l : List ℕ). agreeing l (drop count other)) (drop_more one count 0 first)
    ∙ ap (λ (l : List ℕ). agreeing (get_or one count 0 ∷ drop (count + 1) one) l) (drop_more other count 0 second)
    ∙ agree_here (get_or one count 0) (get_or other count 0) (drop (count + 1) one) (drop (count + 1) other) same

-- and no byte more
pub no_more : (one other : List ℕ) (count : ℕ) → count < length one → count < length other → (get_or one count 0 ≡ get_or other count 0 → ⊥) → agreeing (drop count one) (drop count other) ≡ 0
no_more one other count first second apart =
    ap (λ (l : List ℕ). agreeing l (drop count other)) (drop_more one count 0 first)
    ∙ ap (λ (l : List ℕ). agreeing (get_or one count 0 ∷ drop (count + 1) one) l) (drop_more other count 0 second)
    ∙ differ_here (get_or one count 0) (get_or other count 0) (drop (count + 1) one) (drop (count + 1) other) apart

pub ended_left : (one other : List ℕ) (count : ℕ) → length one ≤ count → agreeing (drop count one) (drop count other) ≡ 0
ended_left one other count all = ap (λ (l : List ℕ). agreeing l (drop count other)) (drop_all count one all)

pub ended_right : (one other : List ℕ) (count : ℕ) → length other ≤ count → agreeing (drop count one) (drop count other) ≡ 0
ended_right one other count all = ap (λ (l : List ℕ). agreeing (drop count one) l) (drop_all count other all) ∙ none_right (drop count one)

-- the first bytes, so many, agree: the rest goes on behind them
pub split : (count : ℕ) (one other : List ℕ) → count ≤ agreeing one other → agreeing one other ≡ count + agreeing (drop count one) (drop count other)
split zero one other few = omega arith
split (suc count) [] other few = absurd (omega (arith, few))
split (suc count) (b ∷ one) [] few = absurd (omega (arith, few))
split (suc count) (b ∷ one) (c ∷ other) few = elim (cases_eq b c) [
  | inl same ↦ omega (arith, agree_here b c one other same, split count one other (omega (arith, few, agree_here b c one other same)))
  | inr apart ↦ absurd (omega (arith, few, differ_here b c one other apart))
]

-- how far two fronts agree
pub in_front : (count : ℕ) (one other : List ℕ) → agreeing (take count one) (take count other) ≡ min count (agreeing one other)
in_front zero one other = omega arith
in_front (suc count) [] other = omega arith
in_front (suc count) (b ∷ one) [] = omega arith
in_front (suc count) (b ∷ one) (c ∷ other) = elim (cases_eq b c) [
  | inl same ↦ omega (arith, agree_here b c one other same, agree_here b c (take count one) (take count other) same, in_front count one other)
  | inr apart ↦ omega (arith, differ_here b c one other apart, differ_here b c (take count one) (take count other) apart)
]

-- what agrees is the same
pub same : (one other : List ℕ) → take (agreeing one other) one ≡ take (agreeing one other) other
same [] other = refl
same (b ∷ one) [] = refl
same (b ∷ one) (c ∷ other) = elim (cases_eq b c) [
  | inl is ↦
      let more = agree_here b c one other is in
      ap (λ (n : ℕ). take n (b ∷ one)) more ∙ ap (λ (l : List ℕ). b ∷ l) (same one other) ∙ ap (λ (x : ℕ). x ∷ take (agreeing one other) other) is ∙ sym (ap (λ (n : ℕ). take n (c ∷ other)) more)
  | inr apart ↦
      let none = differ_here b c one other apart in
      ap (λ (n : ℕ). take n (b ∷ one)) none ∙ sym (ap (λ (n : ℕ). take n (c ∷ other)) none)
]

-- and it is all that is the same from the front on, but where the lists are one
pub most : (count : ℕ) (one other : List ℕ) → take count one ≡ take count other → (count ≤ agreeing one other) ⊎ (one ≡ other)
most zero one other is = inl (omega arith)
most (suc count) [] [] is = inr refl
most (suc count) [] (c ∷ other) is = absurd (cc is)
most (suc count) (b ∷ one) [] is = absurd (cc is)
most (suc count) (b ∷ one) (c ∷ other) is =
    let first : b ≡ c = cc is in
    let rest : take count one ≡ take count other = cc is in
    elim (most count one other rest) [
      | inl few ↦ inl (omega (arith, few, agree_here b c one other first))
      | inr equal ↦ inr (ap (λ (x : ℕ). x ∷ one) first ∙ ap (λ (l : List ℕ). c ∷ l) equal)
    ]

-- one list agrees with itself to its end
pub all : (bytes : List ℕ) → agreeing bytes bytes ≡ length bytes
all [] = refl
all (b ∷ bytes) = omega (arith, agree_here b b bytes bytes refl, all bytes)
