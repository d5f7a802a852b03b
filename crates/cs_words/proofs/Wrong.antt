-- The first word that no allowed list has.
use Rattle.std.proofs.Common.{◌≡◌, ◌<◌, ◌≤◌, ℕ, zero, suc, ◌+◌, List, [], ◌∷◌, ◌++◌, length, take, drop, Some, None, slice_get, refl, sym, ap, subst, ◌∙◌, add-one, arith}
use Rattle.cs_words.specs.Place.{Begins, IsFirstWrong}

pub none_some : {x : List ℕ} → None ≡ Some x → ⊥
none_some e = cc

pub same_word : {x y : List ℕ} → Some x ≡ Some y → x ≡ y
same_word e = cc

-- what stands in a list up to a place stands in each list that goes on behind it
at_front : (ws rest : List (List ℕ)) (i k : ℕ) → i ≤ k → k < length ws → slice_get ws i ≡ slice_get (take (suc k) ws ++ rest) i
at_front [] rest i k le lt = absurd (omega arith)
at_front (w ∷ ws) rest zero k le lt = refl
at_front (w ∷ ws) rest (suc i) zero le lt = absurd (omega arith)
at_front (w ∷ ws) rest (suc i) (suc k) le lt = at_front ws rest i k (omega arith) (omega arith)

-- the word at a place, and those behind it
pub drop_at : (ws : List (List ℕ)) (k : ℕ) (w : List ℕ) → slice_get ws k ≡ Some w → drop k ws ≡ w ∷ drop (suc k) ws
drop_at [] k w e = absurd (none_some e)
drop_at (x ∷ ws) zero w e = ap (λ v. v ∷ ws) (same_word e)
drop_at (x ∷ ws) (suc k) w e = drop_at ws k w e

pub within_at : (ws : List (List ℕ)) (k : ℕ) (w : List ℕ) → slice_get ws k ≡ Some w → k < length ws
within_at [] k w e = absurd (none_some e)
within_at (x ∷ ws) zero w e = omega arith
within_at (x ∷ ws) (suc k) w e = let lt : k < length ws = within_at ws k w e in omega (arith, lt)

-- no allowed list agrees with the words up to a place
abbrev pub Differs : (List (List ℕ) → Type 0) → List (List ℕ) → ℕ → Type 0
Differs Allowed ws k = (all : List (List ℕ)) → Allowed all → ((i : ℕ) → i ≤ k → slice_get ws i ≡ slice_get all i) → ⊥

module _ (Allowed : List (List ℕ) → Type 0) where
  pub first_wrong : (ws : List (List ℕ)) (k : ℕ) → k ≤ length ws → Begins Allowed (take k ws) → Differs Allowed ws k → IsFirstWrong Allowed ws k
  first_wrong ws k within before differs = record {
    within = within;
    before = before;
    not_there = λ lt begin. differs (take (k + 1) ws ++ begin.0) begin.1 (λ i le. subst (λ n. slice_get ws i ≡ slice_get (take n ws ++ begin.0) i) (sym (add-one k)) (at_front ws begin.0 i k le lt));
    refused = λ is. differs ws is (λ i le. refl);
  }

  -- what is behind a word
  pub wrong_behind : (w : List ℕ) (ws : List (List ℕ)) (k : ℕ) → IsFirstWrong (λ l. Allowed (w ∷ l)) ws k → IsFirstWrong Allowed (w ∷ ws) (suc k)
  wrong_behind w ws k is = record {
    within = omega (arith, is.within);
    before = is.before;
    not_there = λ lt begin. is.not_there (omega (arith, lt)) (begin.0, subst (λ n. Allowed (take n (w ∷ ws) ++ begin.0)) (grow k) begin.1);
    refused = is.refused;
  }
    where
      grow : (n : ℕ) → suc n + 1 ≡ suc (n + 1)
      grow n = omega arith

-- the like of another set with the same lists
pub wrong_same : (Allowed Other : List (List ℕ) → Type 0) → ((l : List (List ℕ)) → Other l → Allowed l) → ((l : List (List ℕ)) → Allowed l → Other l)
    → (ws : List (List ℕ)) (k : ℕ) → IsFirstWrong Other ws k → IsFirstWrong Allowed ws k
wrong_same Allowed Other into out ws k is = record {
  within = is.within;
  before = (is.before.0, into _ is.before.1);
  not_there = λ lt begin. is.not_there lt (begin.0, out _ begin.1);
  refused = λ a. is.refused (out _ a);
}

-- one word more
pub take_next : (ws : List (List ℕ)) (k : ℕ) (w : List ℕ) → slice_get ws k ≡ Some w → take (suc k) ws ≡ take k ws ++ w ∷ []
take_next [] k w e = absurd (none_some e)
take_next (x ∷ ws) zero w e = ap (λ v. v ∷ []) (same_word e)
take_next (x ∷ ws) (suc k) w e = ap (λ t. x ∷ t) (take_next ws k w e)

-- lists that begin so begin an allowed one
pub begins : (Allowed : List (List ℕ) → Type 0) (front rest words : List (List ℕ)) → words ≡ front → Allowed (front ++ rest) → Begins Allowed words
begins Allowed front rest words e are = (rest, subst (λ f. Allowed (f ++ rest)) (sym e) are)

pub front_one : (ws : List (List ℕ)) (a : List ℕ) → slice_get ws 0 ≡ Some a → take 1 ws ≡ a ∷ []
front_one ws a e = take_next ws 0 a e

pub front_two : (ws : List (List ℕ)) (a b : List ℕ) → slice_get ws 0 ≡ Some a → slice_get ws 1 ≡ Some b → take 2 ws ≡ a ∷ b ∷ []
front_two ws a b e0 e1 = take_next ws 1 b e1 ∙ ap (λ t. t ++ b ∷ []) (front_one ws a e0)

pub front_three : (ws : List (List ℕ)) (a b c : List ℕ) → slice_get ws 0 ≡ Some a → slice_get ws 1 ≡ Some b → slice_get ws 2 ≡ Some c → take 3 ws ≡ a ∷ b ∷ c ∷ []
front_three ws a b c e0 e1 e2 = take_next ws 2 c e2 ∙ ap (λ t. t ++ c ∷ []) (front_two ws a b e0 e1)

pub front_four : (ws : List (List ℕ)) (a b c d : List ℕ) → slice_get ws 0 ≡ Some a → slice_get ws 1 ≡ Some b → slice_get ws 2 ≡ Some c → slice_get ws 3 ≡ Some d → take 4 ws ≡ a ∷ b ∷ c ∷ d ∷ []
front_four ws a b c d e0 e1 e2 e3 = take_next ws 3 d e3 ∙ ap (λ t. t ++ d ∷ []) (front_three ws a b c e0 e1 e2)
