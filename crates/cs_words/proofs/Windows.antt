-- The first word of a window that is wrong.
use Rattle.std.proofs.Common.{◌≡◌, ◌<◌, ◌≤◌, ℕ, zero, suc, ◌+◌, List, [], ◌∷◌, ◌++◌, length, take, drop, true, Some, slice_get, refl, sym, ap, subst, ◌∙◌, arith}
use Rattle.std.proofs.lemmas.Option.{slice_get-get_or}
use Rattle.std.proofs.lemmas.List.{take_all, take_at, take-append-le, take-append-drop, length-take-le, length-append, append-nil}
use Rattle.cs_types.specs.Stamp.{Spells, stamp_text}
use Rattle.cs_words.specs.Numbers.{is_name}
use Rattle.cs_words.specs.Place.{IsFirstWrong}
use Rattle.cs_words.specs.Words.{AreWindow}
use Rattle.cs_words.proofs.Samples.{some_stamp, some_window, window_sample}
use Rattle.cs_words.proofs.Wrong.{none_some, same_word, within_at, first_wrong, begins, front_one, front_two, front_three}

-- the words of a window that were found
pub record Found (ws : List (List ℕ)) (name text : List ℕ) (start : ℕ) : Type 0 where
  pub zero_is : slice_get ws 0 ≡ Some name
  pub name_is : is_name name ≡ true
  pub one_is : slice_get ws 1 ≡ Some text
  pub start_is : Spells text start

module _ (spelled : Spells (stamp_text some_stamp) some_stamp) (one_stamp : (text : List ℕ) (s t : ℕ) → Spells text s → Spells text t → s ≡ t) where
  pub window_zero : (ws : List (List ℕ)) → ((text : List ℕ) → slice_get ws 0 ≡ Some text → is_name text ≡ true → ⊥) → IsFirstWrong AreWindow ws 0
  window_zero ws bad = first_wrong AreWindow ws 0 (omega arith) (begins AreWindow [] _ _ refl (some_window spelled))
      (λ all is same. bad is.0.stream (same 0 (omega arith) ∙ ap (λ l. slice_get l 0) is.1.are) is.1.name)

  pub window_one : (ws : List (List ℕ)) (name : List ℕ) → slice_get ws 0 ≡ Some name → is_name name ≡ true → ((text : List ℕ) (at : ℕ) → slice_get ws 1 ≡ Some text → Spells text at → ⊥)
      → IsFirstWrong AreWindow ws 1
  window_one ws name e0 is-name bad = first_wrong AreWindow ws 1 (omega (arith, within_at ws 0 name e0)) (begins AreWindow _ _ _ (front_one ws name e0) (window_sample spelled name is-name))
      (λ all is same. bad is.1.start_text is.0.start (same 1 (omega arith) ∙ ap (λ l. slice_get l 1) is.1.are) is.1.start_is)

  pub window_two : (ws : List (List ℕ)) (name text : List ℕ) (start : ℕ) → Found ws name text start
      → ((last : List ℕ) (at : ℕ) → slice_get ws 2 ≡ Some last → Spells last at → start ≤ at → ⊥) → IsFirstWrong AreWindow ws 2
  window_two ws name text start found bad = first_wrong AreWindow ws 2 (omega (arith, within_at ws 1 text found.one_is))
      (begins AreWindow _ (text ∷ []) _ (front_two ws name text found.zero_is found.one_is) (
        record { stream = name; start = start; end = start },
        record { start_text = text; end_text = text; are = refl; name = found.name_is; start_is = found.start_is; end_is = found.start_is; in_order = omega arith },
      ))
      (λ all is same.
      let first : text ≡ is.1.start_text = same_word (sym found.one_is ∙ same 1 (omega arith) ∙ ap (λ l. slice_get l 1) is.1.are) in
      let one : start ≡ is.0.start = one_stamp is.1.start_text start is.0.start (subst (λ (l : List ℕ). Spells l start) first found.start_is) is.1.start_is in
      bad is.1.end_text is.0.end (same 2 (omega arith) ∙ ap (λ l. slice_get l 2) is.1.are) is.1.end_is (omega (arith, one, is.1.in_order)))

  pub window_three : (ws : List (List ℕ)) (name text last : List ℕ) (start end : ℕ) → Found ws name text start → slice_get ws 2 ≡ Some last → Spells last end → start ≤ end → 3 < length ws
      → IsFirstWrong AreWindow ws 3
  window_three ws name text last start end found e2 is-end le more = first_wrong AreWindow ws 3 (omega arith)
      (begins AreWindow _ [] _ (front_three ws name text last found.zero_is found.one_is e2) (
        record { stream = name; start = start; end = end },
        record { start_text = text; end_text = last; are = refl; name = found.name_is; start_is = found.start_is; end_is = is-end; in_order = le },
      ))
      (λ all is same. none_some (sym (sym (slice_get-get_or ws 3 [] more) ∙ same 3 (omega arith) ∙ ap (λ l. slice_get l 3) is.1.are)))

pub window_whole : (ws : List (List ℕ)) (name text last : List ℕ) → slice_get ws 0 ≡ Some name → slice_get ws 1 ≡ Some text → slice_get ws 2 ≡ Some last → length ws ≤ 3 → ws ≡ name ∷ text ∷ last ∷ []
window_whole ws name text last e0 e1 e2 le = sym (take_all 3 ws le) ∙ front_three ws name text last e0 e1 e2

-- ---- a window that other words may follow

front_short : (n : ℕ) (l : List (List ℕ)) → length (take n l) ≤ n
front_short zero l = omega arith
front_short (suc n) [] = omega arith
front_short (suc n) (x ∷ l) = let le = front_short n l in omega (arith, le)

front_within : (n : ℕ) (l : List (List ℕ)) → length (take n l) ≤ length l
front_within zero l = omega arith
front_within (suc n) [] = omega arith
front_within (suc n) (x ∷ l) = let le = front_within n l in omega (arith, le)

front_reaches : (n k : ℕ) (l : List (List ℕ)) → k < n → k < length l → k < length (take n l)
front_reaches zero k l lt within = absurd (omega (arith, lt))
front_reaches (suc n) k [] lt within = absurd (omega (arith, within))
front_reaches (suc n) zero (x ∷ l) lt within = omega arith
front_reaches (suc n) (suc k) (x ∷ l) lt within = let below = front_reaches n k l (omega (arith, lt)) (omega (arith, within)) in omega (arith, below)

take_shorter : (k n : ℕ) (l : List (List ℕ)) → k ≤ n → take k (take n l) ≡ take k l
take_shorter zero n l le = refl
take_shorter (suc k) zero l le = absurd (omega (arith, le))
take_shorter (suc k) (suc n) [] le = refl
take_shorter (suc k) (suc n) (x ∷ l) le = ap (λ t. x ∷ t) (take_shorter k n l (omega (arith, le)))

nil_of : (l : List (List ℕ)) → length l ≡ 0 → l ≡ []
nil_of [] e = refl
nil_of (x ∷ l) e = absurd (omega (arith, e))

three_words : (l : List (List ℕ)) → AreWindow l → length l ≡ 3
three_words l is = ap length is.1.are

-- three words that are wrong are so before their end
below_three : (l : List (List ℕ)) (k : ℕ) → IsFirstWrong AreWindow (take 3 l) k → k < 3
below_three l zero is = omega arith
below_three l (suc zero) is = omega arith
below_three l (suc (suc zero)) is = omega arith
below_three l (suc (suc (suc m))) is =
    let short : length (take 3 l) ≤ 3 = front_short 3 l in
    let whole : take (suc (suc (suc m))) (take 3 l) ≡ take 3 l = take_all (suc (suc (suc m))) (take 3 l) (omega (arith, short)) in
    let window : AreWindow (take 3 l ++ is.before.0) = subst (λ t. AreWindow (t ++ is.before.0)) whole is.before.1 in
    let count : length (take 3 l ++ is.before.0) ≡ 3 = three_words _ window in
    let sum : length (take 3 l ++ is.before.0) ≡ length (take 3 l) + length is.before.0 = length-append (take 3 l) is.before.0 in
    let none : is.before.0 ≡ [] = nil_of is.before.0 (omega (arith, count, sum, is.within)) in
    absurd (is.refused (subst AreWindow (append-nil (take 3 l)) (subst (λ r. AreWindow (take 3 l ++ r)) none window)))

-- a window in front, and something behind it
pub record IsInFront (l : List (List ℕ)) : Type 0 where
  pub next : List (List ℕ)
  pub last : List (List ℕ)
  pub are : l ≡ next ++ last
  pub window : AreWindow next

module _ (Allowed : List (List ℕ) → Type 0) (into : (l : List (List ℕ)) → AreWindow l → Allowed l) (out : (l : List (List ℕ)) → Allowed l → IsInFront l) where
  pub wrong_in_front : (l : List (List ℕ)) (k : ℕ) → IsFirstWrong AreWindow (take 3 l) k → IsFirstWrong Allowed l k
  wrong_in_front l k is = record {
    within = let le = front_within 3 l in omega (arith, is.within, le);
    before = (is.before.0, into _ (subst (λ t. AreWindow (t ++ is.before.0)) (take_shorter k 3 l (omega (arith, below_three l k is))) is.before.1));
    not_there = λ lt begin. not_behind lt begin.0 (out _ begin.1);
    refused = λ a. not_whole (out l a);
  }
    where
      not_behind : k < length l → (rest : List (List ℕ)) → IsInFront (take (k + 1) l ++ rest) → ⊥
      not_behind lt rest front =
          let below : k < 3 = below_three l k is in
          let long : length front.next ≡ 3 = three_words front.next front.window in
          let given : take (k + 1) (take (k + 1) l ++ rest) ≡ take (k + 1) l = take_at (take (k + 1) l) rest (k + 1) (length-take-le (k + 1) l (omega (arith, lt))) in
          let its : take (k + 1) (front.next ++ front.last) ≡ take (k + 1) front.next = take-append-le (k + 1) front.next front.last (omega (arith, below, long)) in
          let same : take (k + 1) l ≡ take (k + 1) front.next = sym given ∙ ap (λ t. take (k + 1) t) front.are ∙ its in
          let short : take (k + 1) (take 3 l) ≡ take (k + 1) front.next = take_shorter (k + 1) 3 l (omega (arith, below)) ∙ same in
          is.not_there (front_reaches 3 k l below lt)
          (drop (k + 1) front.next, subst (λ t. AreWindow (t ++ drop (k + 1) front.next)) (sym short) (subst AreWindow (sym (take-append-drop (k + 1) front.next)) front.window))

      not_whole : IsInFront l → ⊥
      not_whole front =
          let long : length front.next ≡ 3 = three_words front.next front.window in
          let same : take 3 l ≡ front.next = ap (λ t. take 3 t) front.are ∙ take_at front.next front.last 3 long in
          is.refused (subst AreWindow (sym same) front.window)
