use Rattle.std.proofs.Common.{◌≡◌, ◌∙◌, sym, ap, ℕ, ◌+◌, ◌-◌, ◌≤◌, List, ◌++◌, length, take, drop, arith, Some, None, MatchOption, Bool, true, false, ◌&&◌, nat_le, refl, rules, if◌then◌else◌}
use Rattle.std.specs.declared.option.Option.{Option}
use Rattle.std.proofs.lemmas.List.{take-append-drop, length-append, drop-drop, append_assoc}
use Rattle.std.proofs.Math.Seq.{take-append_seam, drop-append_seam}
use Rattle.cs_http.specs.Line.{IsBetween, text_between}
use Rattle.std.specs.Str.{bytes_eq}
use Rattle.std.proofs.lemmas.Bool.{and_parts}
use Rattle.std.proofs.lemmas.Slice.Eq.{bytes_eq-Decides}

-- a line whose ends are these has the text between them
pub is_between : (front back line : List ℕ) → length front + length back ≤ length line → take (length front) line ≡ front → drop (length line - length back) line ≡ back
    → IsBetween front back line (take (length line - length back - length front) (drop (length front) line))
is_between front back line fits f b =
    let m = length line - length back - length front in
    let ends : length front + m ≡ length line - length back = omega (arith, fits) in
    let back_is : drop m (drop (length front) line) ≡ back = drop-drop m (length front) line ∙ ap (λ k. drop k line) ends ∙ b in
    let parts : take m (drop (length front) line) ++ drop m (drop (length front) line) ≡ drop (length front) line = take-append-drop m (drop (length front) line) in
    sym (take-append-drop (length front) line) ∙ ap (λ xs. xs ++ drop (length front) line) f
    ∙ ap (λ xs. front ++ xs) (sym parts ∙ ap (λ xs. take m (drop (length front) line) ++ xs) back_is)
    ∙ sym (append_assoc front (take m (drop (length front) line)) back)

-- a line with these ends is as long as both
pub long_enough : (front back line text : List ℕ) → IsBetween front back line text → length front + length back ≤ length line
long_enough front back line text e =
    omega (arith, ap length e, length-append (front ++ text) back, length-append front text)

-- a line with these ends begins with the first
pub front_stands : (front back line text : List ℕ) → IsBetween front back line text → take (length front) line ≡ front
front_stands front back line text e = ap (take (length front)) (e ∙ append_assoc front text back) ∙ take-append_seam front (text ++ back)

-- a line with these ends ends with the second
pub back_stands : (front back line text : List ℕ) → IsBetween front back line text → drop (length line - length back) line ≡ back
back_stands front back line text e =
    let at : length line - length back ≡ length (front ++ text) = omega (arith, ap length e, length-append (front ++ text) back) in
    ap (λ k. drop k line) at ∙ ap (drop (length (front ++ text))) e ∙ drop-append_seam (front ++ text) back

-- and the text between them is the only one
pub text_is : (front back line text : List ℕ) → IsBetween front back line text → text ≡ take (length line - length back - length front) (drop (length front) line)
text_is front back line text e =
    let behind : drop (length front) line ≡ text ++ back = ap (drop (length front)) (e ∙ append_assoc front text back) ∙ drop-append_seam front (text ++ back) in
    let size : length line - length back - length front ≡ length text = omega (arith, ap length e, length-append (front ++ text) back, length-append front text) in
    sym (ap (λ k. take k (drop (length front) line)) size ∙ ap (take (length text)) behind ∙ take-append_seam text back)

no_text : (front back line : List ℕ) (a : Bool) → ((text : List ℕ) → IsBetween front back line text → ⊥)
    → (nat_le (length front + length back) (length line) && (bytes_eq (take (length front) line) front && bytes_eq (drop (length line - length back) line) back)) ≡ a
    → (if a then Some (take (length line - length back - length front) (drop (length front) line)) else None) ≡ None
no_text front back line false none e = refl
no_text front back line true none e =
    let x = and_parts (nat_le (length front + length back) (length line)) (bytes_eq (take (length front) line) front && bytes_eq (drop (length line - length back) line) back) e in
    let y = and_parts (bytes_eq (take (length front) line) front) (bytes_eq (drop (length line - length back) line) back) x.1 in
    absurd (none (take (length line - length back - length front) (drop (length front) line)) (is_between front back line (grind (arith, x.0)) ((bytes_eq-Decides _ _).0 y.0) ((bytes_eq-Decides _ _).0 y.1)))

-- the text between its ends, where there is one
pub between_is : (front back line : List ℕ) (r : Option (List ℕ)) → MatchOption r ((text : List ℕ) → IsBetween front back line text → ⊥) (λ text. IsBetween front back line text) → text_between front back line ≡ r
between_is front back line None none = no_text front back line _ none refl
between_is front back line (Some text) is =
    let fits : nat_le (length front + length back) (length line) ≡ true = search (rules, long_enough front back line text is) in
    let f : bytes_eq (take (length front) line) front ≡ true = (bytes_eq-Decides _ _).1 (front_stands front back line text is) in
    let b : bytes_eq (drop (length line - length back) line) back ≡ true = (bytes_eq-Decides _ _).1 (back_stands front back line text is) in
    rw (fits, f, b) (ap Some (sym (text_is front back line text is)))
