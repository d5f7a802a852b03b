-- Numbered tokens differ.
use Rattle.std.proofs.Common.{◌≡◌, ◌≢◌, ℕ, zero, suc, ◌+◌, ◌/◌, ◌%◌, ◌<◌, ◌≤◌, List, [], ◌∷◌, ◌++◌, length, get_or, sym, ap, ◌∙◌, subst, arith}
use Rattle.std.specs.List.{AllPairs}
use Rattle.cs_place.specs.declared.part.Part.{Part}
use Rattle.cs_partitions.specs.Tokens.{last_digits, token_of, AreNumbered}

append_same : (xs ys zs : List ℕ) → xs ++ ys ≡ xs ++ zs → ys ≡ zs
append_same [] ys zs e = e
append_same (x ∷ xs) ys zs e = append_same xs ys zs (cc)

digits_same : (m n : ℕ) → m < 100000 → n < 100000 → last_digits 5 m ≡ last_digits 5 n → m ≡ n
digits_same m n lm ln e =
    let e0 : 48 + m % 10 ≡ 48 + n % 10 = cc in
    let e1 : 48 + m / 10 % 10 ≡ 48 + n / 10 % 10 = cc in
    let e2 : 48 + m / 10 / 10 % 10 ≡ 48 + n / 10 / 10 % 10 = cc in
    let e3 : 48 + m / 10 / 10 / 10 % 10 ≡ 48 + n / 10 / 10 / 10 % 10 = cc in
    let e4 : 48 + m / 10 / 10 / 10 / 10 % 10 ≡ 48 + n / 10 / 10 / 10 / 10 % 10 = cc in
    omega (arith, e0, e1, e2, e3, e4)

pub tokens_differ : (stream : List ℕ) (m n : ℕ) → m < 100000 → n < 100000 → token_of stream m ≡ token_of stream n → m ≡ n
unfolding token_of
tokens_differ stream m n lm ln e =
    let digits = append_same stream (45 ∷ last_digits 5 m) (45 ∷ last_digits 5 n) e in
    digits_same m n lm ln (cc)

pub numbered_at : (stream : List ℕ) (n : ℕ) (ps : List Part) → AreNumbered stream n ps → (k : ℕ) (d : Part) → k < length ps → (get_or ps k d).token ≡ token_of stream (n + k)
numbered_at stream n [] h k d l = absurd (omega (arith, l))
numbered_at stream n (p ∷ ps) h zero d l = h.0 ∙ ap (token_of stream) (omega arith)
numbered_at stream n (p ∷ ps) h (suc k) d l = numbered_at stream (suc n) ps h.1 k d (omega (arith, l)) ∙ ap (token_of stream) (omega arith)

pub numbered_differ : (stream : List ℕ) (ps : List Part) → AreNumbered stream 0 ps → length ps ≤ 65536 → AllPairs (λ (a b : Part). a.token ≢ b.token) ps
numbered_differ stream ps h most i j d l m e =
    let same : token_of stream i ≡ token_of stream j = sym (numbered_at stream 0 ps h i d (omega (arith, l, m)) ∙ ap (token_of stream) (omega arith)) ∙ e ∙ numbered_at stream 0 ps h j d m ∙ ap (token_of stream) (omega arith) in
    let level : i ≡ j = tokens_differ stream i j (omega (arith, l, m, most)) (omega (arith, m, most)) same in
    omega (arith, l, level)

pub numbered_append : (stream : List ℕ) (n : ℕ) (xs ys : List Part) → AreNumbered stream n xs → AreNumbered stream (n + length xs) ys → AreNumbered stream n (xs ++ ys)
numbered_append stream n [] ys h k = subst (λ m. AreNumbered stream m ys) (omega arith) k
numbered_append stream n (x ∷ xs) ys h k = (h.0, numbered_append stream (suc n) xs ys h.1 (subst (λ m. AreNumbered stream m ys) (omega arith) k))
