-- A source that is read piece by piece.
use Rattle.std.proofs.Common.{◌≡◌, ◌<◌, ◌≤◌, ◌+◌, ◌-◌, ℕ, zero, suc, List, [], ◌∷◌, ◌++◌, length, take, drop, min, Option, None, Some, IfSome, Result, Ok, Err, IfOk, IfErr, Bool, true, false, nat_lt, refl, sym, ap, subst, ◌∙◌, append_assoc, append-nil, arith}
use Rattle.std.specs.Io.KnownBytes.{Consumes, IsAtEnd}
use Rattle.std.proofs.lemmas.List.{length-append, length-take, take_all, take-append-drop}
use Rattle.std.proofs.Math.Seq.{take-append-add, take-nil}
use Rattle.cs_script.specs.Progress.{HasRead, IsGiven}
use Rattle.cs_script.specs.Script.{most_bytes, IsReadOf}
use Rattle.cs_script.specs.declared.reader.Reader.{Reader}

consumes_more : (a b c : Option (List ℕ)) (xs ys : List ℕ) → Consumes a b xs → Consumes b c ys → Consumes a c (xs ++ ys)
consumes_more None b c xs ys p q = tt
consumes_more (Some x) None c xs ys p q = absurd p
consumes_more (Some x) (Some y) None xs ys p q = absurd q
consumes_more (Some x) (Some y) (Some z) xs ys p q = p ∙ ap (λ l. xs ++ l) q ∙ sym (append_assoc xs ys z)

take_less : (m n : ℕ) (xs : List ℕ) → m ≤ n → take m (take n xs) ≡ take m xs
take_less zero n xs le = refl
take_less (suc m) zero xs le = absurd (omega arith)
take_less (suc m) (suc n) [] le = refl
take_less (suc m) (suc n) (x ∷ xs) le = ap (λ l. x ∷ l) (take_less m n xs (omega arith))

lt_true : (a b : ℕ) → nat_lt a b ≡ true → a ≤ b
lt_true a b h = grind (arith, h)

lt_false : (a b : ℕ) → nat_lt a b ≡ false → b ≤ a
lt_false a b h = grind (arith, h)

pub IfOk-some : {T E : Type 0} (r : Result T E) (first : Option (List ℕ)) (Q : List ℕ → T → Type 0) → IfSome first (λ b. IfOk r (Q b)) → IfOk r (λ t. IfSome first (λ b. Q b t))
IfOk-some (Ok t) None Q h = tt
IfOk-some (Ok t) (Some b) Q h = h
IfOk-some (Err e) first Q h = tt

pub IfErr-some : {T E : Type 0} (r : Result T E) (first : Option (List ℕ)) (Q : List ℕ → E → Type 0) → IfSome first (λ b. IfErr r (Q b)) → IfErr r (λ e. IfSome first (λ b. Q b e))
IfErr-some (Ok t) first Q h = tt
IfErr-some (Err e) None Q h = tt
IfErr-some (Err e) (Some b) Q h = h

consumes_none : (first : Option (List ℕ)) → Consumes first first []
consumes_none None = tt
consumes_none (Some xs) = refl

-- before the first piece
pub given_none : (first : Option (List ℕ)) (reader : Reader) → HasRead reader [] → IsGiven first first reader 0 []
given_none first reader none = record {
  taken = consumes_none first;
  given = subst (λ (l : List ℕ). HasRead reader l) (sym (take-nil most_bytes)) none;
  count = refl;
}

module _ (first before after : Option (List ℕ)) (reader : Reader) (total : ℕ) (bytes piece : List ℕ) (count : ℕ)
    (is : IsGiven first before reader total bytes) (small : total ≤ most_bytes) (read : Consumes before after (take count piece)) where
  whole : take most_bytes bytes ≡ bytes
  whole = take_all most_bytes bytes (omega (arith, is.count, small))

  pub given_bytes : HasRead reader bytes
  given_bytes = subst (λ (l : List ℕ). HasRead reader l) whole is.given

  -- at the end, all bytes were given
  pub at_end : count ≡ 0 → IsAtEnd after → (P : List ℕ → Type 0) → ((all : List ℕ) → HasRead reader all → length all ≤ most_bytes → P all) → IfSome first P
  at_end none end P f = by first after (subst (λ (l : List ℕ). Consumes first after l) (ap (λ n. bytes ++ take n piece) none ∙ append-nil bytes) (consumes_more first before after bytes (take count piece) is.taken read)) end
    where
      by : (first after : Option (List ℕ)) → Consumes first after bytes → IsAtEnd after → IfSome first P
      by None after h e = tt
      by (Some x) None h e = absurd h
      by (Some x) (Some y) h e = subst P (sym (h ∙ ap (λ l. bytes ++ l) e ∙ append-nil bytes)) (f bytes given_bytes (omega (arith, is.count, small)))

  module _ (kept : ℕ) (kept_is : kept ≡ min count (most_bytes - total)) (bound : count ≤ length piece) where
    pub kept_short : length (bytes ++ take kept piece) ≤ most_bytes
    kept_short = omega (arith, length-append bytes (take kept piece), length-take {A = ℕ} kept piece, is.count, kept_is, small)

    kept_of_read : take kept piece ++ drop kept (take count piece) ≡ take count piece
    kept_of_read = ap (λ l. l ++ drop kept (take count piece)) (sym (take_less kept count piece (omega (arith, kept_is)))) ∙ take-append-drop kept (take count piece)

    -- the given bytes stand before a rest
    pub before_rest : (P : List ℕ → Type 0) → ((rest : List ℕ) → P ((bytes ++ take kept piece) ++ rest)) → IfSome first P
    before_rest P f = by first after (consumes_more first before after bytes (take count piece) is.taken read)
      where
        by : (first after : Option (List ℕ)) → Consumes first after (bytes ++ take count piece) → IfSome first P
        by None after h = tt
        by (Some x) None h = absurd h
        by (Some x) (Some y) h =
            let shape : (bytes ++ take kept piece) ++ (drop kept (take count piece) ++ y) ≡ x =
            append_assoc bytes (take kept piece) (drop kept (take count piece) ++ y)
            ∙ ap (λ l. bytes ++ l) (sym (append_assoc (take kept piece) (drop kept (take count piece)) y) ∙ ap (λ l. l ++ y) kept_of_read)
            ∙ sym (append_assoc bytes (take count piece) y) ∙ sym h in
            subst P shape (f (drop kept (take count piece) ++ y))

    first_of_read : (left : ℕ) → left ≡ most_bytes - total → take left (take count piece) ≡ take kept piece
    first_of_read left e = by (nat_lt count left) refl
      where
        by : (b : Bool) → nat_lt count left ≡ b → take left (take count piece) ≡ take kept piece
        by true h =
            let le : count ≤ left = lt_true count left h in
            take_all left (take count piece) (omega (arith, length-take {A = ℕ} count piece, le)) ∙ ap (λ n. take n piece) (omega (arith, le, kept_is, e))
        by false h =
            let le : left ≤ count = lt_false count left h in
            take_less left count piece le ∙ ap (λ n. take n piece) (omega (arith, le, kept_is, e))

    -- more bytes were given
    pub given_more : (next : Reader) → HasRead next (bytes ++ take kept piece) → IsGiven first after next (total + count) (bytes ++ take count piece)
    given_more next given = record {
      taken = consumes_more first before after bytes (take count piece) is.taken read;
      given = subst (λ (l : List ℕ). HasRead next l) (sym front) given;
      count = omega (arith, length-append bytes (take count piece), length-take {A = ℕ} count piece, is.count, bound);
    }
      where
        room : most_bytes ≡ length bytes + (most_bytes - total)
        room = omega (arith, is.count, small)

        front : take most_bytes (bytes ++ take count piece) ≡ bytes ++ take kept piece
        front = ap (λ n. take n (bytes ++ take count piece)) room ∙ take-append-add bytes (take count piece) (most_bytes - total) ∙ ap (λ l. bytes ++ l) (first_of_read (most_bytes - total) refl)

-- more bytes than a script has were read
pub long_given : (first now : Option (List ℕ)) (reader : Reader) (total : ℕ) (bytes : List ℕ) → IsGiven first now reader total bytes → most_bytes < total
    → (P : List ℕ → Type 0) → ((given rest : List ℕ) → HasRead reader given → length given ≡ most_bytes → 0 < length rest → P (given ++ rest)) → IfSome first P
long_given None now reader total bytes is more P f = tt
long_given (Some x) None reader total bytes is more P f = absurd is.taken
long_given (Some x) (Some y) reader total bytes is more P f =
    let shape : take most_bytes bytes ++ (drop most_bytes bytes ++ y) ≡ x = sym (append_assoc (take most_bytes bytes) (drop most_bytes bytes) y) ∙ ap (λ l. l ++ y) (take-append-drop most_bytes bytes) ∙ sym is.taken in
    let parts : length (take most_bytes bytes) + length (drop most_bytes bytes) ≡ length bytes = sym (length-append (take most_bytes bytes) (drop most_bytes bytes)) ∙ ap length (take-append-drop most_bytes bytes) in
    let front : length (take most_bytes bytes) ≡ most_bytes = omega (arith, length-take {A = ℕ} most_bytes bytes, is.count, more) in
    subst P shape (f (take most_bytes bytes) (drop most_bytes bytes ++ y) is.given front (omega (arith, length-append (drop most_bytes bytes) y, parts, front, is.count, more)))

-- what was read of a source, where it tells it
pub read_of : (first after : Option (List ℕ)) (given : List ℕ) → Consumes first after given → length given ≤ 67108865 → IfSome first (λ bytes. IfSome after (λ left. IsReadOf bytes left))
read_of None after given h short = tt
read_of (Some x) None given h short = absurd h
read_of (Some x) (Some y) given h short = (given, h, short)

-- and the like with a piece more
pub read_more : (first before after : Option (List ℕ)) (reader : Reader) (total : ℕ) (bytes piece : List ℕ) (count : ℕ) → IsGiven first before reader total bytes → Consumes before after (take count piece) → total + count ≤ 67108865
    → IfSome first (λ bytes. IfSome after (λ left. IsReadOf bytes left))
read_more first before after reader total bytes piece count is read short =
    read_of first after (bytes ++ take count piece) (consumes_more first before after bytes (take count piece) is.taken read) (omega (arith, length-append bytes (take count piece), length-take {A = ℕ} count piece, is.count, short))
