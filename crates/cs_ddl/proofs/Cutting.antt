-- Cutting tokens off one after the other.
use Rattle.std.proofs.Common.{◌≡◌, ℕ, zero, suc, ◌+◌, ◌-◌, ◌≤◌, ◌<◌, true, false, List, [], ◌∷◌, ◌++◌, length, Option, get_or, take, drop, refl, sym, ap, ◌∙◌, append_assoc, arith}
use Rattle.std.proofs.lemmas.List.{drop-drop, drop_more, take_rest, drop_all}
use Rattle.cs_ddl.specs.declared.token.Kind.{Kind}
use Rattle.cs_ddl.specs.Token.{Lexeme}
use Rattle.cs_ddl.specs.Lex.{is_blank, kind_and_len, token_of, cut}

pub cut_skip : (k at : ℕ) (bytes : List ℕ) → cut k at bytes ≡ cut 0 (at + k) (drop k bytes)
unfolding cut
cut_skip zero at bytes = let e : at + 0 ≡ at = omega arith in rw e refl
cut_skip (suc k) at [] = refl
cut_skip (suc k) at (b ∷ bytes) = let e : at + suc k ≡ (at + 1) + k = omega arith in rw e (cut_skip k (at + 1) bytes)

pub cut_blank : (at b : ℕ) (bytes : List ℕ) → is_blank b ≡ true → cut 0 at (b ∷ bytes) ≡ cut 0 (at + 1) bytes
unfolding cut
cut_blank at b bytes e = rw e refl

pub cut_token : (at b : ℕ) (bytes : List ℕ) → is_blank b ≡ false → cut 0 at (b ∷ bytes) ≡ token_of at b bytes ∷ cut (kind_and_len b bytes).1 (at + 1) bytes
unfolding cut
cut_token at b bytes e = rw e refl

pub step_blank : (text : List ℕ) (at : ℕ) → at < length text → is_blank (get_or text at 0) ≡ true → cut 0 at (drop at text) ≡ cut 0 (at + 1) (drop (at + 1) text)
step_blank text at lt e = rw (drop_more text at 0 lt) (cut_blank at (get_or text at 0) (drop (at + 1) text) e)

-- the token that is pushed is the one at the front
pub pushed : (text : List ℕ) (at : ℕ) (r : Option Kind × ℕ) (new : Lexeme) → at < length text → r ≡ kind_and_len (get_or text at 0) (take (length text - (at + 1)) (drop (at + 1) text))
    → new ≡ record { kind = r.0; text = take ((at + 1 + r.1) - at) (drop at text); at = at } → new ≡ token_of at (get_or text at 0) (drop (at + 1) text)
pushed text at r new lt is e =
    let is' : r ≡ kind_and_len (get_or text at 0) (drop (at + 1) text) = is ∙ ap (kind_and_len (get_or text at 0)) (take_rest text (at + 1)) in
    let n : (at + 1 + r.1) - at ≡ suc r.1 = omega arith in
    let t : take ((at + 1 + r.1) - at) (drop at text) ≡ get_or text at 0 ∷ take r.1 (drop (at + 1) text) = rw (n, drop_more text at 0 lt) refl in
    e ∙ rw t (ap (λ (r : Option Kind × ℕ). record { kind = r.0; text = get_or text at 0 ∷ take r.1 (drop (at + 1) text); at = at }) is')

pub step_token : (text : List ℕ) (at : ℕ) (r : Option Kind × ℕ) (new : Lexeme) (front : List Lexeme) → at < length text → is_blank (get_or text at 0) ≡ false → r ≡ kind_and_len (get_or text at 0) (take (length text - (at + 1)) (drop (at + 1) text))
    → new ≡ token_of at (get_or text at 0) (drop (at + 1) text)
    → front ++ cut 0 at (drop at text) ≡ (front ++ new ∷ []) ++ cut 0 (at + (1 + r.1)) (drop (at + (1 + r.1)) text)
step_token text at r new front lt e is one =
    let b = get_or text at 0 in
    let bytes = drop (at + 1) text in
    let is' : (kind_and_len b bytes).1 ≡ r.1 = sym (ap (λ (r : Option Kind × ℕ). r.1) (is ∙ ap (kind_and_len b) (take_rest text (at + 1)))) in
    let first : cut 0 at (drop at text) ≡ token_of at b bytes ∷ cut (kind_and_len b bytes).1 (at + 1) bytes = rw (drop_more text at 0 lt) (cut_token at b bytes e) in
    let n : (at + 1) + r.1 ≡ at + (1 + r.1) = omega arith in
    let rest : cut (kind_and_len b bytes).1 (at + 1) bytes ≡ cut 0 (at + (1 + r.1)) (drop (at + (1 + r.1)) text) =
    ap (λ k. cut k (at + 1) bytes) is' ∙ (cut_skip r.1 (at + 1) bytes ∙ (ap (λ bs. cut 0 (at + 1 + r.1) bs) (drop-drop r.1 (at + 1) text) ∙ ap (λ k. cut 0 k (drop k text)) n)) in
    ap (λ ts. front ++ ts) (first ∙ (ap (λ ts. token_of at b bytes ∷ ts) rest ∙ ap (λ t. t ∷ cut 0 (at + (1 + r.1)) (drop (at + (1 + r.1)) text)) (sym one))) ∙ sym (append_assoc front (new ∷ []) _)

pub cut_end : (text : List ℕ) (at : ℕ) → length text ≤ at → cut 0 at (drop at text) ≡ []
unfolding cut
cut_end text at le = rw (drop_all at text le) refl
